use Rattle.std.proofs.Common.{rules, ◌∷◌, [], ◌++◌, List, Some, length, refl, subst, append-nil}
use Rattle.trace_model.specs.History.{HistoryEvent, push, reserve, leave}
use Rattle.nested_writer.specs.IsStack.{IsStack}
use Rattle.nested_writer.proofs.stack.WriterStack.write.Goals as goal

pub returns-in-Record-clause-at_once : goal.returns-in-Record-clause-at_once
returns-in-Record-clause-at_once c = record {
  wrote = search rules;
  records = search rules;
  stack = λ yes start history k.
      let events : List HistoryEvent =
      push c.args.moment (length c.args.payload.now) ∷ reserve ∷ leave (Some c.args.payload.now) ∷ [] in
      subst (λ (g : List HistoryEvent). IsStack start g c.put_left.new.self) (append-nil (history ++ events))
      (c.put_left.ensures.stack start (history ++ events) (c.in-Record.ensures.at_once.stack refl start history k));
  stays = search rules;
  nothing = search rules;
  kept = search rules;
}
