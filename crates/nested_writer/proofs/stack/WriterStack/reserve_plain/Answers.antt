use Rattle.std.proofs.Common.{◌∷◌, [], ◌++◌, refl}
use Rattle.trace_model.specs.History.{reserve}
use Rattle.nested_writer.proofs.Allotting.{plain_after}
use Rattle.nested_writer.proofs.Answering.{plain_answer}
use Rattle.nested_writer.specs.IsStack.{IsReachedStack}
use Rattle.nested_writer.proofs.stack.WriterStack.reserve_plain.Goals as goal

pub returns-clause-slot : goal.returns-clause-slot
returns-clause-slot c = (c.hold_plain.result, c.hold_plain.ensures.slot, refl)

pub returns-clause-after : goal.returns-clause-after
returns-clause-after c = (
  c.hold_plain.result.place,
  plain_after c.args.self.now c.hold_plain.new.self c.args.pushed c.hold_plain.result.place c.requires.plain
      c.hold_plain.ensures.reserved c.hold_plain.ensures.stack,
)

pub returns-clause-stays : goal.returns-clause-stays
unfolding IsReachedStack
returns-clause-stays c = let (start, history, k) = c.requires.stack in
    (start, history ++ reserve ∷ [], c.hold_plain.ensures.stack start history k)

pub returns-clause-answered : goal.returns-clause-answered
returns-clause-answered c =
    λ start history k. (
      c.hold_plain.result.place,
      plain_answer start history c.args.self.now k c.args.pushed c.hold_plain.result.place c.requires.plain,
    )
