use Rattle.std.proofs.Common.{rules, [], ◌∷◌, ◌++◌, Some, length, subst}
use Rattle.trace_model.specs.History.{push, reserve, leave}
use Rattle.nested_writer.specs.IsStack.{IsStack}
use Rattle.nested_writer.proofs.stack.WriterStack.write_raised.Goals as goal

pub returns-clause-stack : goal.returns-clause-stack
returns-clause-stack c = λ start history old.
    subst
    (IsStack start
    (history
    ++ push c.args.moment (length c.args.payload.now) ∷ reserve ∷ leave (Some c.args.payload.now) ∷ []))
    (search rules) (c.put_raised.ensures.stack start history old)
