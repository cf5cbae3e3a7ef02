use Rattle.std.proofs.Common.{rules, subst}
use Rattle.nested_writer.specs.Stack.{Stack}
use Rattle.nested_writer.specs.Promises.{WritesWhatFits}
use Rattle.nested_writer.proofs.stack.WriterStack.write_alone.Goals as goal

pub returns-in-Nothing-clause-at_once : goal.returns-in-Nothing-clause-at_once
returns-in-Nothing-clause-at_once c =
    subst
    (λ (s : Stack). WritesWhatFits c.args.moment c.args.payload.now s c.write_any.result c.write_any.new.self)
    (search rules) c.write_any.ensures.at_once
