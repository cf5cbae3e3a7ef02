use Rattle.nested_writer.proofs.Pushing.{pushed_close}
use Rattle.std.proofs.Common.{◌∷◌, []}
use Rattle.trace_model.specs.History.{push_close}
use Rattle.nested_writer.proofs.Staying.{has_events_stays}
use Rattle.nested_writer.proofs.stack.WriterStack.begin_close.Goals as goal

pub returns-clause-pushed : goal.returns-clause-pushed
returns-clause-pushed c = λ start history k. rw c.push.ensures (pushed_close start history c.args.self.now k)

pub returns-clause-stays : goal.returns-clause-stays
returns-clause-stays c = has_events_stays c.args.self.now _ (push_close ∷ []) (returns-clause-pushed c)
