use Rattle.std.proofs.Common.{ℕ, List, subst}
use Rattle.trace_model.specs.History.{HistoryEvent}
use Rattle.trace_model.specs.Ring.{fill_of}
use Rattle.nested_writer.specs.IsStack.{IsStack}
use Rattle.nested_writer.specs.Released.{IsRestingTail}
use Rattle.ring_frames.specs.Value.{FramesValue}
use Rattle.ring_frames.proofs.frames.Frames.resting_tail.Goals as goal

pub returns-clause-rests : goal.returns-clause-rests
returns-clause-rests c =
    subst
    (λ (v : FramesValue).
    (start : ℕ) (history : List HistoryEvent) → IsStack start history v.stack
    → IsRestingTail v.stack.size v.stack.done (fill_of history start v.stack.done) history
    c.resting_tail.result.now) c.self.view_is c.resting_tail.ensures.rests
