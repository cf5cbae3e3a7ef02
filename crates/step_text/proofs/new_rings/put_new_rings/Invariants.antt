-- What is written, and the rings from here on, are all of them.
use Rattle.std.proofs.Common.{◌≡◌, ◌++◌, ℕ, List, length, All}
use Rattle.trace_model.specs.Ring.{Core, IsStart}
use Rattle.world_model.specs.Lanes.{Lane, IsNewLane}
use Rattle.step_model.specs.RunTexts.{new_rings_text}
use Rattle.step_text.specs.Known.{IsKnownOf, known_in}
use Rattle.step_text.proofs.OneRingMore.{rings_text_from}
use Rattle.step_text.proofs.new_rings.put_new_rings.Given as goal

abbrev pub invariant-loop-cpu : goal.invariant-loop-cpu
invariant-loop-cpu l = (n start : ℕ) (lanes : List Lane)
    → length lanes ≡ l.cpus
    → All (IsNewLane n start) lanes
    → ((c : Core) → IsStart n start c → IsKnownOf (known_in l.known) c)
    → l.out.items ++ rings_text_from l.cpu lanes ≡ l.initial.out.items ++ new_rings_text lanes
