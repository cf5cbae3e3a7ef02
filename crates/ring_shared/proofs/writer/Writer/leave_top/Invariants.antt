use Rattle.std.specs.Prelude.{◌≡◌, List, ◌∷◌, length}
use Rattle.trace_model.specs.Frames.{Frame}
use Rattle.ring_frames.specs.Answers.{KeepsPayloads}
use Rattle.ring_shared.specs.Value.{SameWriter}
use Rattle.ring_shared.specs.Calls.{IsWriter}
use Rattle.ring_shared.specs.Nearer.{rank_of}
use Rattle.ring_shared.proofs.Finishes.{IsStillLeaving}
use Rattle.ring_shared.proofs.writer.Writer.leave_top.Given as goal

abbrev pub invariant-loop-answer : goal.invariant-loop-answer
invariant-loop-answer l = record {
  writer : IsWriter l.self;
  ring : SameWriter l.fn.self l.self;
  depth : l.depth ≡ length l.self.part.frames;
  some : (frame : Frame) × (below : List Frame) × (l.fn.self.part.frames ≡ frame ∷ below);
  part_way : (frame : Frame) (below : List Frame) → l.fn.self.part.frames ≡ frame ∷ below
      → IsStillLeaving l.fn.self.shape below l.fn.self.part l.met l.self.part;
  payloads : KeepsPayloads l.fn.self.frames.stack l.self.frames.stack;
}

abbrev pub decreases-loop-answer : goal.decreases-loop-answer
decreases-loop-answer l = rank_of l.self
