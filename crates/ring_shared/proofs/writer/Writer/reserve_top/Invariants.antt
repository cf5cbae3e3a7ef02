use Rattle.std.specs.Prelude.{◌≡◌, List, ◌∷◌}
use Rattle.trace_model.specs.Frames.{Frame}
use Rattle.ring_frames.specs.Answers.{KeepsPayloads}
use Rattle.ring_shared.specs.Value.{SameWriter}
use Rattle.ring_shared.specs.Calls.{IsWriter}
use Rattle.ring_shared.specs.Nearer.{rank_of}
use Rattle.ring_shared.proofs.Finishes.{IsStillReserving}
use Rattle.ring_shared.proofs.writer.Writer.reserve_top.Given as goal

abbrev pub invariant-loop-last : goal.invariant-loop-last
invariant-loop-last l = record {
  writer : IsWriter l.self;
  ring : SameWriter l.fn.self l.self;
  some : (frame : Frame) × (below : List Frame) × (l.fn.self.part.frames ≡ frame ∷ below);
  part_way : (frame : Frame) (below : List Frame) → l.fn.self.part.frames ≡ frame ∷ below
      → IsStillReserving l.fn.self.shape frame.kind below l.fn.self.part l.self.part;
  payloads : KeepsPayloads l.fn.self.frames.stack l.self.frames.stack;
}

abbrev pub decreases-loop-last : goal.decreases-loop-last
decreases-loop-last l = rank_of l.self
