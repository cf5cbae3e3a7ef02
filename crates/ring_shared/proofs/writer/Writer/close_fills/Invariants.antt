use Rattle.std.specs.Prelude.{◌≡◌, List, ◌∷◌}
use Rattle.trace_model.specs.Frames.{Frame}
use Rattle.ring_frames.specs.declared.phase.StepAnswer.TheVariants.{Going}
use Rattle.ring_frames.specs.Answers.{KeepsPayloads}
use Rattle.ring_shared.specs.Value.{SameWriter}
use Rattle.ring_shared.specs.Calls.{IsWriter}
use Rattle.ring_shared.specs.Nearer.{rank_of}
use Rattle.ring_shared.specs.Finishing.{Closes}
use Rattle.ring_shared.proofs.writer.Writer.close_fills.Given as goal

abbrev pub invariant-loop-self : goal.invariant-loop-self
invariant-loop-self l = record {
  writer : IsWriter l.self;
  ring : SameWriter l.fn.self l.self;
  some : (frame : Frame) × (below : List Frame) × (l.fn.self.part.frames ≡ frame ∷ below);
  closes : (frame : Frame) (below : List Frame) → l.fn.self.part.frames ≡ frame ∷ below
      → Closes l.fn.self.shape below l.fn.self.part Going l.self.part;
  payloads : KeepsPayloads l.fn.self.frames.stack l.self.frames.stack;
}

abbrev pub decreases-loop-self : goal.decreases-loop-self
decreases-loop-self l = rank_of l.self
