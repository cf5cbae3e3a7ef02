-- The writer of a new ring.
use Rattle.std.proofs.Common.{◌≡◌, ◌%◌, [], ◌∷◌, sym, ap, ◌∙◌}
use Rattle.ring_frames.specs.Steps.{AreNew}
use Rattle.ring_steps.specs.NewRings.{IsShape, first_writing}
use Rattle.ring_steps.specs.Views.{Writing}
use Rattle.ring_steps.proofs.Starts.{first_state}
use Rattle.ring_shared.specs.Value.{WriterValue}
use Rattle.ring_shared.specs.Calls.{AreWriterFields}

pub new_writer : (v : WriterValue) → IsShape v.shape → v.part ≡ first_writing v.shape
    → AreNew v.shape.pages v.shape.size v.shape.start v.frames → v.pages ≡ (v.shape.start % v.shape.pages) ∷ []
    → AreWriterFields v
new_writer v is part frames pages = let (c, s, reached, first) = first_state v.shape is in record {
  core = c;
  reached = reached;
  part_is = first ∙ sym part;
  frames_are = frames c s;
  pages_are = ap (λ (w : Writing). w.open_pages) part ∙ sym pages;
}
