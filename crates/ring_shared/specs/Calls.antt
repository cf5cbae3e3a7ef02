-- What the calls of a writer make of a running ring.
use Rattle.std.specs.Prelude.{◌≡◌, Bool, true, false, List, [], ◌∷◌}
use Rattle.trace_model.specs.Frames.{Purpose, for_record, for_close, Frame}
use Rattle.trace_model.specs.Ring.{Core}
use Rattle.trace_model.specs.Steps as model
use Rattle.ring_model.specs.Reached.{IsReached}
use Rattle.ring_frames.specs.declared.answer.Answer.{Answer}
use Rattle.ring_frames.specs.Answers.{IsAnswerOf}
use Rattle.ring_frames.specs.AreFrames.{AreFrames}
use Rattle.ring_steps.specs.declared.rule.Shape.{Shape}
use Rattle.ring_steps.specs.Made.{is_by_writer, writer_made_of}
use Rattle.ring_steps.specs.Views.{Writing, writing_of, writing_after}
use Rattle.ring_shared.specs.Value.{WriterValue}

-- The writer's fields are its part of the ring, which is that of a state which steps reach.
pub record AreWriterFields (v : WriterValue) : Type 0 where
  pub core : Core
  pub reached : IsReached v.shape.pages v.shape.size v.shape.start core
  pub part_is : writing_of (writer_made_of reached) core ≡ v.part
  pub frames_are : AreFrames v.shape.pages v.shape.size v.shape.start v.frames core
  pub pages_are : v.part.open_pages ≡ v.pages

-- so they are; opaque, so that a search doesn't look for the state: who needs it writes `unfolding`
unfoldable pub IsWriter : WriterValue → Type 0
IsWriter v = AreWriterFields v

-- The event is a step of the model, from a state in which the writer's part is the first to one in which it is the
-- second, and the answer means the model's.
pub record IsCall (shape : Shape) (before : Writing) (event : model.Event) (result : Answer) (after : Writing)
    : Type 0 where
  pub core : Core
  pub next : Core
  pub answer : model.Answer
  pub is_own : is_by_writer event ≡ true
  pub reached : IsReached shape.pages shape.size shape.start core
  pub before_is : writing_of (writer_made_of reached) core ≡ before
  pub step : model.Step shape.pages shape.size core event answer next
  pub after_is : writing_after before.made record { event = event; answer = answer } (writing_of [] next) ≡ after
  pub reports : IsAnswerOf shape.size result answer

-- What the writer's call does is such a step, and the writer after it is that of the same ring.
pub record MakesSome (old : WriterValue) (event : model.Event) (result : Answer) (new : WriterValue) : Type 0 where
  pub shape_is : new.shape ≡ old.shape
  pub table_is : new.table ≡ old.table
  pub call : IsCall old.shape old.part event result new.part
  pub writer : IsWriter new

-- whether the first of these frames, which is the one on top, is a close
abbrev pub is_for_close : Purpose → Bool
is_for_close (for_record moment len) = false
is_for_close for_close = true

abbrev pub closes_first : List Frame → Bool
closes_first [] = false
closes_first (top ∷ below) = is_for_close top.kind
