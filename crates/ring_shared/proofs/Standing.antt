-- What a writer's fields state of each state with its part; and what they are after a step of the frame on top.
use Rattle.std.proofs.Common.{◌≡◌, ◌≢◌, List, [], refl, sym, ap, ◌∙◌, subst}
use Rattle.trace_model.specs.Frames.{Phase, Frame}
use Rattle.trace_model.specs.Ring.{Core}
use Rattle.trace_model.specs.Steps as model
use Rattle.ring_model.specs.RingKept.{IsRingKept}
use Rattle.ring_model.proofs.partition.RingsKept.{reached_kept}
use Rattle.ring_steps.specs.declared.rule.Shape.{Shape}
use Rattle.ring_steps.specs.Made.{WriterMade}
use Rattle.ring_steps.specs.Views.{Writing, writing_of}
use Rattle.ring_steps.specs.Seats.{IsWriterStep}
use Rattle.ring_steps.specs.Paging.{IsTopIn}
use Rattle.ring_frames.specs.declared.answer.Answer.{Answer}
use Rattle.ring_frames.specs.Value.{FramesValue, phase_of}
use Rattle.ring_frames.specs.AreFrames.{AreFrames}
use Rattle.ring_frames.specs.Answers.{IsAnswerOf}
use Rattle.ring_frames.proofs.Same.{same_frames}
use Rattle.ring_frames.proofs.Tops.{IsTopped, topped}
use Rattle.ring_steps.proofs.Made.{reached_on, reached_as, part_then, part_as}
use Rattle.ring_shared.specs.Value.{WriterValue}
use Rattle.ring_shared.specs.Calls.{IsWriter, AreWriterFields, MakesSome}

abbrev pub FramesIn : Shape → FramesValue → Core → Type 0
FramesIn shape frames c = AreFrames shape.pages shape.size shape.start frames c

pub frames_like : {made others : List WriterMade} (shape : Shape) (frames : FramesValue) (c other : Core)
    → FramesIn shape frames c → writing_of others other ≡ writing_of made c → FramesIn shape frames other
frames_like shape frames c other are same =
    same_frames shape.pages shape.size shape.start frames c other are
    (ap (λ (w : Writing). w.frames) same) (ap (λ (w : Writing). w.history) same) (ap (λ (w : Writing). w.done) same)
    (ap (λ (w : Writing). w.opened) same)

module _ (v : WriterValue) (w : AreWriterFields v) where
  pub kept_now : IsRingKept v.shape.pages v.shape.size v.shape.start w.core
  kept_now = reached_kept v.shape.pages v.shape.size v.shape.start w.core w.reached

  -- the frames are those of each state with this part
  pub frames_in : {made : List WriterMade} (c : Core) → writing_of made c ≡ v.part → FramesIn v.shape v.frames c
  frames_in c is = frames_like v.shape v.frames w.core c w.frames_are (is ∙ sym w.part_is)

  pub top_in : {made : List WriterMade} (c : Core) → writing_of made c ≡ v.part → v.frames.stack.frames ≢ []
      → IsTopped v.frames c
  top_in c is some = topped v.shape.pages v.shape.size v.shape.start v.frames c (frames_in c is) some

  -- the phase of the frame on top is that of the model's
  pub phase_shown : (phase : Phase) → v.frames.stack.frames ≢ [] → phase_of v.frames.phase ≡ phase
      → IsTopIn v.part.frames phase
  phase_shown phase some at =
      let t = top_in w.core w.part_is some in
      subst (λ (fs : List Frame). IsTopIn fs phase) (sym t.is_top ∙ ap (λ (p : Writing). p.frames) w.part_is)
      (t.phase_is ∙ at)

  -- the writer's fields after a step
  pub made : (new : WriterValue) (sees : Core → Type 0) (answer : model.Answer) (result : Answer)
      → new.shape ≡ v.shape
      → new.table ≡ v.table
      → (s : IsWriterStep v.shape v.part sees answer new.part)
      → IsAnswerOf v.shape.size result answer
      → FramesIn v.shape new.frames s.next
      → s.next.open_pages ≡ new.pages
      → MakesSome v model.steps result new
  unfolding IsWriter
  made new sees answer result shape_is table_is s reports are pages = record {
    shape_is = shape_is;
    table_is = table_is;
    call =
        record {
          core = s.core;
          next = s.next;
          answer = answer;
          is_own = refl;
          reached = s.reached;
          before_is = s.before_is;
          step = s.step;
          after_is = s.after_is;
          reports = reports;
        };
    writer = record {
      core = s.next;
      reached =
          reached_as v.shape new.shape s.next (sym shape_is)
          (reached_on v.shape.pages v.shape.size v.shape.start s.core model.steps answer s.next s.reached s.step);
      part_is =
          part_as v.shape new.shape s.next (sym shape_is)
          (reached_on v.shape.pages v.shape.size v.shape.start s.core model.steps answer s.next s.reached s.step)
          new.part
          (part_then v.shape.pages v.shape.size v.shape.start s.core model.steps answer s.next s.reached s.step v.part
          new.part refl s.before_is s.after_is);
      frames_are = subst (λ (shape : Shape). FramesIn shape new.frames s.next) (sym shape_is) are;
      pages_are = sym (ap (λ (p : Writing). p.open_pages) s.after_is) ∙ pages;
    };
  }
