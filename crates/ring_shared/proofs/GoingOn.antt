-- A step on a link's word, by which the frame on top goes on in another phase, for the fill that it noted.
use Rattle.std.proofs.Common.{◌≡◌, ◌≢◌, ℕ, List, [], Some, refl, sym, ap, ◌∙◌, subst}
use Rattle.trace_model.specs.Frames.{Phase as ModelPhase, Frame, noted_fill}
use Rattle.trace_model.specs.Ring.{Core}
use Rattle.trace_model.specs.Steps as model
use Rattle.trace_model.proofs.steps.StepCases as cases
use Rattle.ring_steps.specs.Views.{Writing, writing_of}
use Rattle.ring_steps.specs.Seats.{IsWriterStep}
use Rattle.ring_frames.specs.declared.phase.Phase.{Phase}
use Rattle.ring_frames.specs.declared.answer.Answer.{Answer}
use Rattle.ring_frames.specs.declared.answer.Answer.TheVariants.{Going}
use Rattle.ring_frames.specs.Value.{phase_of}
use Rattle.ring_frames.specs.Steps.{GoesOnIn, IsNotedIn}
use Rattle.ring_shared.specs.Value.{WriterValue}
use Rattle.ring_shared.specs.Calls.{IsWriter, AreWriterFields, MakesSome}
use Rattle.ring_model.proofs.frames.TopSteps.{top_stepped}
use Rattle.ring_shared.proofs.Called.{writer_seen, top_seen, phase_seen}
use Rattle.ring_shared.proofs.Standing.{frames_like, frames_in, top_in, made}

-- the step of the frame on top in a phase makes of the writer's part that the frame goes on in another
abbrev pub Moves : WriterValue → ModelPhase → ModelPhase → Core → Core → Type 0
Moves v from to c after = (frame : Frame) (below : List Frame)
    → cases.FrameStep v.shape.pages v.shape.size c frame below from model.going after
    → writing_of [] after ≡ writing_of [] (model.in_phase c frame below to)

-- a step of a value whose view is that one, and which has this answer
as_called : (v x new : WriterValue) (result : Answer) → v ≡ x → result ≡ Going → MakesSome v model.steps Going new
    → MakesSome x model.steps result new
unfolding IsWriter
as_called v x new result view_is is makes =
    subst (λ (r : Answer). MakesSome x model.steps r new) (sym is)
    (subst (λ (y : WriterValue). MakesSome y model.steps Going new) view_is makes)

-- a call of a writer whose view is that one, in this phase: the frame goes on in another, which was chosen by what the
-- word stated
pub goes_on_called : {v x new : WriterValue} {result : Answer} (view_is : v ≡ x) (w : AreWriterFields x)
    (some : x.frames.stack.frames ≢ []) {phase : Phase} (at : x.frames.phase ≡ phase) (noted : ℕ) (chosen to : Phase)
    (sees : Core → Type 0)
    → noted_fill (phase_of phase) ≡ Some noted
    → noted_fill (phase_of to) ≡ Some noted
    → chosen ≡ to
    → new.shape ≡ v.shape
    → new.table ≡ v.table
    → new.pages ≡ v.pages
    → ((fill : ℕ) → IsNotedIn v.frames.phase chosen fill → GoesOnIn v.frames chosen new.frames)
    → result ≡ Going
    → (s : IsWriterStep v.shape v.part sees model.going new.part)
    → Moves v (phase_of phase) (phase_of to) s.core s.next
    → MakesSome x model.steps result new
unfolding IsWriter
goes_on_called {v = v} {x = x} {new = new} {result = result} view_is w some {phase = phase} at noted chosen to sees was
    is same shape_is table_is pages_is on answer s moves =
    let own : AreWriterFields v = writer_seen view_is w in
    let before = frames_in v own s.core s.before_is in
    let t = top_in v own s.core s.before_is (top_seen view_is some) in
    let here : phase_of v.frames.phase ≡ phase_of phase = phase_seen view_is at in
    let part =
    moves t.frame t.below
    (top_stepped v.shape.pages v.shape.size s.core t.frame t.below (phase_of phase) model.going s.next t.is_top
    (t.phase_is ∙ here) s.step) in
    let goes : GoesOnIn v.frames to new.frames = subst (λ (p : Phase). GoesOnIn v.frames p new.frames) same
    (on noted
    record { before = ap noted_fill here ∙ was; behind = ap (λ (p : Phase). noted_fill (phase_of p)) same ∙ is }) in
    as_called v x new result view_is answer
    (made v own new sees model.going Going shape_is table_is s refl
    (frames_like v.shape new.frames (model.in_phase s.core t.frame t.below (phase_of to)) s.next
    (goes v.shape.pages v.shape.size v.shape.start s.core t.frame t.below before t.is_top) part)
    (ap (λ (p : Writing). p.open_pages) part ∙ ap (λ (p : Writing). p.open_pages) s.before_is ∙ own.pages_are
    ∙ sym pages_is))
