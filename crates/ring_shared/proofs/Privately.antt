-- What the writer's frames make of a private event is a call.
use Rattle.std.proofs.Common.{◌≡◌, List, [], sym, ap, ◌∙◌, subst}
use Rattle.trace_model.specs.Ring.{Core}
use Rattle.trace_model.specs.Steps as model
use Rattle.trace_model.proofs.steps.StepSound.{cases_of}
use Rattle.ring_model.specs.Seats.{PhaseIsPrivate}
use Rattle.ring_model.proofs.seats.PrivateSteps.{private_result, changes_privately}
use Rattle.nested_writer.specs.Stack.{opened}
use Rattle.ring_frames.specs.declared.answer.Answer.{Answer}
use Rattle.ring_frames.specs.Value.{phase_of}
use Rattle.ring_frames.specs.Answers.{top_bytes}
use Rattle.ring_frames.specs.AreFrames.{AreFrames}
use Rattle.ring_frames.specs.Steps.{MakesPrivate}
use Rattle.ring_frames.proofs.Asked.{may_end, steps_are_private}
use Rattle.ring_frames.proofs.Same.{same_frames}
use Rattle.ring_steps.specs.declared.rule.Shape.{Shape}
use Rattle.ring_steps.specs.Made.{WriterMade, writer_made_of}
use Rattle.ring_steps.specs.Views.{Writing, writing_of, writing_after}
use Rattle.ring_steps.specs.Seats.{Leads}
use Rattle.ring_steps.specs.Notes.{part_after}
use Rattle.ring_steps.proofs.Made.{of_writer, reached_on, reached_as, part_then, part_as}
use Rattle.ring_steps.proofs.PartAfter.{part_after_is, leads_after}
use Rattle.ring_shared.specs.Value.{WriterValue}
use Rattle.ring_shared.specs.Calls.{IsWriter, AreWriterFields, MakesSome}

-- the writer's frames are those of each state with its part
frames_there : {made : List WriterMade} (v : WriterValue) → AreWriterFields v → (c : Core) → writing_of made c ≡ v.part
    → AreFrames v.shape.pages v.shape.size v.shape.start v.frames c
frames_there v w c is = let same = is ∙ sym w.part_is in
    same_frames v.shape.pages v.shape.size v.shape.start v.frames w.core c w.frames_are
    (ap (λ (x : Writing). x.frames) same)
    (ap (λ (x : Writing). x.history) same)
    (ap (λ (x : Writing). x.done) same)
    (ap (λ (x : Writing). x.opened) same)

pub end_leads : (v : WriterValue) → AreWriterFields v
    → Leads v.shape v.part (part_after v.shape v.part (model.ends (top_bytes v.frames.stack v.frames.stack.frames)))
end_leads v w = leads_after v.shape v.part (model.ends (top_bytes v.frames.stack v.frames.stack.frames))
    (λ c reached is. (tt, may_end v.shape.pages v.shape.size v.shape.start v.frames c (frames_there v w c is)))

pub step_leads : (v : WriterValue) → AreWriterFields v
    → PhaseIsPrivate (phase_of v.frames.phase) (opened v.frames.stack)
    → Leads v.shape v.part (part_after v.shape v.part model.steps)
step_leads v w own = leads_after v.shape v.part model.steps
    (λ c reached is.
    (steps_are_private v.shape.pages v.shape.size v.shape.start v.frames c (frames_there v w c is) own, tt))

-- ---- calls

-- what the frames made in private, and the seat has noted, is a call
private_call : (old : WriterValue) (event : model.Event) (result : Answer) (new : WriterValue) → AreWriterFields old
    → new.shape ≡ old.shape → new.table ≡ old.table → new.part ≡ part_after old.shape old.part event
    → new.pages ≡ old.pages → MakesPrivate old.frames event result new.frames → MakesSome old event result new
unfolding IsWriter
private_call old event result new w shape table noted pages made =
    let n = old.shape.pages in let size = old.shape.size in let start = old.shape.start in
    let m = made n size start w.core w.reached w.frames_are in
    let after_is : writing_after old.part.made record { event = event; answer = m.answer } (writing_of [] m.after)
    ≡ new.part =
    part_after_is old.shape old.part (writer_made_of w.reached) w.core event m.answer m.after w.part_is m.private
    m.step ∙ sym noted in
    let stays =
    ap (λ (d : Core). d.open_pages)
    (changes_privately w.core m.after
    (private_result n size w.core event m.answer m.after m.private (cases_of m.step))) in
    record {
      shape_is = shape;
      table_is = table;
      call = record {
        core = w.core;
        next = m.after;
        answer = m.answer;
        is_own = (of_writer w.core event m.private).0;
        reached = w.reached;
        before_is = w.part_is;
        step = m.step;
        after_is = after_is;
        reports = m.reports;
      };
      writer = record {
        core = m.after;
        reached =
            reached_as old.shape new.shape m.after (sym shape)
            (reached_on n size start w.core event m.answer m.after w.reached m.step);
        part_is =
            part_as old.shape new.shape m.after (sym shape)
            (reached_on n size start w.core event m.answer m.after w.reached m.step) new.part
            (part_then n size start w.core event m.answer m.after w.reached m.step old.part new.part
            (of_writer w.core event m.private).0 w.part_is after_is);
        frames_are = subst (λ (s : Shape). AreFrames s.pages s.size s.start new.frames m.after) (sym shape) m.are;
        pages_are =
            ap (λ (x : Writing). x.open_pages) (sym after_is) ∙ stays ∙ ap (λ (x : Writing). x.open_pages) w.part_is
            ∙ w.pages_are ∙ sym pages;
      };
    }

-- so of the value that the writer is seen as
pub seen_call : (old now : WriterValue) (event : WriterValue → model.Event) (result : Answer) (new : WriterValue)
    → old ≡ now → AreWriterFields now → new.shape ≡ old.shape → new.table ≡ old.table
    → new.part ≡ part_after old.shape old.part (event old) → new.pages ≡ old.pages
    → MakesPrivate old.frames (event old) result new.frames → MakesSome now (event now) result new
unfolding IsWriter
seen_call old now event result new is w shape table noted pages made =
    subst (λ (v : WriterValue). MakesSome v (event v) result new) is
    (private_call old (event old) result new (subst AreWriterFields (sym is) w) shape table noted pages made)
