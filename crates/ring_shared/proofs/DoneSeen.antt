-- How many fills are closed after what the writer made of a run, and what the reader finds once it has learned of it.
use Rattle.std.proofs.Common.{◌≡◌, ℕ, ◌≤◌, Bool, true, false, List, [], ◌∷◌, ◌++◌, refl, sym, ap}
use Rattle.std.proofs.Common.{◌∙◌, subst, arith, append_assoc}
use Rattle.trace_model.specs.Ring.{Core}
use Rattle.trace_model.specs.Steps.{Event, pushes, pushes_close, steps, ends, reads, wishes, Exchange, Step, Run}
use Rattle.trace_model.proofs.steps.StepSound.{cases_of}
use Rattle.ring_model.specs.Reached.{IsReached}
use Rattle.ring_model.specs.Seats.{IsOfReader}
use Rattle.ring_model.proofs.histories.StepsAsEvents.{counts_rise}
use Rattle.ring_model.proofs.partition.RingsKept.{reached_kept}
use Rattle.ring_model.proofs.seats.SeatSteps.{reader_leaves_writer}
use Rattle.ring_steps.specs.Made.{WriterMade, writer_made, trace_of, trace_to, is_by_writer, kept_if, by_writer}
use Rattle.ring_steps.specs.Made.{writer_made_of}
use Rattle.ring_steps.specs.Receipts.{AreInTime}
use Rattle.ring_steps.specs.Views.{Writing}
use Rattle.ring_steps.proofs.Made.{reached_on, made_append}
use Rattle.ring_steps.proofs.InTime.{lesson_at}
use Rattle.ring_shared.specs.Value.{WriterValue}
use Rattle.ring_shared.specs.Calls.{AreWriterFields}
use Rattle.ring_shared.specs.Receipts.{done_after, WhatReturnedIsSeen}

-- ---- one step

of_reader : (event : Event) → is_by_writer event ≡ false → IsOfReader event
of_reader (pushes moment len) e = absurd (cc)
of_reader pushes_close e = absurd (cc)
of_reader steps e = absurd (cc)
of_reader (ends payload) e = absurd (cc)
of_reader reads e = tt
of_reader wishes e = tt

-- a step of the reader closes no fill
stays_closed : (n size : ℕ) (c : Core) (x : Exchange) (after : Core) → is_by_writer x.event ≡ false
    → Step n size c x.event x.answer after → after.done ≡ c.done
stays_closed n size c x after own step =
    (reader_leaves_writer n size c x.event x.answer after (of_reader x.event own) (cases_of step)).done

-- ---- what the writer made closes as many fills as are closed in the end

counts_step : (n size : ℕ) (c : Core) (x : Exchange) (after : Core) (others : List WriterMade) (b : Bool)
    → is_by_writer x.event ≡ b → Step n size c x.event x.answer after
    → done_after c.done (kept_if b (writer_made x after) others) ≡ done_after after.done others
counts_step n size c x after others true own step = refl
counts_step n size c x after others false own step =
    ap (λ (done : ℕ). done_after done others) (sym (stays_closed n size c x after own step))

counts_run : (n size : ℕ) (c last : Core) (exchanges : List Exchange) (run : Run n size c exchanges last)
    → done_after c.done (by_writer (trace_of n size c exchanges last run)) ≡ last.done
counts_run n size c last [] run = ap (λ (d : Core). d.done) run
counts_run n size c last (x ∷ exchanges) (between, step, run) =
    counts_step n size c x between (by_writer (trace_of n size between exchanges last run)) (is_by_writer x.event) refl
    step
    ∙ counts_run n size between last exchanges run

done_made : (n size start : ℕ) (c : Core) (r : IsReached n size start c)
    → done_after start (writer_made_of r) ≡ c.done
done_made n size start c r =
    ap (λ (done : ℕ). done_after done (writer_made_of r)) (sym r.is_new.done)
    ∙ counts_run n size r.from c r.exchanges r.run

-- of a writer's end
pub done_of_part : (v : WriterValue) → AreWriterFields v → done_after v.shape.start v.part.made ≡ v.part.done
done_of_part v w =
    ap (λ (p : Writing). done_after v.shape.start p.made) (sym w.part_is)
    ∙ (done_made v.shape.pages v.shape.size v.shape.start w.core w.reached ∙ ap (λ (p : Writing). p.done) w.part_is)

-- ---- and no front of it closes more

rises_step : (x : Exchange) (between : Core) (others : List WriterMade) (one : WriterMade)
    (made later : List WriterMade) (most : ℕ)
    → ((front : List WriterMade) → others ≡ front ++ later → done_after between.done front ≤ most)
    → (b : Bool)
    → kept_if b (writer_made x between) others ≡ one ∷ (made ++ later)
    → done_after one.done made ≤ most
rises_step x between others one made later most again true e =
    let same : writer_made x between ≡ one = cc in
    let rest : others ≡ made ++ later = cc in
    subst (λ (m : WriterMade). done_after m.done made ≤ most) same (again made rest)
rises_step x between others one made later most again false e = again (one ∷ made) e

rises_run : (n size start : ℕ) (c last : Core) (exchanges : List Exchange) (made later : List WriterMade)
    → IsReached n size start c → (run : Run n size c exchanges last)
    → by_writer (trace_of n size c exchanges last run) ≡ made ++ later
    → done_after c.done made ≤ last.done
rises_run n size start c last exchanges [] later r run e =
    (counts_rise n size start c last exchanges (reached_kept n size start c r) run).1
rises_run n size start c last [] (one ∷ made) later r run e = absurd (cc)
rises_run n size start c last (x ∷ exchanges) (one ∷ made) later r (between, step, run) e =
    rises_step x between (by_writer (trace_of n size between exchanges last run)) one made later last.done
    (λ front at.
    rises_run n size start between last exchanges front later
    (reached_on n size start c x.event x.answer between r step) run at) (is_by_writer x.event) e

-- the ring was new before the run
reached_first : (n size start : ℕ) (c : Core) → (r : IsReached n size start c) → IsReached n size start r.from
reached_first n size start c r =
    record { from = r.from; exchanges = []; may_start = r.may_start; is_new = r.is_new; run = refl }

done_before : (n size start : ℕ) (c : Core) (r : IsReached n size start c) (made later : List WriterMade)
    → writer_made_of r ≡ made ++ later → done_after start made ≤ c.done
done_before n size start c r made later e =
    subst (λ (done : ℕ). done_after done made ≤ c.done) r.is_new.done
    (rises_run n size start r.from c r.exchanges made later (reached_first n size start c r) r.run e)

-- ---- what the reader finds once it has learned of it

pub what_returned_is_seen : WhatReturnedIsSeen
what_returned_is_seen shape before after done lesson (k, low, at) found =
    let r = found.known.reached in
    let still = found.nothing.lessons_are in
    let is =
    lesson_at (trace_to r) before.lessons lesson k low at (subst (AreInTime (trace_to r)) still found.in_time) in
    let made : writer_made_of r ≡ lesson.made ++ (is.others ++ by_writer is.rest) =
    ap by_writer is.trace_is
    ∙ (made_append is_by_writer writer_made is.front is.rest
    ∙ (ap (λ (l : List WriterMade). l ++ by_writer is.rest) is.has_made
    ∙ append_assoc lesson.made is.others (by_writer is.rest))) in
    let low =
    done_before shape.pages shape.size shape.start found.known.core r lesson.made (is.others ++ by_writer is.rest)
    made in
    let all = found.all in
    omega arith
