-- A frame makes few steps in a row, whatever the reader does in between; and so a call makes few.
use Rattle.std.proofs.Common.{◌≡◌, ℕ, suc, ◌+◌, ◌≤◌, Bool, true, false, List, [], ◌∷◌, length, refl}
use Rattle.std.proofs.Common.{ap, subst, arith}
use Rattle.std.specs.Prelude.{◌&&◌, ◌==◌}
use Rattle.std.proofs.lemmas.Bool.{cond_both, eqb-true}
use Rattle.trace_model.specs.Frames.{Progress, waiting, reserved, left, number_of, Frame}
use Rattle.trace_model.specs.Ring.{Core}
use Rattle.trace_model.specs.Steps.{Event, pushes, pushes_close, steps, ends, reads, wishes, Answer, Step, Exchange}
use Rattle.trace_model.specs.Steps.{Run}
use Rattle.trace_model.proofs.steps.StepSound.{cases_of}
use Rattle.ring_model.specs.Reached.{IsReached}
use Rattle.ring_model.specs.Seats.{IsOfReader}
use Rattle.ring_model.specs.Ranks.{frame_limit}
use Rattle.ring_model.specs.WriterRanks.{rank_in, MayComeNext, own_step}
use Rattle.ring_model.proofs.partition.RingsKept.{reached_kept, reached_further}
use Rattle.ring_model.proofs.seats.FewSteps.{one_lower}
use Rattle.ring_model.proofs.seats.SeatSteps.{reader_leaves_writer}
use Rattle.ring_model.proofs.seats.WriterEnds.{writers_near}
use Rattle.ring_steps.specs.Made.{WriterMade, writer_made, trace_of, is_by_writer, kept_if, made_by}
use Rattle.ring_steps.specs.Views.{Writing}
use Rattle.ring_shared.specs.FewSteps.{brings_on, brings_top_on, row_from, steps_in_a_row, FramesMakeFewSteps}

-- ---- which steps are counted

-- both are true
both_true : (a b : Bool) → (a && b) ≡ true → (a ≡ true) × (b ≡ true)
both_true true b e = (refl, e)
both_true false b e = absurd (cc)

-- a step that brings a frame on is one that may come next
may_come : (c : Core) (event : Event) (frame : Frame) (below : List Frame) (state : Progress)
    → c.frames ≡ frame ∷ below → frame.state ≡ state → brings_on event state ≡ true
    → MayComeNext c event × (own_step event ≡ 1)
may_come c (pushes moment len) frame below state top at brings = absurd (cc)
may_come c pushes_close frame below state top at brings = absurd (cc)
may_come c steps frame below waiting top at brings = ((frame, below, top, ap number_of at), refl)
may_come c steps frame below (reserved number) top at brings = absurd (cc)
may_come c steps frame below left top at brings = ((frame, below, top, ap number_of at), refl)
may_come c (ends payload) frame below waiting top at brings = absurd (cc)
may_come c (ends payload) frame below (reserved number) top at brings = ((frame, below, number, top, at), refl)
may_come c (ends payload) frame below left top at brings = absurd (cc)
may_come c reads frame below state top at brings = absurd (cc)
may_come c wishes frame below state top at brings = absurd (cc)

top_may_come : (c : Core) (event : Event) (frames : List Frame) → c.frames ≡ frames
    → brings_top_on event frames ≡ true → MayComeNext c event × (own_step event ≡ 1)
top_may_come c event [] top brings = absurd (cc)
top_may_come c event (frame ∷ below) top brings = may_come c event frame below frame.state top refl brings

-- ---- a row, in a run

-- what holds of the rest of a run, whatever the row is by then
abbrev Few : (n : ℕ) → Core → List WriterMade → Type 0
Few n c rest = (row : ℕ) → row + rank_in n c.head c ≤ frame_limit n → row_from c.frames row rest ≤ frame_limit n

module _ (n size start : ℕ) (c : Core) (reached : IsReached n size start c) (event : Event) (answer : Answer)
    (between : Core) (step : Step n size c event answer between) (rest : List WriterMade)
    (on : Few n between rest) where
  near : rank_in n between.head between ≤ frame_limit n
  near =
      writers_near n size start between.head between
      (reached_kept n size start between (reached_further n size start c event answer between reached step))

  reads_on : IsOfReader event → (own_step event + rank_in n between.head between ≤ rank_in n c.head c) → Few n c rest
  reads_on of_reader down row low =
      let s = reader_leaves_writer n size c event answer between of_reader (cases_of step) in
      subst (λ (f : List Frame). row_from f row rest ≤ frame_limit n) s.frames (on row (omega arith))

  goes_on : Few n c (writer_made record { event = event; answer = answer } between ∷ rest)
  goes_on row low =
      cond_both (brings_top_on event c.frames && (length between.frames == length c.frames)) (suc row) 0
      (λ (k : ℕ). row_from between.frames k rest ≤ frame_limit n)
      (λ counts.
      let (brings, same) = both_true (brings_top_on event c.frames) (length between.frames == length c.frames) counts in
      let (may, one) = top_may_come c event c.frames refl brings in
      let down =
      one_lower n size start c reached event answer between may step
      (eqb-true (length between.frames) (length c.frames) same) in
      on (suc row) (omega arith))
      (λ _. let high = near in on 0 (omega arith))

-- one more step, whoever made it
one_more : (n size start : ℕ) (c : Core) (reached : IsReached n size start c) (event : Event) (answer : Answer)
    (between : Core) (step : Step n size c event answer between) (rest : List WriterMade) → Few n between rest
    → Few n c (kept_if (is_by_writer event) (writer_made record { event = event; answer = answer } between) rest)
one_more n size start c reached (pushes moment len) answer between step rest on =
    goes_on n size start c reached (pushes moment len) answer between step rest on
one_more n size start c reached pushes_close answer between step rest on =
    goes_on n size start c reached pushes_close answer between step rest on
one_more n size start c reached steps answer between step rest on =
    goes_on n size start c reached steps answer between step rest on
one_more n size start c reached (ends payload) answer between step rest on =
    goes_on n size start c reached (ends payload) answer between step rest on
one_more n size start c reached reads answer between step rest on = let stays =
    (reader_leaves_writer n size c reads answer between tt (cases_of step)).frames in
    reads_on n size start c reached reads answer between step rest on tt
    (one_lower n size start c reached reads answer between tt step (ap (length {A = Frame}) stays))
one_more n size start c reached wishes answer between step rest on = let stays =
    (reader_leaves_writer n size c wishes answer between tt (cases_of step)).frames in
    reads_on n size start c reached wishes answer between step rest on tt
    (one_lower n size start c reached wishes answer between tt step (ap (length {A = Frame}) stays))

run_few : (n size start : ℕ) (c : Core) (exchanges : List Exchange) (last : Core) → IsReached n size start c
    → (run : Run n size c exchanges last)
    → Few n c (made_by is_by_writer writer_made (trace_of n size c exchanges last run))
run_few n size start c [] last reached run row low = omega arith
run_few n size start c (x ∷ exchanges) last reached (between, step, run) row low =
    one_more n size start c reached x.event x.answer between step
    (made_by is_by_writer writer_made (trace_of n size between exchanges last run))
    (run_few n size start between exchanges last
    (reached_further n size start c x.event x.answer between reached step) run) row low

pub frames_make_few_steps : FramesMakeFewSteps
frames_make_few_steps shape w r =
    let n = shape.pages in
    let from = r.reached.from in
    let new : IsReached n shape.size shape.start from = record {
      from = from;
      exchanges = [];
      may_start = r.reached.may_start;
      is_new = r.reached.is_new;
      run = refl;
    } in
    let low = writers_near n shape.size shape.start from.head from (reached_kept n shape.size shape.start from new) in
    let made : List WriterMade =
    made_by is_by_writer writer_made (trace_of n shape.size from r.reached.exchanges r.core r.reached.run) in
    let all : row_from from.frames 0 made ≤ frame_limit n =
    run_few n shape.size shape.start from r.reached.exchanges r.core new r.reached.run 0 (omega arith) in
    subst (λ (v : Writing). steps_in_a_row v.made ≤ frame_limit n) r.is
    (subst (λ (f : List Frame). row_from f 0 made ≤ frame_limit n) r.reached.is_new.frames all)
