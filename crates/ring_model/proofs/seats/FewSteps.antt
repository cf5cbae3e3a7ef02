-- A frame makes few steps in a run, whatever the reader does in between: each lowers its rank, and the reader none.
use Rattle.std.proofs.Common.{◌≡◌, ℕ, ◌+◌, ◌-◌, ◌<◌, ◌≤◌, Bool, List, [], ◌∷◌, length, refl, ap}
use Rattle.std.proofs.Common.{◌∙◌, arith, inl, inr}
use Rattle.std.specs.Prelude.{if◌then◌else◌, nat_lt}
use Rattle.std.proofs.lemmas.Bool.{cond_both, cases_lt, lt-ltb, ltb-true}
use Rattle.trace_model.specs.History.{HistoryEvent}
use Rattle.trace_model.specs.Frames.{Progress, Phase, idle, looking, claiming, looking_next, marking, clearing, opening}
use Rattle.trace_model.specs.Frames.{releasing, wishing, Frame}
use Rattle.trace_model.specs.Ring.{Core}
use Rattle.trace_model.specs.Steps.{Event, pushes, pushes_close, steps, ends, reads, wishes, Answer, Step, Exchange}
use Rattle.trace_model.proofs.steps.StepCases.{ClaimHeadStep, claim_late, claims, claim_fails}
use Rattle.trace_model.proofs.steps.StepSound.{cases_of}
use Rattle.trace_model.proofs.steps.EventSteps.{top_step}
use Rattle.ring_model.specs.Reached.{IsReached}
use Rattle.ring_model.specs.RingKept.{IsRingKept}
use Rattle.ring_model.specs.Seats.{IsOfReader}
use Rattle.ring_model.specs.WriterRanks.{look_rank, own_rank, writer_rank, rank_in, MayComeNext, FrameRunsOn, own_step}
use Rattle.ring_model.specs.WriterRanks.{own_steps, FramesMakeFewSteps}
use Rattle.ring_model.proofs.partition.RingsKept.{reached_kept, reached_further}
use Rattle.ring_model.proofs.histories.StepsAsEvents.{counts_rise}
use Rattle.ring_model.proofs.links.SeenLinks.{claims_fail_once_the_head_moved}
use Rattle.ring_model.proofs.seats.SeatSteps.{reader_leaves_writer}
use Rattle.ring_model.proofs.seats.WriterEnds.{writer_steps_lower, writer_ends_lower, writers_near}

-- ---- who knows more fills to be passed is no further from the end

look_most : (n passed noted : ℕ) → look_rank n passed noted ≤ 12
look_most n passed noted =
    cond_both (nat_lt noted (passed + n)) 10 12 (λ (k : ℕ). k ≤ 12) (λ _. omega arith) (λ _. omega arith)

look_falls : (n passed knows noted : ℕ) → passed ≤ knows → look_rank n knows noted ≤ look_rank n passed noted
look_falls n passed knows noted less =
    cond_both (nat_lt noted (passed + n)) 10 12 (λ (k : ℕ). look_rank n knows noted ≤ k)
    (λ yes. let here : noted < passed + n = ltb-true noted (passed + n) yes in
    let there : look_rank n knows noted ≡ 10 =
    ap (λ (b : Bool). if b then 10 else 12) (lt-ltb noted (knows + n) (omega arith)) in
    omega arith)
    (λ _. look_most n knows noted)

own_falls : (n passed knows opened : ℕ) (history : List HistoryEvent) (state : Progress) (phase : Phase)
    → passed ≤ knows
    → own_rank n knows opened history state phase ≤ own_rank n passed opened history state phase
own_falls n passed knows opened history state idle less = omega arith
own_falls n passed knows opened history state (looking noted) less =
    let low = look_falls n passed knows noted less in omega arith
own_falls n passed knows opened history state (claiming noted page) less = omega arith
own_falls n passed knows opened history state (looking_next role noted page) less = omega arith
own_falls n passed knows opened history state (marking role noted page next) less = omega arith
own_falls n passed knows opened history state (clearing noted page) less = omega arith
own_falls n passed knows opened history state (opening noted page) less = omega arith
own_falls n passed knows opened history state releasing less = omega arith
own_falls n passed knows opened history state wishing less = omega arith

writer_falls : (n passed knows done opened : ℕ) (history : List HistoryEvent) (frames : List Frame) → passed ≤ knows
    → writer_rank n knows done opened history frames ≤ writer_rank n passed done opened history frames
writer_falls n passed knows done opened history [] less = omega arith
writer_falls n passed knows done opened history (frame ∷ below) less =
    let low = own_falls n passed knows opened history frame.state frame.phase less in omega arith

-- ---- one step

module _ (n size start : ℕ) (c : Core) (reached : IsReached n size start c) where
  kept : IsRingKept n size start c
  kept = reached_kept n size start c reached

  rises : (event : Event) (answer : Answer) (after : Core) → Step n size c event answer after → c.head ≤ after.head
  rises event answer after step =
      (counts_rise n size start c after (record { event = event; answer = answer } ∷ []) kept (after, step, refl)).0

  -- after a claim the fill that was to be lost is passed
  module _ (frame : Frame) (below : List Frame) (top : c.frames ≡ frame ∷ below) (answer : Answer) (after : Core) where
    claimed : (noted page : ℕ) → frame.phase ≡ claiming noted page → noted ≡ c.opened
        → ClaimHeadStep n c frame below noted page answer after
        → noted < after.head + n
    claimed noted page at now (claim_late late) = absurd (late.passed now)
    claimed noted page at now (claims lost same sum link a is) =
        let head : after.head ≡ c.head + 1 = ap (λ (d : Core). d.head) is in
        let within = kept.links.opened_le in omega arith
    claimed noted page at now (claim_fails same none a is) =
        let head : after.head ≡ c.head = ap (λ (d : Core). d.head) is in
        elim (cases_lt noted n) [
          | inl early ↦ omega arith
          | inr round ↦ let sum : noted - n + n ≡ noted = omega arith in
              let moved =
              claims_fail_once_the_head_moved n size start c frame below noted page (noted - n) reached top at now sum
              (none (noted - n) sum) in
              omega arith
        ]

  reads_none : (event : Event) (answer : Answer) (after : Core) → IsOfReader event → Step n size c event answer after
      → rank_in n after.head after ≤ rank_in n c.head c
  reads_none event answer after of_reader step =
      let s = reader_leaves_writer n size c event answer after of_reader (cases_of step) in
      let up = rises event answer after step in
      let low = writer_falls n c.head after.head c.done c.opened c.history c.frames up in
      let same : rank_in n after.head after ≡ writer_rank n after.head c.done c.opened c.history c.frames =
      (ap (λ (d : ℕ). writer_rank n after.head d after.opened after.history after.frames) s.done)
      ∙ ((ap (λ (o : ℕ). writer_rank n after.head c.done o after.history after.frames) s.opened)
      ∙ ((ap (λ (h : List HistoryEvent). writer_rank n after.head c.done c.opened h after.frames) s.history)
      ∙ ap (λ (f : List Frame). writer_rank n after.head c.done c.opened c.history f) s.frames)) in
      omega arith

  -- a step of the frame lowers its rank by one at least, and one of the reader doesn't raise it
  pub one_lower : (event : Event) (answer : Answer) (after : Core) → MayComeNext c event
      → Step n size c event answer after → length after.frames ≡ length c.frames
      → own_step event + rank_in n after.head after ≤ rank_in n c.head c
  one_lower (pushes moment len) answer after may step stays = absurd may
  one_lower pushes_close answer after may step stays = absurd may
  one_lower steps answer after (frame, below, top, none) step stays =
      let low =
      writer_steps_lower n size start c frame below answer after c.head after.head kept top none step stays
      (rises steps answer after step) (λ noted at now. omega arith)
      (λ noted page at now. claimed frame below top answer after noted page at now
      (top_step frame below (claiming noted page) top at step)) in
      omega arith
  one_lower (ends payload) answer after (frame, below, number, top, own) step stays =
      let low =
      writer_ends_lower n size start c frame below number payload answer after c.head after.head kept top own step
      stays in
      omega arith
  one_lower reads answer after may step stays = let low = reads_none reads answer after tt step in omega arith
  one_lower wishes answer after may step stays = let low = reads_none wishes answer after tt step in omega arith

-- ---- a run

lower : (n size start : ℕ) (c : Core) (exchanges : List Exchange) (after : Core)
    → IsReached n size start c → FrameRunsOn n size c exchanges after → own_steps exchanges ≤ rank_in n c.head c
lower n size start c [] after reached run = omega arith
lower n size start c (x ∷ exchanges) after reached (may, between, step, stays, run) =
    let rest =
    lower n size start between exchanges after
    (reached_further n size start c x.event x.answer between reached step) run in
    let one = one_lower n size start c reached x.event x.answer between may step stays in
    omega arith

pub few_steps : FramesMakeFewSteps
few_steps n size start c exchanges after reached run =
    let low = lower n size start c exchanges after reached run in
    let near = writers_near n size start c.head c (reached_kept n size start c reached) in
    omega arith
