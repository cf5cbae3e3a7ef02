-- A step that is made: the value after it is the ring in the state after the step.
use Rattle.std.proofs.Common.{◌≡◌, ◌≢◌, ℕ, ◌⊎◌, [], ◌∷◌, inl, inr, ⊎_elim, sym, ◌∙◌, subst}
use Rattle.trace_model.specs.Ring.{Core}
use Rattle.trace_model.specs.Steps as model
use Rattle.trace_model.proofs.steps.StepCases as cases
use Rattle.trace_model.proofs.steps.StepSound.{cases_of}
use Rattle.ring_model.specs.RingKept.{IsRingKept}
use Rattle.ring_model.proofs.partition.RingsKept.{reached_further, reached_kept}
use Rattle.ring_frames.specs.declared.answer.Answer.{Answer}
use Rattle.ring_frames.specs.declared.answer.Answer.TheVariants.{Pushed, Going, Reserved, Ended, Gone, Refused, Looking}
use Rattle.ring_frames.specs.declared.answer.Answer.TheVariants.{Empty, Moving, Taken, Wished}
use Rattle.ring_core.specs.Value.{CoreValue}
use Rattle.ring_core.specs.IsCore.{HasStateOf, IsCore}
use Rattle.ring_frames.specs.Answers.{IsAnswerOf, ZerosSlot}
use Rattle.ring_core.specs.Answers.{HasWholePage}
use Rattle.ring_core.specs.Steps.{IsStep, MakesStep, IsSomeCore}

-- what every step keeps holds of a ring's state
pub kept_of : (n size start : ℕ) (v : CoreValue) (c : Core) → IsCore n size start v c → IsRingKept n size start c
kept_of n size start v c core = reached_kept n size start c core.reached

pub stepped : (n size start : ℕ) (old new : CoreValue) (c : Core) (event : model.Event) (result : Answer)
    (answer : model.Answer) (after : Core) → IsCore n size start old c → model.Step n size c event answer after
    → IsAnswerOf size result answer → HasStateOf n size start new after → IsStep n size start c event result new
stepped n size start old new c event result answer after core step reports shows = record {
  answer = answer;
  after = after;
  step = step;
  reports = reports;
  is_core = record { reached = reached_further n size start c event answer after core.reached step; shows = shows };
}

-- ---- what a caller has of any step

pub ring_behind : (old new : CoreValue) (event : model.Event) (result : Answer) → IsSomeCore old
    → MakesStep old event result new → IsSomeCore new
ring_behind old new event result (n, size, start, c, core) makes =
    let s = makes n size start c core in
    (n, size, start, s.after, s.is_core)

pub size_behind : (old new : CoreValue) (event : model.Event) (result : Answer) → IsSomeCore old
    → MakesStep old event result new → new.stack.size ≡ old.stack.size
size_behind old new event result (n, size, start, c, core) makes =
    (makes n size start c core).is_core.shows.frames.size_is ∙ sym core.shows.frames.size_is

reported_whole : (size : ℕ) (result : Answer) (reported : model.Answer) → IsAnswerOf size result reported
    → HasWholePage size result
reported_whole size Pushed reported t = tt
reported_whole size Going reported t = tt
reported_whole size (Reserved number) reported t = tt
reported_whole size (Ended ended) reported t = tt
reported_whole size Gone reported t = tt
reported_whole size (Refused fault) reported t = tt
reported_whole size (Looking body) reported t = tt
reported_whole size (Empty done body) reported t = tt
reported_whole size (Moving fill body) reported t = tt
reported_whole size (Taken page missed) reported (taken, is, whole) = (whole.written.page_reads, whole.written.size_is)
reported_whole size (Wished fill) reported t = tt

pub whole_page : (old new : CoreValue) (event : model.Event) (result : Answer) → IsSomeCore old
    → MakesStep old event result new → HasWholePage old.stack.size result
whole_page old new event result (n, size, start, c, core) makes =
    let s = makes n size start c core in
    subst (λ (bytes : ℕ). HasWholePage bytes result) (sym core.shows.frames.size_is)
    (reported_whole size result s.answer s.reports)

-- ---- only a step reserves

-- a step of the model that answers by a reservation is one of a frame, or of the reader
who_reserves : (n size : ℕ) (c : Core) (event : model.Event) (number : ℕ) (after : Core)
    → cases.StepCases n size c event (model.reserved_as number) after → (event ≡ model.steps) ⊎ (event ≡ model.reads)
who_reserves n size c event number after (cases.push_step moment len e few short early a is) = absurd (cc)
who_reserves n size c event number after (cases.push_refused moment len why e refused a is) = absurd (cc)
who_reserves n size c event number after (cases.close_step e few a is) = absurd (cc)
who_reserves n size c event number after (cases.close_refused e many a is) = absurd (cc)
who_reserves n size c event number after (cases.frame_step frame below e is step) = inl e
who_reserves n size c event number after (cases.frame_lacks e none a is) = inl e
who_reserves n size c event number after
    (cases.end_step payload frame [] number' moment len e is x kind slot a after_is) =
    absurd (cc)
who_reserves n size c event number after
    (cases.end_step payload frame (next ∷ below) number' moment len e is x kind slot a after_is) =
    absurd (cc)
who_reserves n size c event number after (cases.end_lacks payload e none a is) = absurd (cc)
who_reserves n size c event number after (cases.end_early payload frame below e is none a after_is) = absurd (cc)
who_reserves n size c event number after (cases.read_step e step) = inr e
who_reserves n size c event number after (cases.store_wish_step e a is) = absurd (cc)

-- so nothing is reserved by another event
pub unreserved : (old new : CoreValue) (event : model.Event) (result : Answer) → (event ≢ model.steps)
    → (event ≢ model.reads) → IsSomeCore old → MakesStep old event result new → ZerosSlot old.stack result new.stack
unreserved old new event result no_step no_read (n, size, start, c, core) makes number slot is lacks at =
    let s = makes n size start c core in
    let answer : s.answer ≡ model.reserved_as number.0 =
    subst (λ (r : Answer). IsAnswerOf size r s.answer) is s.reports in
    absurd (⊎_elim no_step no_read
    (who_reserves n size c event number.0 s.after
    (cases_of (subst (λ (a : model.Answer). model.Step n size c event a s.after) answer s.step))))
