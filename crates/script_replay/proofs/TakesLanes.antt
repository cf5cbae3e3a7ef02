-- What a step of the reader makes of a lane as a value.
use Rattle.std.proofs.Common.{◌≡◌, ◌≢◌, ℕ, zero, ◌-◌, Bool, true, false, List, [], ◌∷◌, ◌++◌, length, drop, map, Option}
use Rattle.std.proofs.Common.{Some, None, refl, sym, ap, ◌∙◌, subst, arith, append-nil}
use Rattle.std.specs.Prelude.{IfSome}
use Rattle.std.proofs.lemmas.Bool.{false≢true}
use Rattle.std.proofs.lemmas.List.{map-append}
use Rattle.trace_model.specs.Ring.{Core}
use Rattle.trace_model.specs.Parcel.{Parcel}
use Rattle.trace_model.specs.Steps as model
use Rattle.trace_model.specs.Steps.{Event, reads, wishes, reading, empty, moving}
use Rattle.trace_model.specs.Steps.{page_taken, Step, Exchange}
use Rattle.trace_model.proofs.steps.StepCases.{StepCases, push_step, push_refused, close_step, close_refused}
use Rattle.trace_model.proofs.steps.StepCases.{frame_step, frame_lacks, end_step, end_lacks, end_early, read_step}
use Rattle.trace_model.proofs.steps.StepCases.{store_wish_step}
use Rattle.trace_model.proofs.steps.StepSound.{cases_of}
use Rattle.trace_model.proofs.steps.EventKinds.{IsWishes}
use Rattle.ring_model.specs.Seats.{IsOfReader}
use Rattle.ring_model.proofs.partition.RingsKept.{reached_kept}
use Rattle.ring_model.proofs.seats.SeatSteps.{reader_leaves_writer}
use Rattle.world_model.specs.Lanes.{Lane, lane_behind, payloads_left, Wishes}
use Rattle.world_model.specs.World.{parcel_of, parcels_in}
use Rattle.world_model.proofs.FramesMove.{stays}
use Rattle.world_model.proofs.LanePayloads.{as_many, fit_moved}
use Rattle.world_model.proofs.TakenPages.{taken_by, run_takes, parcels_of_is}
use Rattle.page_numbers.specs.Parcels as page
use Rattle.page_numbers.specs.Parcels.{as_parcels, fitted_parcel}
use Rattle.ring_frames.specs.declared.answer.Answer.{Answer}
use Rattle.ring_frames.specs.declared.answer.Answer.TheVariants.{Pushed, Going, Reserved, Ended, Gone, Refused, Looking}
use Rattle.ring_frames.specs.declared.answer.Answer.TheVariants.{Empty, Moving, Taken, Wished}
use Rattle.ring_core.specs.Value.{CoreValue}
use Rattle.ring_core.specs.IsCore.{IsCore}
use Rattle.ring_frames.specs.Answers.{IsAnswerOf}
use Rattle.ring_core.specs.Answers.{GivesBack}
use Rattle.ring_core.specs.Steps.{MakesStep}
use Rattle.script_replay.specs.Value.{LaneValue}
use Rattle.script_replay.specs.declared.asked.Asked.{Asked}
use Rattle.script_replay.specs.Tells.{IsAsked}
use Rattle.script_replay.specs.Reports.{ReportsValue, IsReported}
use Rattle.script_replay.specs.Lanes.{IsLane, IsLaneOf, MakesExchanges}
use Rattle.script_replay.specs.Takes.{ReadsOnce, MayKeep, Keeps}
use Rattle.script_replay.proofs.LaneValues.{moved_lane}
use Rattle.script_replay.proofs.TakesNumbers as numbers

module _ (n size start cpu : ℕ) (v : LaneValue) (lane : Lane) (is : IsLane n size start cpu v lane)
    (event : Event) (answer : model.Answer) (after : Core) (of : IsOfReader event)
    (step : Step n size lane.core event answer after) where
  abbrev x : Exchange
  x = record { event = event; answer = answer }

  frames_stay : after.frames ≡ lane.core.frames
  frames_stay = (reader_leaves_writer n size lane.core event answer after of (cases_of step)).frames

  all_left : payloads_left after.frames lane.payloads ≡ lane.payloads
  all_left =
      let same = ap length frames_stay in
      let count = as_many lane.core.frames lane.payloads is.fit in
      ap (λ (k : ℕ). drop k lane.payloads)
      (let e : length lane.payloads - length after.frames ≡ zero = omega arith in e)

  takes : map (parcel_of cpu) after.reader.taken ≡ as_parcels v.taken ++ parcels_in cpu answer
  takes =
      ap (map (parcel_of cpu))
      (run_takes n size start lane.core after (x ∷ []) (reached_kept n size start lane.core is.is_core.reached)
      (after, step, refl))
      ∙ map-append (parcel_of cpu) lane.core.reader.taken (taken_by (x ∷ []))
      ∙ (λ i. sym is.taken_are i ++ (sym (parcels_of_is cpu (x ∷ [])) ∙ append-nil (parcels_in cpu answer)) i)

  pub reader_behind : (new : LaneValue)
      → IsCore n size start new.core after
      → new.payloads ≡ v.payloads
      → IfSome new.body (λ body. length body ≡ size)
      → as_parcels new.taken ≡ as_parcels v.taken ++ parcels_in cpu answer
      → IsLane n size start cpu new (lane_behind lane after)
  reader_behind new core payloads body taken =
      moved_lane is core (payloads ∙ is.payloads_are ∙ sym all_left)
      (fit_moved lane.core.frames after.frames lane.payloads is.fit (stays frames_stay)) body (taken ∙ sym takes)

-- ---- the wish

brings_none : (n size cpu : ℕ) (c : Core) (event : Event) (answer : model.Answer) (after : Core)
    → IsWishes event
    → StepCases n size c event answer after
    → parcels_in cpu answer ≡ []
brings_none n size cpu c event answer after wish (push_step moment len e few short early a is) =
    absurd (subst IsWishes e wish)
brings_none n size cpu c event answer after wish (push_refused moment len why e refused a is) =
    absurd (subst IsWishes e wish)
brings_none n size cpu c event answer after wish (close_step e few a is) = absurd (subst IsWishes e wish)
brings_none n size cpu c event answer after wish (close_refused e many a is) = absurd (subst IsWishes e wish)
brings_none n size cpu c event answer after wish (frame_step frame below e top step) = absurd (subst IsWishes e wish)
brings_none n size cpu c event answer after wish (frame_lacks e none a is) = absurd (subst IsWishes e wish)
brings_none n size cpu c event answer after wish
    (end_step payload frame below number moment len e top at kind slot a is) = absurd (subst IsWishes e wish)
brings_none n size cpu c event answer after wish (end_lacks payload e none a is) = absurd (subst IsWishes e wish)
brings_none n size cpu c event answer after wish (end_early payload frame below e top none a is) =
    absurd (subst IsWishes e wish)
brings_none n size cpu c event answer after wish (read_step e step) = absurd (subst IsWishes e wish)
brings_none n size cpu c event answer after wish (store_wish_step e a is) = ap (parcels_in cpu) a

pub wishes_of : (line cpu : ℕ) (v : LaneValue) (asked : Asked) (result : Answer) (new : LaneValue)
    (old reports : ReportsValue)
    → ((c : Core) → IsAsked asked c wishes)
    → MakesStep v.core wishes result new.core
    → new ≡ record v { core = new.core }
    → IsReported line cpu asked result new.core old reports
    → MakesExchanges (λ n size before xs after. Wishes n size before xs after) line cpu v old new reports
wishes_of line cpu v asked result new old reports asks makes same reported = λ n size start lane is knows.
    let s = makes n size start lane.core is.is_core in
    let x : Exchange = record { event = wishes; answer = s.answer } in
    record {
      exchanges = x ∷ [];
      after = lane_behind lane s.after;
      happened = record { answer = s.answer; exchanges_are = refl; core = s.after; step = s.step; after_is = refl };
      is_lane = reader_behind n size start cpu v lane is wishes s.answer s.after tt s.step new s.is_core
          (ap (λ (w : LaneValue). w.payloads) same)
          (subst (λ (b : Option (List ℕ)). IfSome b (λ body. length body ≡ size))
          (sym (ap (λ (w : LaneValue). w.body) same)) is.body)
          (ap (λ (w : LaneValue). as_parcels w.taken) same
          ∙ sym (append-nil (as_parcels v.taken))
          ∙ ap (λ (l : List Parcel). as_parcels v.taken ++ l)
          (sym (brings_none n size cpu lane.core wishes s.answer s.after tt (cases_of s.step))));
      reported = reported n size start lane.core s.after wishes s.answer knows record {
        reached = is.is_core.reached;
        asked_is = asks lane.core;
        step = s.step;
        reports = s.reports;
        is_core = s.is_core;
      };
    }

-- ---- a step of a take

pub may_keep : (cpu : ℕ) (v : LaneValue) (result : Answer) (new : CoreValue) (body : List ℕ)
    → IsLaneOf cpu v
    → MakesStep v.core reads result new
    → GivesBack body result
    → MayKeep cpu result
may_keep cpu v result new body (n, size, start, lane, is) makes gives =
    let s = makes n size start lane.core is.is_core in
    numbers.may_keep n size start cpu lane.core reads body result s.answer s.after
    (reached_kept n size start lane.core is.is_core.reached) is.large is.known s.step gives s.reports

module _ (line cpu n size start : ℕ) (v : LaneValue) (lane : Lane) (is : IsLane n size start cpu v lane)
    (core : CoreValue) (reported : model.Answer) (after : Core) (step : Step n size lane.core reads reported after)
    (core_is : IsCore n size start core after) (body : List ℕ) (fits : length body ≡ size) (goes_on : Bool)
    (new : LaneValue) where
  abbrev Reads : Type 0
  Reads =
      ReadsOnce goes_on n size lane (record { event = reads; answer = reported } ∷ []) (lane_behind lane after)
      × IsLane n size start cpu new (lane_behind lane after)

  reads_to : (given : model.Answer)
      → reported ≡ given
      → (goes_on ≡ true → given ≡ reading)
      → (goes_on ≡ false → given ≢ reading)
      → (w : LaneValue)
      → new ≡ w
      → w.core ≡ core
      → w.payloads ≡ v.payloads
      → IfSome w.body (λ b. length b ≡ size)
      → as_parcels w.taken ≡ as_parcels v.taken ++ parcels_in cpu given
      → Reads
  reads_to given reported_is goes answers w new_is core_same payloads body_fits taken = (
    record {
      answer = reported;
      exchanges_are = refl;
      core = after;
      step = step;
      after_is = refl;
      goes = λ e. reported_is ∙ goes e;
      answers = λ e same. answers e (sym reported_is ∙ same);
    },
    subst (λ (u : LaneValue). IsLane n size start cpu u (lane_behind lane after)) (sym new_is)
        (reader_behind n size start cpu v lane is reads reported after tt step w
        (subst (λ (u : CoreValue). IsCore n size start u after) (sym core_same) core_is) payloads body_fits
        (taken ∙ ap (λ (a : model.Answer). as_parcels v.taken ++ parcels_in cpu a) (sym reported_is))),
  )

  no_more : (given : model.Answer) → goes_on ≡ false → goes_on ≡ true → given ≡ reading
  no_more given stopped goes = absurd (false≢true (sym stopped ∙ goes))

  keeps_reads : (result : Answer)
      → IsAnswerOf size result reported
      → GivesBack body result
      → Keeps cpu result goes_on (record v { core = core; body = None }) new
      → Reads
  keeps_reads Pushed reports gives keeps = absurd gives
  keeps_reads Going reports gives keeps = absurd gives
  keeps_reads (Reserved number) reports gives keeps = absurd gives
  keeps_reads (Ended ended) reports gives keeps = absurd gives
  keeps_reads Gone reports gives keeps = absurd gives
  keeps_reads (Refused fault) reports gives keeps = absurd gives
  keeps_reads (Looking back) reports gives (goes, is_new) =
      reads_to reading reports (λ e. refl) (λ e. absurd (false≢true (sym e ∙ goes)))
      (record v { core = core; body = Some back }) is_new refl refl (ap length gives ∙ fits)
      (sym (append-nil (as_parcels v.taken)))
  keeps_reads (Empty done back) reports gives (goes, is_new) =
      reads_to (empty done) reports (no_more (empty done) goes) (λ e same. let z : ⊥ = cc in z)
      (record v { core = core; body = Some back }) is_new refl refl (ap length gives ∙ fits)
      (sym (append-nil (as_parcels v.taken)))
  keeps_reads (Moving fill back) reports gives (goes, is_new) =
      reads_to (moving fill.0) reports (no_more (moving fill.0) goes) (λ e same. let z : ⊥ = cc in z)
      (record v { core = core; body = Some back }) is_new refl refl (ap length gives ∙ fits)
      (sym (append-nil (as_parcels v.taken)))
  keeps_reads (Taken contents missed) (t, reported_is, whole) gives (goes, (body, body_is, is_new)) =
      let kept = fitted_parcel cpu contents missed in
      let parcel_is : page.as_parcel kept ≡ parcel_of cpu t = (λ i. record {
        cpu = cpu;
        fill = whole.written.fill_is i;
        first = whole.written.first_is i;
        missed = whole.missed_is i;
        records = whole.written.records_are i;
      }) in
      reads_to (page_taken t) reported_is (no_more (page_taken t) goes) (λ e same. let z : ⊥ = cc in z)
      (record v { core = core; body = Some body; taken = v.taken ++ kept ∷ [] })
      is_new refl refl (body_is ∙ whole.written.size_is)
      (map-append page.as_parcel v.taken (kept ∷ []) ∙ ap (λ (p : Parcel). as_parcels v.taken ++ p ∷ []) parcel_is)
  keeps_reads (Wished fill) reports gives keeps = absurd gives

pub reads_once : (line cpu : ℕ) (v between new : LaneValue) (body : List ℕ) (asked : Asked) (result : Answer)
    (goes_on : Bool) (old reports : ReportsValue)
    → ((c : Core) → IsAsked asked c reads)
    → length body ≡ v.core.stack.size
    → MakesStep v.core reads result between.core
    → between ≡ record v { core = between.core; body = None }
    → GivesBack body result
    → IsReported line cpu asked result between.core old reports
    → Keeps cpu result goes_on between new
    → MakesExchanges (ReadsOnce goes_on) line cpu v old new reports
reads_once line cpu v between new body asked result goes_on old reports asks body_is makes same gives reported keeps =
    λ n size start lane is knows.
    let s = makes n size start lane.core is.is_core in
    let x : Exchange = record { event = reads; answer = s.answer } in
    let (reads_so, is_lane) =
    keeps_reads line cpu n size start v lane is between.core s.answer s.after s.step s.is_core body
    (body_is ∙ is.is_core.shows.frames.size_is) goes_on new result s.reports gives
    (subst (λ (w : LaneValue). Keeps cpu result goes_on w new) same keeps) in
    record {
      exchanges = x ∷ [];
      after = lane_behind lane s.after;
      happened = reads_so;
      is_lane = is_lane;
      reported = reported n size start lane.core s.after reads s.answer knows record {
        reached = is.is_core.reached;
        asked_is = asks lane.core;
        step = s.step;
        reports = s.reports;
        is_core = s.is_core;
      };
    }
