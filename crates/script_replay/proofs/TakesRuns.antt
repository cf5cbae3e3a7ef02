-- Steps of the reader, one after the other: `count` are made, or its take is answered.
use Rattle.std.proofs.Common.{◌≡◌, ◌≢◌, ℕ, suc, ◌+◌, ◌<◌, ◌≤◌, inl, inr, ⊎_elim, Bool, true, false, List, [], ◌∷◌, ◌++◌}
use Rattle.std.proofs.Common.{refl, sym, ◌∙◌, subst, arith, length-append}
use Rattle.std.specs.Prelude.{All}
use Rattle.std.proofs.lemmas.Bool.{false≢true}
use Rattle.std.proofs.lemmas.List.Elements.{All-push}
use Rattle.trace_model.specs.declared.limits.TheConstants.{MAX_PAGES}
use Rattle.trace_model.specs.Ring.{Core}
use Rattle.trace_model.specs.Steps.{reads, reading, Step, Exchange}
use Rattle.text_model.specs.Script.{take_page}
use Rattle.ring_model.specs.Ranks.{reader_limit}
use Rattle.world_model.specs.Lanes.{Lane, lane_behind, ReaderRun, HasTakeAnswer}
use Rattle.world_model.proofs.LineEnds.{reader_runs_short}
use Rattle.script_replay.specs.Value.{LaneValue}
use Rattle.script_replay.specs.Reports.{ReportsValue}
use Rattle.script_replay.specs.Lanes.{IsReportedLane, MakesExchanges, HasLine}
use Rattle.script_replay.specs.Takes.{ReadsOnce, ReadsOn, ReadsSteps}
use Rattle.script_replay.proofs.Reporting.{reported_none, reported_more, knows_after}

abbrev AllReading : List Exchange → Type 0
AllReading xs = All (λ (x : Exchange). x.answer ≡ reading) xs

-- ---- one step more

run_more : (n size : ℕ) (before between after : Lane) (xs : List Exchange) (x : Exchange)
    → ReaderRun n size before xs between
    → AllReading xs
    → x.event ≡ reads
    → (core : Core)
    → Step n size between.core reads x.answer core
    → after ≡ lane_behind between core
    → ReaderRun n size before (xs ++ x ∷ []) after
run_more n size before between after [] x run all event core step is =
    subst (λ (l : Lane). ReaderRun n size l (x ∷ []) after) (sym run)
    (event, (λ some. absurd (some refl)), core, step, sym is)
run_more n size before between after (y ∷ ys) x (first, more, next, own, run) all event core step is = (
  first,
  (λ some. all 0 y (omega arith)),
  next,
  own,
  run_more n size (lane_behind before next) between after ys x run (λ k d low. all (suc k) d (omega arith))
      event core step is,
)

answered_more : (xs : List Exchange) (x : Exchange) → x.answer ≢ reading → HasTakeAnswer (xs ++ x ∷ [])
answered_more [] x ends = ends
answered_more (y ∷ []) x ends = ends
answered_more (y ∷ z ∷ ys) x ends = answered_more (z ∷ ys) x ends

reading_more : (steps n size : ℕ) (goes_on : Bool) (before between after : Lane) (xs ys : List Exchange)
    → ReadsSteps steps true n size before xs between
    → ReadsOnce goes_on n size between ys after
    → ReadsSteps (steps + 1) goes_on n size before (xs ++ ys) after
reading_more steps n size goes_on before between after xs ys r once =
    let x : Exchange = record { event = reads; answer = once.answer } in
    let all : AllReading xs = r.goes refl in
    subst (λ (l : List Exchange). ReadsSteps (steps + 1) goes_on n size before (xs ++ l) after)
    (sym once.exchanges_are) record {
      run = run_more n size before between after xs x r.run all refl once.core once.step once.after_is;
      made = let count = length-append xs (x ∷ []) in let made = r.made in omega arith;
      goes = λ e. All-push (λ (y : Exchange). y.answer ≡ reading) xs x all (once.goes e);
      answers = λ e. answered_more xs x (once.answers e);
    }

-- ---- of a value

pub read_more : (line cpu steps : ℕ) (goes_on : Bool) (first between new : LaneValue)
    (old middle reports : ReportsValue)
    → MakesExchanges (ReadsSteps steps true) line cpu first old between middle
    → MakesExchanges (ReadsOnce goes_on) line cpu between middle new reports
    → MakesExchanges (ReadsSteps (steps + 1) goes_on) line cpu first old new reports
read_more line cpu steps goes_on first between new old middle reports so_far once = λ n size start lane is knows.
    let h = so_far n size start lane is knows in
    let k = once n size start h.after h.is_lane
    (knows_after n size line cpu lane.core h.after.core h.exchanges old middle h.reported) in
    record {
      exchanges = h.exchanges ++ k.exchanges;
      after = k.after;
      happened = reading_more steps n size goes_on lane h.after k.after h.exchanges k.exchanges h.happened k.happened;
      is_lane = k.is_lane;
      reported = reported_more n size line cpu lane.core h.after.core k.after.core h.exchanges k.exchanges old
          middle reports h.reported k.reported;
    }

-- none is made yet
pub read_none : (line cpu : ℕ) (v : LaneValue) (reports : ReportsValue)
    → MakesExchanges (ReadsSteps 0 true) line cpu v reports v reports
read_none line cpu v reports = λ n size start lane is knows. record {
  exchanges = [];
  after = lane;
  happened = record {
    run = refl;
    made = refl;
    goes = λ e k d low. absurd (omega arith);
    answers = λ e. absurd (false≢true (sym e));
  };
  is_lane = is;
  reported = reported_none n size line cpu lane.core reports knows;
}

-- after them the value is still a lane
pub lane_of : {run : (n size : ℕ) → Lane → List Exchange → Lane → Type 0} (line cpu : ℕ) (v new : LaneValue)
    (old reports : ReportsValue)
    → IsReportedLane cpu v old
    → MakesExchanges run line cpu v old new reports
    → IsReportedLane cpu new reports
lane_of line cpu v new old reports (n, size, start, lane, is, knows) has =
    let h = has n size start lane is knows in (
      n,
      size,
      start,
      h.after,
      h.is_lane,
      knows_after n size line cpu lane.core h.after.core h.exchanges old reports h.reported,
    )

-- all steps are made
pub all_read : (line cpu steps count : ℕ) (goes_on : Bool) (v new : LaneValue) (old reports : ReportsValue)
    → steps ≡ count
    → MakesExchanges (ReadsSteps steps goes_on) line cpu v old new reports
    → MakesExchanges (ReadsOn count) line cpu v old new reports
all_read line cpu steps count goes_on v new old reports all has = λ n size start lane is knows.
    let h = has n size start lane is knows in
    record {
      exchanges = h.exchanges;
      after = h.after;
      happened = (h.happened.run, ((let made = h.happened.made in omega arith), inl (h.happened.made ∙ all)));
      is_lane = h.is_lane;
      reported = h.reported;
    }

-- the take is answered
pub answer_read : (line cpu steps count : ℕ) (v new : LaneValue) (old reports : ReportsValue)
    → steps ≤ count
    → MakesExchanges (ReadsSteps steps false) line cpu v old new reports
    → MakesExchanges (ReadsOn count) line cpu v old new reports
answer_read line cpu steps count v new old reports few has = λ n size start lane is knows.
    let h = has n size start lane is knows in
    record {
      exchanges = h.exchanges;
      after = h.after;
      happened = (h.happened.run, ((let made = h.happened.made in omega arith), inr (h.happened.answers refl)));
      is_lane = h.is_lane;
      reported = h.reported;
    }

-- ---- a whole take

-- what isn't unanswered is answered
answered_if : (xs : List Exchange) → ((HasTakeAnswer xs → ⊥) → ⊥) → HasTakeAnswer xs
answered_if [] not = absurd (not (λ e. e))
answered_if (x ∷ []) not = λ e. not (λ ends. ends e)
answered_if (x ∷ y ∷ xs) not = answered_if (y ∷ xs) not

pub take_is_answered : (line cpu count : ℕ) (v new : LaneValue) (old reports : ReportsValue)
    → reader_limit MAX_PAGES < count
    → MakesExchanges (ReadsOn count) line cpu v old new reports
    → HasLine (take_page cpu) line cpu v old new reports
take_is_answered line cpu count v new old reports many has = λ n size start lane is knows.
    let h = has n size start lane is knows in
    let (run, (few, stop)) = h.happened in
    record {
      exchanges = h.exchanges;
      after = h.after;
      happened = (
        run,
        ⊎_elim
            (λ all. answered_if h.exchanges (λ not.
            let short = reader_runs_short n size start lane h.after h.exchanges is.is_core.reached run not in
            let most = is.most in
            let none : ⊥ = omega arith in
            none))
            (λ answered. answered) stop,
      );
      is_lane = h.is_lane;
      reported = h.reported;
    }
