-- The frame on top makes one step more, and steps until it is gone: the exchanges, and what is logged of them.
use Rattle.std.proofs.Common.{◌≡◌, ◌≢◌, ℕ, zero, suc, ◌+◌, ◌-◌, ◌<◌, ◌≤◌, ◌⊎◌, ⊎_elim, inl, inr, List, [], ◌∷◌, ◌++◌}
use Rattle.std.proofs.Common.{length, drop, get_or, map, reverse, refl, sym, Bor, ap, ◌∙◌, subst, arith, length-append}
use mathlib.Core.Logic.{dite}
use native.Mathlib.Decide.{dec_le}
use Rattle.trace_model.specs.declared.limits.TheConstants.{MAX_PAGES}
use Rattle.trace_model.specs.Frames.{Progress, waiting, reserved, left, Frame, no_frame}
use Rattle.trace_model.specs.Ring.{Core}
use Rattle.trace_model.specs.Steps as model
use Rattle.trace_model.specs.Steps.{steps, refused, Step, Exchange, top_step_of}
use Rattle.trace_model.proofs.steps.StepSound.{cases_of}
use Rattle.text_model.specs.Script.{step_frame, finish_frame}
use Rattle.ring_model.specs.Reached.{IsReached}
use Rattle.ring_model.specs.Ranks.{frame_limit}
use Rattle.world_model.specs.Lanes.{Lane, lane_behind, event_in, event_on_top, FitFrames, FrameRun, IsGone, StepsFrame}
use Rattle.world_model.specs.Lanes.{lacks_to_step, steps_on, FinishesFrame, lacks_to_finish, finishes, LineRun}
use Rattle.world_model.proofs.FramesMove.{Moves, stays, changes, pops, step_moves}
use Rattle.world_model.proofs.LanePayloads.{pushes_none}
use Rattle.world_model.proofs.LineEnds.{frame_runs_short}
use Rattle.ring_frames.specs.declared.answer.Answer.{Answer}
use Rattle.ring_frames.specs.Answers.{IsAnswerOf}
use Rattle.ring_core.specs.Value.{CoreValue}
use Rattle.script_replay.specs.declared.asked.Asked.{Asked}
use Rattle.script_replay.specs.Tells.{IsAsked, IsStepOf}
use Rattle.script_replay.specs.Reports.{ReportsValue, KnowsRing, IsReported}
use Rattle.script_replay.specs.declared.lane.Lane.TheInside.{Inside}
use Rattle.script_replay.specs.Value.{LaneValue, lane_of}
use Rattle.script_replay.specs.Lanes.{IsLane, Happens, MakesExchanges}
use Rattle.script_replay.specs.Frames.{IsSteppedOnce, StepsOnce, FollowsFrame, HasMadeSteps}
use Rattle.script_replay.proofs.Reporting.{reported_none, reported_more, knows_after}
use Rattle.script_replay.proofs.LaneValues.{depth_is, fit_many}
use Rattle.script_replay.proofs.FrameTops.{last_of, is_first}

-- ---- one step more

-- a step after a run of the frame on top is one more of it
frame_more : (n size depth : ℕ) (before after : Lane) (xs : List Exchange) (answer : model.Answer) (core : Core)
    → FrameRun n size depth before xs after
    → length after.core.frames ≡ depth
    → Step n size after.core (event_on_top after.core.frames after.payloads) answer core
    → FrameRun n size depth before
    (xs ++ record { event = event_on_top after.core.frames after.payloads; answer = answer } ∷ [])
    (lane_behind after core)
frame_more n size depth before after [] answer core run stands step =
    subst (λ (l : Lane). FrameRun n size depth l
    (record { event = event_on_top after.core.frames after.payloads; answer = answer } ∷ [])
    (lane_behind after core)) (sym run)
    (stands, refl, core, step, refl)
frame_more n size depth before after (x ∷ xs) answer core (here, event, next, made, run) stands step =
    (here, event, next, made, frame_more n size depth (lane_behind before next) after xs answer core run stands step)

-- no step of a frame adds one
fewer : (before after : List Frame) → Moves before after → length after ≤ length before
fewer before after (stays is) = omega (arith, ap (λ (l : List Frame). length l) is)
fewer before after (changes frame next below top kind is) =
    omega (arith, ap (λ (l : List Frame). length l) top, ap (λ (l : List Frame). length l) is)
fewer before after (pops frame below top is) =
    omega (arith, ap (λ (l : List Frame). length l) top, ap (λ (l : List Frame). length l) is)

top_fewer : (n size : ℕ) (lane : Lane) (answer : model.Answer) (core : Core)
    → Step n size lane.core (event_on_top lane.core.frames lane.payloads) answer core
    → length core.frames ≤ length lane.core.frames
top_fewer n size lane answer core step =
    fewer lane.core.frames core.frames
    (step_moves n size lane.core (event_on_top lane.core.frames lane.payloads) answer core
    (pushes_none lane.core.frames lane.payloads) (cases_of step))

pub part_way_none : (n size start cpu line depth : ℕ) (v : LaneValue) (lane : Lane) (reports : ReportsValue)
    → IsLane n size start cpu v lane
    → KnowsRing reports cpu lane.core
    → depth ≡ length v.core.stack.frames
    → Happens (HasMadeSteps depth 0) line cpu n size start lane reports v reports
part_way_none n size start cpu line depth v lane reports is knows deep =
    let same = depth_is n size start cpu v lane is in
    record {
      exchanges = [];
      after = lane;
      happened = record { run = refl; made = refl; few = omega arith; kept = λ stands. refl };
      is_lane = is;
      reported = reported_none n size line cpu lane.core reports knows;
    }

-- the payloads of the frames that stay are kept
kept_behind : (lane : Lane) (core : Core) (depth : ℕ) (payloads : List (List ℕ))
    → length lane.payloads ≡ depth
    → lane.payloads ≡ payloads
    → length core.frames ≡ depth
    → (lane_behind lane core).payloads ≡ payloads
kept_behind lane core depth payloads many same stands =
    ap (λ (k : ℕ). drop k lane.payloads)
    (let e : length lane.payloads - length core.frames ≡ zero = omega (arith, many, stands) in e)
    ∙ same

pub part_way_more : (n size start cpu line depth count : ℕ) (before : Lane) (v new : LaneValue) (asked : Asked)
    (answer : Answer) (first old more : ReportsValue)
    → Happens (HasMadeSteps depth count) line cpu n size start before first v old
    → length v.core.stack.frames ≡ depth
    → StepsOnce v answer new
    → ((lane : Lane) → IsLane n size start cpu v lane → lane.payloads ≡ before.payloads
    → IsAsked asked lane.core (event_on_top lane.core.frames lane.payloads))
    → IsReported line cpu asked answer new.core old more
    → Happens (HasMadeSteps depth (count + 1)) line cpu n size start before first new more
part_way_more n size start cpu line depth count before v new asked answer first old more h deep once asks reported =
    let s = once n size start cpu h.after h.is_lane in
    let event : model.Event = event_on_top h.after.core.frames h.after.payloads in
    let x : Exchange = record { event = event; answer = s.reported } in
    let stands : length h.after.core.frames ≡ depth = sym (depth_is n size start cpu v h.after h.is_lane) ∙ deep in
    let low = top_fewer n size h.after s.reported s.core s.step in
    let made = h.happened.made in
    let kept = h.happened.kept stands in
    record {
      exchanges = h.exchanges ++ x ∷ [];
      after = lane_behind h.after s.core;
      happened = record {
        run = frame_more n size depth before h.after h.exchanges s.reported s.core h.happened.run stands s.step;
        made = omega (arith, length-append h.exchanges (x ∷ []), made);
        few = omega (arith, low, stands);
        kept = λ now. kept_behind h.after s.core depth before.payloads
            (fit_many h.after.core.frames h.after.payloads h.is_lane.fit ∙ stands) kept now;
      };
      is_lane = s.is_lane;
      reported = reported_more n size line cpu before.core h.after.core s.core h.exchanges (x ∷ []) first old more
          h.reported
          (reported n size start h.after.core s.core event s.reported
          (knows_after n size line cpu before.core h.after.core h.exchanges first old h.reported) (record {
            reached = h.is_lane.is_core.reached;
            asked_is = asks h.after h.is_lane kept;
            step = s.step;
            reports = s.reports;
            is_core = s.is_lane.is_core;
          }));
    }

-- the event that is asked of the frame on top, by the first payload alone
pub asks_top : (frames : List Frame) (payloads : List (List ℕ)) (payload : List ℕ) (rest : List (List ℕ))
    → payloads ≡ payload ∷ rest
    → event_on_top frames payloads ≡ event_on_top frames (payload ∷ [])
asks_top frames payloads payload rest is = ap (event_on_top frames) is ∙ by_state frames
  where
    in_state : (state : Progress) → event_in state (payload ∷ rest) ≡ event_in state (payload ∷ [])
    in_state waiting = refl
    in_state (reserved number) = refl
    in_state left = refl

    by_state : (fs : List Frame) → event_on_top fs (payload ∷ rest) ≡ event_on_top fs (payload ∷ [])
    by_state [] = refl
    by_state (frame ∷ below) = in_state frame.state

-- in each lane that the value was
pub part_way_turn : (line cpu depth count : ℕ) (start_value v new : LaneValue) (asked : Asked) (answer : Answer)
    (first old more : ReportsValue)
    → MakesExchanges (HasMadeSteps depth count) line cpu start_value first v old
    → length v.core.stack.frames ≡ depth
    → StepsOnce v answer new
    → ((n size start : ℕ) (before lane : Lane)
    → IsLane n size start cpu start_value before
    → IsLane n size start cpu v lane
    → lane.payloads ≡ before.payloads
    → IsAsked asked lane.core (event_on_top lane.core.frames lane.payloads))
    → IsReported line cpu asked answer new.core old more
    → MakesExchanges (HasMadeSteps depth (count + 1)) line cpu start_value first new more
part_way_turn line cpu depth count start_value v new asked answer first old more part_way deep once asks reported n size
    start lane is knows =
    part_way_more n size start cpu line depth count lane v new asked answer first old more
    (part_way n size start lane is knows) deep once
    (λ other other_is same. asks n size start lane other is other_is same) reported

-- the step of the frame on top
pub top_step : (n size start cpu line depth count : ℕ) (before : Lane) (v new : LaneValue) (asked : Asked)
    (answer : Answer) (first old : ReportsValue)
    → (h : Happens (HasMadeSteps depth count) line cpu n size start before first v old)
    → length v.core.stack.frames ≡ depth
    → (s : IsSteppedOnce n size start cpu h.after answer new)
    → (h.after.payloads ≡ before.payloads
    → IsAsked asked h.after.core (event_on_top h.after.core.frames h.after.payloads))
    → IsStepOf n size start h.after.core s.core (event_on_top h.after.core.frames h.after.payloads) s.reported asked
    answer new.core
top_step n size start cpu line depth count before v new asked answer first old h deep s asks = record {
  reached = h.is_lane.is_core.reached;
  asked_is = asks (h.happened.kept (sym (depth_is n size start cpu v h.after h.is_lane) ∙ deep));
  step = s.step;
  reports = s.reports;
  is_core = s.is_lane.is_core;
}

-- `count` steps are made, or the frame is gone
pub followed : (n size start cpu line depth made count : ℕ) (before : Lane) (v : LaneValue)
    (first reports : ReportsValue)
    → Happens (HasMadeSteps depth made) line cpu n size start before first v reports
    → depth ≡ length before.core.frames
    → made ≤ count
    → (count ≤ made) ⊎ (length v.core.stack.frames ≢ depth)
    → Happens (FollowsFrame count) line cpu n size start before first v reports
followed n size start cpu line depth made count before v first reports h deep few stop =
    let many = h.happened.made in
    let low = h.happened.few in
    let same = depth_is n size start cpu v h.after h.is_lane in
    record {
      exchanges = h.exchanges;
      after = h.after;
      happened = (
        subst (λ (d : ℕ). FrameRun n size d before h.exchanges h.after) deep h.happened.run,
        (omega arith, ⊎_elim (λ all. inl (omega arith)) (λ other. inr (omega arith)) stop),
      );
      is_lane = h.is_lane;
      reported = h.reported;
    }

-- ---- until it is gone

runs_few : (n size depth : ℕ) (before after : Lane) (xs : List Exchange)
    → FrameRun n size depth before xs after
    → length before.core.frames ≤ depth
    → length after.core.frames ≤ depth
runs_few n size depth before after [] run few = subst (λ (l : Lane). length l.core.frames ≤ depth) run few
runs_few n size depth before after (x ∷ xs) (here, event, next, made, run) few =
    let own : Step n size before.core (event_on_top before.core.frames before.payloads) x.answer next =
    subst (λ (e : model.Event). Step n size before.core e x.answer next) event made in
    runs_few n size depth (lane_behind before next) after xs run
    (let low = top_fewer n size before x.answer next own in omega arith)

-- a frame that may make more steps than any makes is gone
gone_behind : (n size start count : ℕ) (before after : Lane) (xs : List Exchange)
    → IsReached n size start before.core
    → n ≤ MAX_PAGES
    → frame_limit MAX_PAGES < count
    → 1 ≤ length before.core.frames
    → FollowsFrame count n size before xs after
    → IsGone (length before.core.frames) after
gone_behind n size start count before after xs reached most long some (run, (high, stop)) = ⊎_elim
    (λ all. dite (dec_le (suc (length after.core.frames)) (length before.core.frames)) (λ gone. omega arith)
    (λ stays. let few = runs_few n size (length before.core.frames) before after xs run (omega arith) in
    let short = frame_runs_short n size start (length before.core.frames) before after xs some reached run (omega arith)
    in
    absurd (omega arith)))
    (λ gone. gone) stop

no_length : {A : Type 0} (xs : List A) → length xs ≡ 0 → xs ≡ []
no_length [] e = refl
no_length (x ∷ xs) e = absurd (omega (arith, e))

pub some_frames : (n size start cpu : ℕ) (v : LaneValue) (lane : Lane)
    → IsLane n size start cpu v lane
    → v.core.stack.frames ≢ []
    → lane.core.frames ≢ []
some_frames n size start cpu v lane is some none =
    some (no_length v.core.stack.frames (depth_is n size start cpu v lane is ∙ ap (λ (l : List Frame). length l) none))

some_length : {A : Type 0} (xs : List A) → xs ≢ [] → 1 ≤ length xs
some_length [] some = absurd (some refl)
some_length (x ∷ xs) some = omega arith

-- a frame that is to make more steps than any makes finishes
finish_by : (n size start cpu count : ℕ) (v : LaneValue) (before after : Lane) (xs : List Exchange)
    → IsLane n size start cpu v before
    → frame_limit MAX_PAGES < count
    → StepsFrame n size count before xs after
    → FinishesFrame n size before xs after
finish_by n size start cpu count v before after xs is long (lacks_to_step lacks) = lacks_to_finish lacks
finish_by n size start cpu count v before after xs is long (steps_on frames run stop) =
    finishes frames run
    (gone_behind n size start count before after xs is.is_core.reached is.most long
    (some_length before.core.frames frames) (run, stop))

pub finished : (n size start cpu line count : ℕ) (v new : LaneValue) (lane : Lane) (first reports : ReportsValue)
    → IsLane n size start cpu v lane
    → frame_limit MAX_PAGES < count
    → Happens (λ n size before exchanges after. LineRun n size (step_frame cpu count) before exchanges after) line cpu n
    size start lane first new reports
    → Happens (λ n size before exchanges after. LineRun n size (finish_frame cpu) before exchanges after) line cpu n
    size start lane first new reports
finished n size start cpu line count v new lane first reports is long h = record {
  exchanges = h.exchanges;
  after = h.after;
  happened = finish_by n size start cpu count v lane h.after h.exchanges is long h.happened;
  is_lane = h.is_lane;
  reported = h.reported;
}

-- the payload of the frame on top is the last one that is kept
pub first_payload : (n size start cpu last : ℕ) (inside : Inside) (v : LaneValue) (lane : Lane) (payload : Bor (List ℕ))
    → lane_of inside ≡ v
    → IsLane n size start cpu v lane
    → v.core.stack.frames ≢ []
    → last ≡ length inside.payloads.items
    → payload ≡ get_or inside.payloads.items (last - 1) payload
    → (rest : List (List ℕ)) × (lane.payloads ≡ payload.now ∷ rest)
first_payload n size start cpu last inside v lane payload view is some kept at =
    of_frames lane.core.frames lane.payloads (some_frames n size start cpu v lane is some) is.fit
    (ap (λ (w : LaneValue). w.payloads) view ∙ is.payloads_are)
  where
    of_frames : (frames : List Frame) (payloads : List (List ℕ))
        → frames ≢ []
        → FitFrames frames payloads
        → reverse (map (λ (b : Bor (List ℕ)). b.now) inside.payloads.items) ≡ payloads
        → (rest : List (List ℕ)) × (payloads ≡ payload.now ∷ rest)
    of_frames [] payloads stands fit shown = absurd (stands refl)
    of_frames (frame ∷ below) [] stands fit shown = absurd fit
    of_frames (frame ∷ below) (first ∷ rest) stands fit shown = (
      rest,
      ap (λ (l : List ℕ). l ∷ rest)
          (sym (is_first (λ (b : Bor (List ℕ)). b.now) inside.payloads.items (last - 1) payload
          (last_of (λ (b : Bor (List ℕ)). b.now) inside.payloads.items last first rest shown kept) at first rest
          shown)),
    )

pub stepped_on : (n size start cpu line count : ℕ) (v new : LaneValue) (lane : Lane) (first reports : ReportsValue)
    → IsLane n size start cpu v lane
    → v.core.stack.frames ≢ []
    → Happens (FollowsFrame count) line cpu n size start lane first new reports
    → Happens (λ n size before exchanges after. LineRun n size (step_frame cpu count) before exchanges after) line cpu n
    size start lane first new reports
stepped_on n size start cpu line count v new lane first reports is some h = record {
  exchanges = h.exchanges;
  after = h.after;
  happened = steps_on (some_frames n size start cpu v lane is some) h.happened.0 h.happened.1;
  is_lane = h.is_lane;
  reported = h.reported;
}

-- ---- no frame is on the stack

lacks : (n size : ℕ) (c : Core) → c.frames ≡ [] → Step n size c steps (refused no_frame) c
lacks n size c none = record { is = ap (λ (fs : List Frame). top_step_of n size c fs) none }

-- so the step of the frame on top is refused
pub no_frame_step : (n size start cpu : ℕ) (v : LaneValue) (lane : Lane) (asked : Asked) (answer : Answer)
    → IsLane n size start cpu v lane
    → length v.core.stack.frames ≡ 0
    → ((c : Core) → c.frames ≡ [] → IsAsked asked c steps)
    → IsAnswerOf size answer (refused no_frame)
    → IsStepOf n size start lane.core lane.core steps (refused no_frame) asked answer v.core
no_frame_step n size start cpu v lane asked answer is none asks means =
    let empty : lane.core.frames ≡ [] =
    no_length lane.core.frames (sym (depth_is n size start cpu v lane is) ∙ none) in
    record {
      reached = is.is_core.reached;
      asked_is = asks lane.core empty;
      step = lacks n size lane.core empty;
      reports = means;
      is_core = is.is_core;
    }

pub lacks_step : (n size start cpu line count : ℕ) (v : LaneValue) (lane : Lane) (asked : Asked) (answer : Answer)
    (first reports : ReportsValue)
    → IsLane n size start cpu v lane
    → KnowsRing first cpu lane.core
    → length v.core.stack.frames ≡ 0
    → ((c : Core) → c.frames ≡ [] → IsAsked asked c steps)
    → IsAnswerOf size answer (refused no_frame)
    → (ring : CoreValue)
    → ring ≡ v.core
    → IsReported line cpu asked answer ring first reports
    → Happens (λ n size before exchanges after. LineRun n size (step_frame cpu count) before exchanges after) line cpu n
    size start lane first v reports
lacks_step n size start cpu line count v lane asked answer first reports is knows none asks means ring same reported =
    let empty : lane.core.frames ≡ [] =
    no_length lane.core.frames (sym (depth_is n size start cpu v lane is) ∙ none) in
    record {
      exchanges = record { event = steps; answer = refused no_frame } ∷ [];
      after = lane;
      happened = lacks_to_step record { none = empty; exchanges_are = refl; stays = refl };
      is_lane = is;
      reported = reported n size start lane.core lane.core steps (refused no_frame) knows
          (subst (IsStepOf n size start lane.core lane.core steps (refused no_frame) asked answer) (sym same)
          (no_frame_step n size start cpu v lane asked answer is none asks means));
    }
