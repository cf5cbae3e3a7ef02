-- A frame that is pushed is on top with its payload; one that is refused changes nothing.
use Rattle.std.proofs.Common.{◌≡◌, ◌≢◌, ℕ, List, [], ◌∷◌, length, map, refl, sym, ap, ◌∙◌, subst}
use Rattle.trace_model.specs.Frames.{WriteFault, Frame}
use Rattle.trace_model.specs.Ring.{Core}
use Rattle.trace_model.specs.Steps as model
use Rattle.trace_model.specs.Steps.{pushes, pushes_close, pushed, refused, Step, Exchange}
use Rattle.trace_model.proofs.steps.StepCases.{StepCases, push_step, push_refused, close_step, close_refused}
use Rattle.trace_model.proofs.steps.StepCases.{frame_step, frame_lacks, end_step, end_lacks, end_early, read_step}
use Rattle.trace_model.proofs.steps.StepCases.{store_wish_step}
use Rattle.trace_model.proofs.steps.StepSound.{cases_of}
use Rattle.text_model.specs.Script.{begin_frame, finish_frame}
use Rattle.ring_model.specs.Seats.{IsOfReader}
use Rattle.world_model.specs.Lanes.{Lane, payloads_with, lane_with, FitsKind, FitFrames, PushesFrame, FinishesPushed}
use Rattle.world_model.specs.Lanes.{WritesFrame, LineRun}
use Rattle.world_model.specs.World.{parcel_of}
use Rattle.ring_core.specs.declared.event.Event.{Event}
use Rattle.ring_core.specs.declared.event.Event.TheVariants as event
use Rattle.ring_frames.specs.declared.answer.Answer.{Answer}
use Rattle.ring_frames.specs.declared.answer.Answer.TheVariants as answer
use Rattle.ring_core.specs.Value.{CoreValue}
use Rattle.nested_writer.specs.declared.stack.leave.Ended.TheVariants.{Pending, Full}
use Rattle.ring_frames.specs.Answers.{IsAnswerOf}
use Rattle.ring_frames.proofs.Reported.{reported_pushed}
use Rattle.ring_core.specs.Answers.{event_of}
use Rattle.ring_core.specs.Steps.{IsStep, MakesStep}
use Rattle.script_replay.specs.Value.{LaneValue}
use Rattle.script_replay.specs.declared.asked.Asked.{Asked}
use Rattle.script_replay.specs.Tells.{IsAsked, IsStepOf}
use Rattle.script_replay.specs.Reports.{ReportsValue, Reported, KnowsRing, IsReported}
use Rattle.script_replay.specs.Lanes.{IsLane, Happens}
use Rattle.script_replay.specs.Frames.{IsPushOf, push_event, IsPushed, Pushes}
use Rattle.script_replay.proofs.Reporting.{reported_more}
use Rattle.script_replay.proofs.LaneValues.{moved_lane, taken_stay}

-- what a push makes of the frames
pub data PushEnds (payload : List ℕ) (before : Core) (reported : model.Answer) (after : Core) : Type 0 where
  stands : (frame : Frame)
      → reported ≡ pushed
      → after.frames ≡ frame ∷ before.frames
      → FitsKind frame.kind payload
      → PushEnds payload before reported after
  fails : (why : WriteFault) → reported ≡ refused why → after.frames ≡ before.frames
      → PushEnds payload before reported after

len_same : (moment len moment' len' : ℕ) → pushes moment len ≡ pushes moment' len' → len ≡ len'
len_same moment len moment' len' e = cc

module _ (n size : ℕ) (payload : List ℕ) (c : Core) (reported : model.Answer) (after : Core) where
  record_ends : (moment len : ℕ)
      → length payload ≡ len
      → StepCases n size c (pushes moment len) reported after
      → PushEnds payload c reported after
  record_ends moment len long (push_step moment' len' e few short early a is) =
      stands _ a (ap (λ (d : Core). d.frames) is) (long ∙ len_same moment len moment' len' e)
  record_ends moment len long (push_refused moment' len' why e refusal a is) =
      fails why a (ap (λ (d : Core). d.frames) is)
  record_ends moment len long (close_step e few a is) = absurd (let z : ⊥ = cc in z)
  record_ends moment len long (close_refused e many a is) = absurd (let z : ⊥ = cc in z)
  record_ends moment len long (frame_step frame below e top step) = absurd (let z : ⊥ = cc in z)
  record_ends moment len long (frame_lacks e empty a is) = absurd (let z : ⊥ = cc in z)
  record_ends moment len long (end_step bytes frame below number moment' len' e top at kind size_is a is) =
      absurd (let z : ⊥ = cc in z)
  record_ends moment len long (end_lacks bytes e empty a is) = absurd (let z : ⊥ = cc in z)
  record_ends moment len long (end_early bytes frame below e top waits a is) = absurd (let z : ⊥ = cc in z)
  record_ends moment len long (read_step e step) = absurd (let z : ⊥ = cc in z)
  record_ends moment len long (store_wish_step e a is) = absurd (let z : ⊥ = cc in z)

  close_ends : payload ≡ [] → StepCases n size c pushes_close reported after → PushEnds payload c reported after
  close_ends none (push_step moment' len' e few short early a is) = absurd (let z : ⊥ = cc in z)
  close_ends none (push_refused moment' len' why e refusal a is) = absurd (let z : ⊥ = cc in z)
  close_ends none (close_step e few a is) = stands _ a (ap (λ (d : Core). d.frames) is) none
  close_ends none (close_refused e many a is) = fails _ a (ap (λ (d : Core). d.frames) is)
  close_ends none (frame_step frame below e top step) = absurd (let z : ⊥ = cc in z)
  close_ends none (frame_lacks e empty a is) = absurd (let z : ⊥ = cc in z)
  close_ends none (end_step bytes frame below number moment' len' e top at kind size_is a is) =
      absurd (let z : ⊥ = cc in z)
  close_ends none (end_lacks bytes e empty a is) = absurd (let z : ⊥ = cc in z)
  close_ends none (end_early bytes frame below e top waits a is) = absurd (let z : ⊥ = cc in z)
  close_ends none (read_step e step) = absurd (let z : ⊥ = cc in z)
  close_ends none (store_wish_step e a is) = absurd (let z : ⊥ = cc in z)

  pub push_ends : (push : Event)
      → IsPushOf push payload
      → Step n size c (push_event push) reported after
      → PushEnds payload c reported after
  push_ends (event.Push moment len) of step = record_ends moment len of (cases_of step)
  push_ends event.PushClose of step = close_ends of (cases_of step)
  push_ends event.Step of step = absurd of
  push_ends event.End of step = absurd of
  push_ends (event.Read body) of step = absurd of
  push_ends event.Wish of step = absurd of

not_of_reader : (push : Event) (payload : List ℕ) → IsPushOf push payload → IsOfReader (push_event push) → ⊥
not_of_reader (event.Push moment len) payload of reads = reads
not_of_reader event.PushClose payload of reads = reads
not_of_reader event.Step payload of reads = reads
not_of_reader event.End payload of reads = reads
not_of_reader (event.Read body) payload of reads = reads
not_of_reader event.Wish payload of reads = reads

fits_behind : (payload : List ℕ) (lane : Lane) (reported : model.Answer) (after : Core)
    → FitFrames lane.core.frames lane.payloads
    → PushEnds payload lane.core reported after
    → FitFrames after.frames (payloads_with payload reported lane.payloads)
fits_behind payload lane reported after fit (stands frame is frames fits) =
    subst (λ (a : model.Answer). FitFrames after.frames (payloads_with payload a lane.payloads)) (sym is)
    (subst (λ (fs : List Frame). FitFrames fs (payload ∷ lane.payloads)) (sym frames) (fits, fit))
fits_behind payload lane reported after fit (fails why is frames) =
    subst (λ (a : model.Answer). FitFrames after.frames (payloads_with payload a lane.payloads)) (sym is)
    (subst (λ (fs : List Frame). FitFrames fs lane.payloads) (sym frames) fit)

-- the value after a push, whatever is answered
pushed_lane : (n size start cpu : ℕ) (old new : LaneValue) (lane : Lane) (push : Event) (payload : List ℕ)
    (answer : Answer) (core : CoreValue)
    → IsLane n size start cpu old lane
    → IsPushOf push payload
    → (s : IsStep n size start lane.core (push_event push) answer core)
    → new ≡ record old { core = core; payloads = payloads_with payload s.answer old.payloads }
    → IsPushed n size start cpu lane (push_event push) payload answer new
pushed_lane n size start cpu old new lane push payload answer core is of s new_is = record {
  reported = s.answer;
  core = s.after;
  step = s.step;
  reports = s.reports;
  is_lane = subst (λ (v : LaneValue). IsLane n size start cpu v (lane_with lane payload s.answer s.after)) (sym new_is)
      (moved_lane is s.is_core (ap (payloads_with payload s.answer) is.payloads_are)
      (fits_behind payload lane s.answer s.after is.fit
      (push_ends n size payload lane.core s.answer s.after push of s.step))
      is.body
      (is.taken_are
      ∙ ap (map (parcel_of cpu))
      (sym (taken_stay n size lane.core (push_event push) s.answer s.after (not_of_reader push payload of)
      s.step))));
}

-- the push of the value is that of the model
event_is : (v : CoreValue) (push : Event) (payload : List ℕ) → IsPushOf push payload → event_of v push ≡ push_event push
event_is v (event.Push moment len) payload of = refl
event_is v event.PushClose payload of = refl
event_is v event.Step payload of = absurd of
event_is v event.End payload of = absurd of
event_is v (event.Read body) payload of = absurd of
event_is v event.Wish payload of = absurd of

made_push : (old : LaneValue) (push : Event) (payload : List ℕ) (a : Answer) (core : CoreValue)
    → IsPushOf push payload
    → MakesStep old.core (event_of old.core push) a core
    → MakesStep old.core (push_event push) a core
made_push old push payload a core of makes =
    subst (λ (e : model.Event). MakesStep old.core e a core) (event_is old.core push payload of) makes

-- it is on top
pub stands_pushed : (old : LaneValue) (push : Event) (payload : List ℕ) (a : Answer) (core : CoreValue)
    (payloads : List (List ℕ))
    → IsPushOf push payload
    → MakesStep old.core (event_of old.core push) a core
    → a ≡ answer.Pushed
    → payloads ≡ payload ∷ old.payloads
    → Pushes (push_event push) payload old a (record old { core = core; payloads = payloads })
stands_pushed old push payload a core payloads of makes pushed_is is n size start cpu lane lane_is =
    let s = made_push old push payload a core of makes n size start lane.core lane_is.is_core in
    let reported : s.answer ≡ pushed = subst (λ (x : Answer). IsAnswerOf size x s.answer) pushed_is s.reports in
    pushed_lane n size start cpu old (record old { core = core; payloads = payloads }) lane push payload a core lane_is
    of s
    (ap (λ (p : List (List ℕ)). record old { core = core; payloads = p })
    (is ∙ ap (λ (x : model.Answer). payloads_with payload x old.payloads) (sym reported)))

payloads_stay : (size : ℕ) (payload : List ℕ) (payloads : List (List ℕ)) (a : Answer) (reported : model.Answer)
    → IsAnswerOf size a reported
    → a ≢ answer.Pushed
    → payloads_with payload reported payloads ≡ payloads
payloads_stay size payload payloads answer.Pushed reported t not = absurd (not refl)
payloads_stay size payload payloads answer.Going reported t not =
    ap (λ (x : model.Answer). payloads_with payload x payloads) t
payloads_stay size payload payloads (answer.Reserved number) reported t not =
    ap (λ (x : model.Answer). payloads_with payload x payloads) t
payloads_stay size payload payloads (answer.Ended Pending) reported t not =
    ap (λ (x : model.Answer). payloads_with payload x payloads) t
payloads_stay size payload payloads (answer.Ended Full) reported t not =
    ap (λ (x : model.Answer). payloads_with payload x payloads) t
payloads_stay size payload payloads answer.Gone reported t not =
    ap (λ (x : model.Answer). payloads_with payload x payloads) t
payloads_stay size payload payloads (answer.Refused fault) reported t not =
    ap (λ (x : model.Answer). payloads_with payload x payloads) t
payloads_stay size payload payloads (answer.Looking body) reported t not =
    ap (λ (x : model.Answer). payloads_with payload x payloads) t
payloads_stay size payload payloads (answer.Empty done body) reported t not =
    ap (λ (x : model.Answer). payloads_with payload x payloads) t
payloads_stay size payload payloads (answer.Moving fill body) reported t not =
    ap (λ (x : model.Answer). payloads_with payload x payloads) t
payloads_stay size payload payloads (answer.Taken page missed) reported t not =
    ap (λ (x : model.Answer). payloads_with payload x payloads) t.1
payloads_stay size payload payloads (answer.Wished fill) reported t not =
    ap (λ (x : model.Answer). payloads_with payload x payloads) t

-- it is refused
pub fails_pushed : (old : LaneValue) (push : Event) (payload : List ℕ) (a : Answer) (core : CoreValue)
    → IsPushOf push payload
    → MakesStep old.core (event_of old.core push) a core
    → a ≢ answer.Pushed
    → Pushes (push_event push) payload old a (record old { core = core })
fails_pushed old push payload a core of makes not n size start cpu lane lane_is =
    let s = made_push old push payload a core of makes n size start lane.core lane_is.is_core in
    pushed_lane n size start cpu old (record old { core = core }) lane push payload a core lane_is of s
    (ap (λ (p : List (List ℕ)). record old { core = core; payloads = p })
    (sym (payloads_stay size payload old.payloads a s.answer s.reports not)))

-- ---- lines that push

pub pushes_frame : (n size start cpu : ℕ) (lane : Lane) (push : model.Event) (payload : List ℕ) (a : Answer)
    (new : LaneValue)
    → (p : IsPushed n size start cpu lane push payload a new)
    → PushesFrame n size push payload lane record { event = push; answer = p.reported }
    (lane_with lane payload p.reported p.core)
pushes_frame n size start cpu lane push payload a new p =
    record { event_is = refl; core = p.core; step = p.step; after_is = refl }

-- the step of a push
pub pushed_step : (n size start cpu : ℕ) (v : LaneValue) (lane : Lane) (asked : Asked) (push : model.Event)
    (payload : List ℕ) (a : Answer) (new : LaneValue)
    → IsLane n size start cpu v lane
    → IsAsked asked lane.core push
    → (p : IsPushed n size start cpu lane push payload a new)
    → IsStepOf n size start lane.core p.core push p.reported asked a new.core
pushed_step n size start cpu v lane asked push payload a new is asks p = record {
  reached = is.is_core.reached;
  asked_is = asks;
  step = p.step;
  reports = p.reports;
  is_core = p.is_lane.is_core;
}

pub begun : (n size start cpu line moment : ℕ) (v : LaneValue) (lane : Lane) (asked : Asked) (payload : List ℕ)
    (a : Answer) (new : LaneValue) (first reports : ReportsValue)
    → IsLane n size start cpu v lane
    → KnowsRing first cpu lane.core
    → IsAsked asked lane.core (pushes moment (length payload))
    → IsPushed n size start cpu lane (pushes moment (length payload)) payload a new
    → IsReported line cpu asked a new.core first reports
    → Happens (λ n size before exchanges after. LineRun n size (begin_frame cpu moment payload) before exchanges after)
    line cpu n size start lane first new reports
begun n size start cpu line moment v lane asked payload a new first reports is knows asks p reported =
    let push : model.Event = pushes moment (length payload) in
    let x : Exchange = record { event = push; answer = p.reported } in
    record {
      exchanges = x ∷ [];
      after = lane_with lane payload p.reported p.core;
      happened = (x, refl, pushes_frame n size start cpu lane push payload a new p);
      is_lane = p.is_lane;
      reported = reported n size start lane.core p.core push p.reported knows
          (pushed_step n size start cpu v lane asked push payload a new is asks p);
    }

-- a push is reported
pub push_reported : (n size start cpu line : ℕ) (v : LaneValue) (lane : Lane) (asked : Asked) (push : model.Event)
    (payload : List ℕ) (a : Answer) (new : LaneValue) (first reports : ReportsValue)
    → IsLane n size start cpu v lane
    → KnowsRing first cpu lane.core
    → IsAsked asked lane.core push
    → (p : IsPushed n size start cpu lane push payload a new)
    → IsReported line cpu asked a new.core first reports
    → Reported n size line cpu lane.core (record { event = push; answer = p.reported } ∷ []) p.core first reports
push_reported n size start cpu line v lane asked push payload a new first reports is knows asks p reported =
    reported n size start lane.core p.core push p.reported knows
    (pushed_step n size start cpu v lane asked push payload a new is asks p)

-- pushed, and finished
pub written : (n size start cpu line : ℕ) (lane : Lane) (push : model.Event) (payload : List ℕ) (a : Answer)
    (between new : LaneValue) (first reports more : ReportsValue)
    → (p : IsPushed n size start cpu lane push payload a between)
    → a ≡ answer.Pushed
    → Reported n size line cpu lane.core (record { event = push; answer = p.reported } ∷ []) p.core first reports
    → Happens (λ n size before exchanges after. LineRun n size (finish_frame cpu) before exchanges after) line cpu n
    size start (lane_with lane payload p.reported p.core) reports new more
    → Happens (λ n size before exchanges after. WritesFrame n size push payload before exchanges after) line cpu n size
    start lane first new more
written n size start cpu line lane push payload a between new first reports more p is reported h =
    let x : Exchange = record { event = push; answer = p.reported } in
    let pushed_is : p.reported ≡ pushed = subst (λ (y : Answer). IsAnswerOf size y p.reported) is p.reports in
    record {
      exchanges = x ∷ h.exchanges;
      after = h.after;
      happened = record {
        push = x;
        rest = h.exchanges;
        exchanges_are = refl;
        between = lane_with lane payload p.reported p.core;
        pushes = pushes_frame n size start cpu lane push payload a between p;
        finishes = subst (λ (t : model.Answer).
            FinishesPushed n size t (lane_with lane payload p.reported p.core) h.exchanges h.after) (sym pushed_is)
            h.happened;
      };
      is_lane = h.is_lane;
      reported = reported_more n size line cpu lane.core p.core h.after.core (x ∷ []) h.exchanges first reports more
          reported h.reported;
    }

-- ---- a push that is refused

none_follows : (n size : ℕ) (payload : List ℕ) (c : Core) (reported : model.Answer) (after : Core) (lane : Lane)
    → (reported ≡ pushed → ⊥)
    → PushEnds payload c reported after
    → FinishesPushed n size reported lane [] lane
none_follows n size payload c reported after lane not (stands frame is frames fits) = absurd (not is)
none_follows n size payload c reported after lane not (fails why is frames) =
    subst (λ (t : model.Answer). FinishesPushed n size t lane [] lane) (sym is) (refl, refl)

pub not_written : (n size start cpu line : ℕ) (lane : Lane) (push : Event) (payload : List ℕ) (a : Answer)
    (new : LaneValue) (first reports : ReportsValue)
    → IsPushOf push payload
    → (p : IsPushed n size start cpu lane (push_event push) payload a new)
    → a ≢ answer.Pushed
    → Reported n size line cpu lane.core (record { event = push_event push; answer = p.reported } ∷ []) p.core first
    reports
    → Happens (λ n size before exchanges after. WritesFrame n size (push_event push) payload before exchanges after)
    line cpu n size start lane first new reports
not_written n size start cpu line lane push payload a new first reports of p not reported =
    let x : Exchange = record { event = push_event push; answer = p.reported } in
    let behind : Lane = lane_with lane payload p.reported p.core in
    record {
      exchanges = x ∷ [];
      after = behind;
      happened = record {
        push = x;
        rest = [];
        exchanges_are = refl;
        between = behind;
        pushes = pushes_frame n size start cpu lane (push_event push) payload a new p;
        finishes = none_follows n size payload lane.core p.reported p.core behind
            (λ is. reported_pushed size a p.reported p.reports is not)
            (push_ends n size payload lane.core p.reported p.core push of p.step);
      };
      is_lane = p.is_lane;
      reported = reported;
    }
