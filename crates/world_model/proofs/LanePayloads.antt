-- There is a payload for each frame on the stack, as long as it was pushed for.
use Rattle.std.proofs.Common.{◌≡◌, ℕ, zero, suc, ◌-◌, List, [], ◌∷◌, length, drop, refl, sym, ap, ◌∙◌, subst, arith}
use Rattle.trace_model.specs.Words.{slot_len, padded}
use Rattle.trace_model.specs.Frames.{Purpose, for_record, Progress, waiting, reserved, left, Frame}
use Rattle.trace_model.specs.Ring.{Core}
use Rattle.trace_model.specs.Steps.{Event, pushes, pushes_close, steps, ends, reads, wishes, Answer, pushed, going}
use Rattle.trace_model.specs.Steps.{reserved_as, pending, full, gone, refused, reading, empty, moving, page_taken}
use Rattle.trace_model.specs.Steps.{wished_for, Step, Exchange}
use Rattle.trace_model.proofs.steps.StepCases.{StepCases, push_step, push_refused, close_step, close_refused}
use Rattle.trace_model.proofs.steps.StepCases.{frame_step, frame_lacks, end_step, end_lacks, end_early, read_step}
use Rattle.trace_model.proofs.steps.StepCases.{store_wish_step}
use Rattle.text_model.specs.Script.{Command, begin_frame, step_frame, finish_frame, write, close, step_reader}
use Rattle.text_model.specs.Script.{take_page, wish, deliver}
use Rattle.trace_model.proofs.words.Lengths.{slot_len-slot_len, length-padded}
use Rattle.trace_model.proofs.steps.StepSound.{cases_of}
use Rattle.ring_model.specs.RingLaws.{MayAsk}
use Rattle.world_model.specs.Lanes.{Lane, IsNewLane, lane_behind, payloads_left, payloads_with, FitsKind, FitFrames}
use Rattle.world_model.specs.Lanes.{HasPayloads, event_in, event_on_top, FrameRun, StepsFrame, lacks_to_step, steps_on}
use Rattle.world_model.specs.Lanes.{FinishesFrame, lacks_to_finish, finishes, PushesFrame, FinishesPushed, WritesFrame}
use Rattle.world_model.specs.Lanes.{ReaderRun, LineRun}
use Rattle.world_model.proofs.FramesMove.{Moves, stays, changes, pops, PushesNone, step_moves}

pub as_many : (frames : List Frame) (payloads : List (List ℕ)) → FitFrames frames payloads
    → length payloads ≡ length frames
as_many [] [] fit = refl
as_many [] (payload ∷ payloads) fit = absurd fit
as_many (frame ∷ below) [] fit = absurd fit
as_many (frame ∷ below) (payload ∷ payloads) fit = ap suc (as_many below payloads fit.1)

-- ---- a step that pushes none

-- if there are as many frames, all payloads are left
all_left : (frames : List Frame) (payloads : List (List ℕ)) → length payloads ≡ length frames
    → payloads_left frames payloads ≡ payloads
all_left frames payloads same =
    ap (λ (k : ℕ). drop k payloads) (let e : length payloads - length frames ≡ zero = omega arith in e)

changed : (frame next : Frame) (below : List Frame) (payloads : List (List ℕ)) → next.kind ≡ frame.kind
    → FitFrames (frame ∷ below) payloads → FitFrames (next ∷ below) payloads
changed frame next below [] kind fit = absurd fit
changed frame next below (payload ∷ payloads) kind fit =
    (subst (λ (k : Purpose). FitsKind k payload) (sym kind) fit.0, fit.1)

popped : (frame : Frame) (below : List Frame) (payloads : List (List ℕ)) → FitFrames (frame ∷ below) payloads
    → FitFrames below (payloads_left below payloads)
popped frame below [] fit = absurd fit
popped frame below (payload ∷ payloads) fit = let count = as_many below payloads fit.1 in
    subst (FitFrames below)
    (sym (ap (λ (k : ℕ). drop k (payload ∷ payloads))
    (let e : length (payload ∷ payloads) - length below ≡ suc zero = omega arith in e))) fit.1

fit_left : (frames : List Frame) (payloads : List (List ℕ)) → FitFrames frames payloads
    → FitFrames frames (payloads_left frames payloads)
fit_left frames payloads fit =
    subst (FitFrames frames) (sym (all_left frames payloads (as_many frames payloads fit))) fit

pub fit_moved : (before after : List Frame) (payloads : List (List ℕ)) → FitFrames before payloads → Moves before after
    → FitFrames after (payloads_left after payloads)
fit_moved before after payloads fit (stays is) =
    fit_left after payloads (subst (λ (l : List Frame). FitFrames l payloads) (sym is) fit)
fit_moved before after payloads fit (changes frame next below top kind is) = fit_left after payloads
    (subst (λ (l : List Frame). FitFrames l payloads) (sym is)
    (changed frame next below payloads kind (subst (λ (l : List Frame). FitFrames l payloads) top fit)))
fit_moved before after payloads fit (pops frame below top is) =
    subst (λ (l : List Frame). FitFrames l (payloads_left l payloads)) (sym is)
    (popped frame below payloads (subst (λ (l : List Frame). FitFrames l payloads) top fit))

-- ---- the frame on top may be asked

pushes_none_in : (state : Progress) (payloads : List (List ℕ)) → PushesNone (event_in state payloads)
pushes_none_in waiting payloads = tt
pushes_none_in (reserved number) [] = tt
pushes_none_in (reserved number) (payload ∷ payloads) = tt
pushes_none_in left payloads = tt

pub pushes_none : (frames : List Frame) (payloads : List (List ℕ)) → PushesNone (event_on_top frames payloads)
pushes_none [] payloads = tt
pushes_none (frame ∷ below) payloads = pushes_none_in frame.state payloads

first_or : Frame → List Frame → Frame
first_or other [] = other
first_or other (frame ∷ below) = frame

first_same : (a b : Frame) (xs ys : List Frame) → ◌≡◌ {A = List Frame} (a ∷ xs) (b ∷ ys) → a ≡ b
unfolding first_or
first_same a b xs ys e = ap (first_or a) e

takes_slot : (kind : Purpose) (payload : List ℕ) (moment len : ℕ) → kind ≡ for_record moment len → FitsKind kind payload
    → slot_len (length (padded payload)) ≡ slot_len len
takes_slot kind payload moment len is fits =
    ap slot_len (length-padded payload) ∙ slot_len-slot_len (length payload)
    ∙ ap slot_len (subst (λ (k : Purpose). FitsKind k payload) is fits)

may_ask_in : (c : Core) (frame : Frame) (below : List Frame) (payload : List ℕ) (payloads : List (List ℕ))
    (state : Progress) → c.frames ≡ frame ∷ below → FitsKind frame.kind payload
    → MayAsk c (event_in state (payload ∷ payloads))
may_ask_in c frame below payload payloads waiting top fits = tt
may_ask_in c frame below payload payloads (reserved number) top fits = λ other under number' moment len top' state kind.
    takes_slot frame.kind payload moment len
    (ap (λ (f : Frame). f.kind) (first_same frame other below under (sym top ∙ top')) ∙ kind) fits
may_ask_in c frame below payload payloads left top fits = tt

may_ask_of : (c : Core) (frames : List Frame) (payloads : List (List ℕ)) → c.frames ≡ frames → FitFrames frames payloads
    → MayAsk c (event_on_top frames payloads)
may_ask_of c [] payloads top fit = tt
may_ask_of c (frame ∷ below) [] top fit = absurd fit
may_ask_of c (frame ∷ below) (payload ∷ payloads) top fit =
    may_ask_in c frame below payload payloads frame.state top fit.0

pub may_ask : (lane : Lane) → HasPayloads lane → MayAsk lane.core (event_on_top lane.core.frames lane.payloads)
may_ask lane fit = may_ask_of lane.core lane.core.frames lane.payloads refl fit

-- ---- lines

module _ (n size : ℕ) where
  behind_fits : (before : Lane) (event : Event) (answer : Answer) (core : Core) → PushesNone event → HasPayloads before
      → Step n size before.core event answer core → HasPayloads (lane_behind before core)
  behind_fits before event answer core none fit step =
      fit_moved before.core.frames core.frames before.payloads fit
      (step_moves n size before.core event answer core none (cases_of step))

  frames_fit : (depth : ℕ) (before after : Lane) (xs : List Exchange) → HasPayloads before
      → FrameRun n size depth before xs after → HasPayloads after
  frames_fit depth before after [] fit run = subst HasPayloads run fit
  frames_fit depth before after (x ∷ xs) fit (stands, event, core, step, run) =
      frames_fit depth (lane_behind before core) after xs
      (behind_fits before x.event x.answer core
      (subst PushesNone (sym event) (pushes_none before.core.frames before.payloads)) fit step) run

  steps_fit : (count : ℕ) (before after : Lane) (xs : List Exchange) → HasPayloads before
      → StepsFrame n size count before xs after → HasPayloads after
  steps_fit count before after xs fit (lacks_to_step h) = subst HasPayloads (sym h.stays) fit
  steps_fit count before after xs fit (steps_on some run stop) = frames_fit _ before after xs fit run

  finishes_fit : (before after : Lane) (xs : List Exchange) → HasPayloads before → FinishesFrame n size before xs after
      → HasPayloads after
  finishes_fit before after xs fit (lacks_to_finish h) = subst HasPayloads (sym h.stays) fit
  finishes_fit before after xs fit (finishes some run ended) = frames_fit _ before after xs fit run

  -- what a push leaves, by its answer
  abbrev FitsPushed : List ℕ → Lane → Answer → Core → Type 0
  FitsPushed payload before answer core = FitFrames core.frames (payloads_with payload answer before.payloads)

  answered : (payload : List ℕ) (before : Lane) (answer given : Answer) (core : Core) → answer ≡ given
      → FitsPushed payload before given core → FitsPushed payload before answer core
  answered payload before answer given core a fit = subst (λ (x : Answer). FitsPushed payload before x core) (sym a) fit

  -- a push of this event is for a frame of this payload
  abbrev pub IsPushOf : Event → List ℕ → Type 0
  IsPushOf (pushes moment len) payload = length payload ≡ len
  IsPushOf pushes_close payload = payload ≡ []
  IsPushOf steps payload = ⊥
  IsPushOf (ends bytes) payload = ⊥
  IsPushOf reads payload = ⊥
  IsPushOf wishes payload = ⊥

  push_fits : (event : Event) (payload : List ℕ) (before : Lane) (answer : Answer) (core : Core)
      → IsPushOf event payload → HasPayloads before → StepCases n size before.core event answer core
      → FitsPushed payload before answer core
  push_fits event payload before answer core is_push fit (push_step moment len e few short early a is) =
      answered payload before answer pushed core a
      (subst (λ (d : Core). FitFrames d.frames (payload ∷ before.payloads)) (sym is)
      (subst (λ (ev : Event). IsPushOf ev payload) e is_push, fit))
  push_fits event payload before answer core is_push fit (push_refused moment len why e refusal a is) =
      answered payload before answer (refused why) core a
      (subst (λ (d : Core). FitFrames d.frames before.payloads) (sym is) fit)
  push_fits event payload before answer core is_push fit (close_step e few a is) =
      answered payload before answer pushed core a
      (subst (λ (d : Core). FitFrames d.frames (payload ∷ before.payloads)) (sym is)
      (subst (λ (ev : Event). IsPushOf ev payload) e is_push, fit))
  push_fits event payload before answer core is_push fit (close_refused e many a is) =
      answered payload before answer (refused _) core a
      (subst (λ (d : Core). FitFrames d.frames before.payloads) (sym is) fit)
  push_fits event payload before answer core is_push fit (frame_step frame below e top step) =
      absurd (subst (λ (ev : Event). IsPushOf ev payload) e is_push)
  push_fits event payload before answer core is_push fit (frame_lacks e stand a is) =
      absurd (subst (λ (ev : Event). IsPushOf ev payload) e is_push)
  push_fits event payload before answer core is_push fit
      (end_step bytes frame below number moment len e top at kind size_is a is) =
      absurd (subst (λ (ev : Event). IsPushOf ev payload) e is_push)
  push_fits event payload before answer core is_push fit (end_lacks bytes e stand a is) =
      absurd (subst (λ (ev : Event). IsPushOf ev payload) e is_push)
  push_fits event payload before answer core is_push fit (end_early bytes frame below e top waits a is) =
      absurd (subst (λ (ev : Event). IsPushOf ev payload) e is_push)
  push_fits event payload before answer core is_push fit (read_step e step) =
      absurd (subst (λ (ev : Event). IsPushOf ev payload) e is_push)
  push_fits event payload before answer core is_push fit (store_wish_step e a is) =
      absurd (subst (λ (ev : Event). IsPushOf ev payload) e is_push)

  pushes_fit : (event : Event) (payload : List ℕ) (before after : Lane) (x : Exchange) → IsPushOf event payload
      → HasPayloads before → PushesFrame n size event payload before x after → HasPayloads after
  pushes_fit event payload before after x is_push fit p =
      subst HasPayloads (sym p.after_is) (push_fits event payload before x.answer p.core is_push fit (cases_of p.step))

  pushed_fit : (answer : Answer) (before after : Lane) (xs : List Exchange) → HasPayloads before
      → FinishesPushed n size answer before xs after → HasPayloads after
  pushed_fit pushed before after xs fit f = finishes_fit before after xs fit f
  pushed_fit going before after xs fit f = absurd f
  pushed_fit (reserved_as number) before after xs fit f = absurd f
  pushed_fit pending before after xs fit f = absurd f
  pushed_fit full before after xs fit f = absurd f
  pushed_fit gone before after xs fit f = absurd f
  pushed_fit (refused why) before after xs fit f = subst HasPayloads (sym f.1) fit
  pushed_fit reading before after xs fit f = absurd f
  pushed_fit (empty done) before after xs fit f = absurd f
  pushed_fit (moving fill) before after xs fit f = absurd f
  pushed_fit (page_taken t) before after xs fit f = absurd f
  pushed_fit (wished_for fill) before after xs fit f = absurd f

  writes_fit : (event : Event) (payload : List ℕ) (before after : Lane) (xs : List Exchange) → IsPushOf event payload
      → HasPayloads before → WritesFrame n size event payload before xs after → HasPayloads after
  writes_fit event payload before after xs is_push fit w =
      pushed_fit w.push.answer w.between after w.rest
      (pushes_fit event payload before w.between w.push is_push fit w.pushes) w.finishes

  reader_fit : (before after : Lane) (xs : List Exchange) → HasPayloads before → ReaderRun n size before xs after
      → HasPayloads after
  reader_fit before after [] fit run = subst HasPayloads run fit
  reader_fit before after (x ∷ xs) fit (event, more, core, step, run) =
      reader_fit (lane_behind before core) after xs (behind_fits before reads x.answer core tt fit step) run

  pub line_fits : (command : Command) (before after : Lane) (xs : List Exchange) → HasPayloads before
      → LineRun n size command before xs after → HasPayloads after
  line_fits (begin_frame cpu moment payload) before after xs fit (x, is, p) =
      pushes_fit (pushes moment (length payload)) payload before after x refl fit p
  line_fits (step_frame cpu count) before after xs fit run = steps_fit count before after xs fit run
  line_fits (finish_frame cpu) before after xs fit run = finishes_fit before after xs fit run
  line_fits (write cpu moment payload) before after xs fit run =
      writes_fit (pushes moment (length payload)) payload before after xs refl fit run
  line_fits (close cpu) before after xs fit run = writes_fit pushes_close [] before after xs refl fit run
  line_fits (step_reader cpu count) before after xs fit run = reader_fit before after xs fit run.0
  line_fits (take_page cpu) before after xs fit run = reader_fit before after xs fit run.0
  line_fits (wish cpu) before after xs fit w =
      subst HasPayloads (sym w.after_is) (behind_fits before wishes w.answer w.core tt fit w.step)
  line_fits (deliver collector cpu fill) before after xs fit run = subst HasPayloads (sym run.1) fit

pub new_fits : (n start : ℕ) (lane : Lane) → IsNewLane n start lane → HasPayloads lane
new_fits n start lane (s, none) =
    subst (FitFrames lane.core.frames) (sym none) (subst (λ (l : List Frame). FitFrames l []) (sym s.frames) tt)
