-- What the frame on top does in one step, beside an account: what is to be shown, and of which steps.
use Rattle.std.proofs.Common.{◌≡◌, ◌≢◌, ℕ, suc, ◌+◌, ◌-◌, Bool, true, false, List, [], ◌∷◌, length, drop, sym, ◌∙◌}
use Rattle.std.proofs.Common.{subst, Option, Some, None, refl, ap, ⊎_elim, arith}
use Rattle.std.specs.Prelude.{if◌then◌else◌, ◌==◌}
use Rattle.trace_model.specs.History.{push, push_close, open_fill, reserve, leave, wished}
use Rattle.trace_model.specs.Window.{Window, RingEvent, acts, closes, takes, loses}
use Rattle.trace_model.specs.Frames.{Phase, idle, looking, claiming, looking_next, marking, clearing, opening, owner}
use Rattle.trace_model.specs.Frames.{helper, releasing, wishing, noted_fill, Frame}
use Rattle.trace_model.specs.Ring.{Core, window_of}
use Rattle.trace_model.specs.Steps.{Event, Answer, Step, closing_phase}
use Rattle.text_model.specs.Script.{Script}
use Rattle.ring_model.specs.Seats.{IsOfReader}
use Rattle.world_model.specs.Lanes.{Lane, lane_behind, payloads_left}
use Rattle.world_model.proofs.FramesMove.{PushesNone}
use Rattle.line_model.specs.CallEvents.{IsRecordOnTop}
use Rattle.line_model.specs.Due.{Situation}
use Rattle.line_model.specs.Accounts.{Stage, resting, closing_fills, asking, off, at_rest, LineFrame, CpuState, IsOwn}
use Rattle.line_model.specs.Accounts.{frame_after, Does, HasGone}
use Rattle.line_model.proofs.Standing.{FrameStands, FramesStand, stage_of, Stands, IsFresh, OneStep, StaysOrGoes}
use Rattle.line_model.proofs.DueRuns.{DueFrom}

-- a frame of an account
abbrev pub line : Option (List ℕ) → Stage → LineFrame
line payload stage = record { payload = payload; stage = stage }

-- ---- what a frame does, in whatever stage

module _ (below : List LineFrame) where
  abbrev with_stage : Stage → LineFrame → LineFrame
  with_stage made frame = record frame { stage = made }

  own_with : (made other : Stage) (frame : LineFrame) (event : RingEvent)
      → IsOwn below (with_stage made frame) event
      → IsOwn below (with_stage other frame) event
  own_with made other frame (acts (push moment len)) own = own
  own_with made other frame (acts push_close) own = own
  own_with made other frame (acts open_fill) own = own
  own_with made other frame (acts reserve) own = own
  own_with made other frame (acts (leave None)) own = own
  own_with made other frame (acts (leave (Some bytes))) own = own
  own_with made other frame (acts wished) own = own
  own_with made other frame closes own = own
  own_with made other frame takes own = own
  own_with made other frame loses own = own

  after_with : (made : Stage) (frame : LineFrame) (event : RingEvent)
      → frame_after (with_stage made frame) event ≡ with_stage made (frame_after frame event)
  after_with made frame (acts (push moment len)) = refl
  after_with made frame (acts push_close) = refl
  after_with made frame (acts open_fill) = refl
  after_with made frame (acts reserve) = refl
  after_with made frame (acts (leave payload)) = refl
  after_with made frame (acts wished) = refl
  after_with made frame closes = refl
  after_with made frame takes = refl
  after_with made frame loses = refl

  pub does_with : (made other : Stage) (own : List RingEvent) (frame next : LineFrame)
      → Does below (with_stage made frame) own next
      → Does below (with_stage other frame) own (with_stage other next)
  does_with made other [] frame next same = ap (with_stage other) same
  does_with made other (event ∷ own) frame next does = (
    own_with made other frame event does.0,
    subst (λ (f : LineFrame). Does below f own (with_stage other next)) (sym (after_with other frame event))
        (does_with made other own (frame_after frame event) next
        (subst (λ (f : LineFrame). Does below f own next) (after_with made frame event) does.1)),
  )

  pub gone_with : (other : Stage) (s : Situation) (frame : LineFrame)
      → HasGone s below frame
      → HasGone s below (with_stage other frame)
  gone_with other s frame gone =
      (gone.0, λ event own due. gone.1 event (own_with other frame.stage frame event own) due)

-- ---- one step

-- What the frame on top does in one step.
pub record StepDoes (script : Script) (before : Lane) (state : CpuState) (payload : Option (List ℕ))
    (stage : Stage) (below : List LineFrame) (after : Lane)
    : Type 0 where
  pub own : List RingEvent
  pub payload_after : Option (List ℕ)
  pub stage_after : Stage
  pub does : Does below (line payload stage) own (line payload_after stage)
  pub due : DueFrom script state.wish state.events own
  pub step : IsRecordOnTop before.core.frames
      → OneStep script state.wish below state.events (line payload stage) own
      (line payload_after stage_after)
  pub fresh : length after.core.frames ≡ length before.core.frames → IsFresh after.core
  pub record_kept : length after.core.frames ≡ length before.core.frames
      → IsRecordOnTop before.core.frames
      → IsRecordOnTop after.core.frames
  pub ends : StaysOrGoes script before state own (line payload_after stage_after) below after

-- One step of the frame on top: the ring before it and after it, beside the account before it.
pub record TopStep : Type 0 where
  pub script : Script
  pub before : Lane
  pub state : CpuState
  -- what the account has of the frame and of those below it
  pub told : Option (List ℕ)
  pub stage : Stage
  pub below : List LineFrame
  -- what the ring has of them
  pub frame : Frame
  pub under : List Frame
  pub payload : List ℕ
  pub payloads : List (List ℕ)
  pub event : Event
  pub answer : Answer
  pub after : Core
  pub stands : Stands script before (record state { frames = line told stage ∷ below })
  pub top : before.core.frames ≡ frame ∷ under
  pub paid : before.payloads ≡ payload ∷ payloads
  pub one : FrameStands frame payload below (line told stage)
  pub others : FramesStand under payloads below
  pub fresh : IsFresh before.core
  pub none : PushesNone event
  pub writes : IsOfReader event → ⊥
  pub step : Step script.pages script.size before.core event answer after

-- what it does
abbrev pub Made : TopStep → Type 0
Made t = StepDoes t.script t.before t.state t.told t.stage t.below (lane_behind t.before t.after)

-- ---- the stacks

-- there are as many payloads as frames
pub stand_counted : (frames : List Frame) (payloads : List (List ℕ)) (lines : List LineFrame)
    → FramesStand frames payloads lines
    → length payloads ≡ length frames
stand_counted [] [] [] stand = refl
stand_counted [] [] (x ∷ lines) stand = absurd stand
stand_counted [] (payload ∷ payloads) lines stand = absurd stand
stand_counted (frame ∷ below) [] lines stand = absurd stand
stand_counted (frame ∷ below) (payload ∷ payloads) [] stand = absurd stand
stand_counted (frame ∷ below) (payload ∷ payloads) (x ∷ lines) stand =
    ap suc (stand_counted below payloads lines stand.1)

pub none_below : (payloads : List (List ℕ)) (lines : List LineFrame) → FramesStand [] payloads lines → lines ≡ []
none_below [] [] stand = refl
none_below [] (x ∷ lines) stand = absurd stand
none_below (payload ∷ payloads) lines stand = absurd stand

pub some_below : (frame : Frame) (below : List Frame) (payloads : List (List ℕ)) (lines : List LineFrame)
    → FramesStand (frame ∷ below) payloads lines
    → lines ≢ []
some_below frame below [] lines stand none = stand
some_below frame below (payload ∷ payloads) [] stand none = stand
some_below frame below (payload ∷ payloads) (x ∷ lines) stand none = cc

pub kept_payloads : (frames : List Frame) (payloads : List (List ℕ))
    → length payloads ≡ length frames
    → payloads_left frames payloads ≡ payloads
kept_payloads frames payloads e =
    ap (λ (k : ℕ). drop k payloads) (let it : length payloads - length frames ≡ 0 = omega arith in it)

pub popped_payloads : (frames : List Frame) (payload : List ℕ) (others : List (List ℕ))
    → length others ≡ length frames
    → payloads_left frames (payload ∷ others) ≡ others
popped_payloads frames payload others e =
    ap (λ (k : ℕ). drop k (payload ∷ others)) (let it : suc (length others) - length frames ≡ 1 = omega arith in it)

abbrev pub first_frame : Frame → List Frame → Frame
first_frame other [] = other
first_frame other (frame ∷ frames) = frame

-- a nested frame that has left does nothing more
pub none_own : (below : List LineFrame) (stage : Stage) (event : RingEvent)
    → below ≢ []
    → IsOwn below (line None stage) event
    → ⊥
none_own below stage (acts (push moment len)) some own = own
none_own below stage (acts push_close) some own = own
none_own below stage (acts open_fill) some own = ⊎_elim (λ not. not refl) some own
none_own below stage (acts reserve) some own = own refl
none_own below stage (acts (leave None)) some own = own refl
none_own below stage (acts (leave (Some bytes))) some (other, is, more) = let both : None ≡ Some other = is in cc
none_own below stage (acts wished) some own = some own.1
none_own below stage closes some own = some own.1
none_own below stage takes some own = own
none_own below stage loses some own = ⊎_elim (λ not. not refl) some own

-- a closing frame has noted no fill
pub closing_notes : (c : Core) (o : ℕ) → noted_fill (closing_phase c) ≡ Some o → ⊥
closing_notes c o = by_test ((c.done + 1) == c.opened)
  where
    by_test : (b : Bool) → noted_fill (if b then wishing else releasing) ≡ Some o → ⊥
    by_test true e = cc
    by_test false e = cc

-- a closing frame is at rest
pub closing_is : (c : Core) (w : Window) → w ≡ window_of c → stage_of (closing_phase c) ≡ at_rest w [] None
closing_is c w same = by_test ((c.done + 1) == c.opened)
    ∙ sym (ap (λ (v : Window). at_rest v [] None) same)
  where
    by_test : (b : Bool) → stage_of (if b then wishing else releasing) ≡ (if b then asking else closing_fills)
    by_test true = refl
    by_test false = refl

-- and a nested frame that has left is off
pub off_nested : (w : Window) (below : List LineFrame) → below ≢ [] → off ≡ at_rest w below None
off_nested w [] some = absurd (some refl)
off_nested w (frame ∷ below) some = refl

-- a frame of a ring is on the stack
pub never_off : (phase : Phase) → stage_of phase ≢ off
never_off idle e = cc
never_off (looking o) e = cc
never_off (claiming o page) e = cc
never_off (looking_next owner o page) e = cc
never_off (looking_next helper o page) e = cc
never_off (marking owner o page next) e = cc
never_off (marking helper o page next) e = cc
never_off (clearing o page) e = cc
never_off (opening o page) e = cc
never_off releasing e = cc
never_off wishing e = cc

-- and if it rests, it is idle
pub idle_of : (phase : Phase) → stage_of phase ≡ resting → phase ≡ idle
idle_of idle e = refl
idle_of (looking o) e = absurd (cc)
idle_of (claiming o page) e = absurd (cc)
idle_of (looking_next owner o page) e = absurd (cc)
idle_of (looking_next helper o page) e = absurd (cc)
idle_of (marking owner o page next) e = absurd (cc)
idle_of (marking helper o page next) e = absurd (cc)
idle_of (clearing o page) e = absurd (cc)
idle_of (opening o page) e = absurd (cc)
idle_of releasing e = absurd (cc)
idle_of wishing e = absurd (cc)
