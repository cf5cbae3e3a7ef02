-- The ring of a CPU in a replay, beside that CPU in an account: when the one is as the other says; and what is to be
-- shown of the frame on top.
use Rattle.std.proofs.Common.{◌≡◌, ◌≢◌, ℕ, ◌<◌, ◌⊎◌, List, [], ◌∷◌, ◌++◌, length, Some, None, ap}
use Rattle.std.specs.Prelude.{⊤}
use Rattle.trace_model.proofs.collections.Elements.{some_is}
use Rattle.trace_model.specs.Window.{RingEvent}
use Rattle.trace_model.specs.Frames.{for_close, waiting, left, Phase, idle, looking, claiming, looking_next, marking}
use Rattle.trace_model.specs.Frames.{clearing, opening, releasing, wishing, noted_fill, owned_update, owner, helper}
use Rattle.trace_model.specs.Frames.{Frame}
use Rattle.trace_model.specs.Ring.{ReaderPhase, loading_head, loading_done, storing_spare_link, swapping, Core}
use Rattle.trace_model.specs.Steps.{Exchange}
use Rattle.text_model.specs.Script.{Script}
use Rattle.ring_model.specs.RunsAsEvents.{AreEventsOfRun}
use Rattle.ring_model.specs.Reached.{IsReached}
use Rattle.world_model.specs.Lanes.{Lane, HasPayloads, FrameRun}
use Rattle.line_model.specs.Due.{situation_after, window_at, IsDue}
use Rattle.line_model.specs.Accounts.{to_look, to_lose, to_begin, Stage, resting, searching, moving, closing_fills}
use Rattle.line_model.specs.Accounts.{asking, off, LineFrame, Take, to_find, to_see, to_prepare, to_take, CpuState}
use Rattle.line_model.specs.Accounts.{IsThere, IsOwn, Does, HasGone, with_own, MayDo, MayPass, stepped, Steps}
use Rattle.line_model.specs.CallEvents.{IsRecordOnTop}

-- the stage of a frame in this phase
abbrev pub stage_of : Phase → Stage
stage_of idle = resting
stage_of (looking o) = searching o to_look
stage_of (claiming o page) = searching o to_lose
stage_of (looking_next owner o page) = moving o 2
stage_of (looking_next helper o page) = searching o (to_begin 2)
stage_of (marking owner o page next) = moving o 1
stage_of (marking helper o page next) = searching o (to_begin 1)
stage_of (clearing o page) = moving o 0
stage_of (opening o page) = searching o (to_begin 0)
stage_of releasing = closing_fills
stage_of wishing = asking

-- the frame that owns an UPDATE is moving the head, for the fill whose position that is, and no other frame is
pub owner_is_moving : (phase : Phase) (o : ℕ)
    → owned_update phase ≡ Some o
    → (more : ℕ) × (stage_of phase ≡ moving o more)
owner_is_moving idle o e = absurd (cc)
owner_is_moving (looking x) o e = absurd (cc)
owner_is_moving (claiming x page) o e = absurd (cc)
owner_is_moving (looking_next owner x page) o e = (2, ap (λ (k : ℕ). moving k 2) (some_is x o e))
owner_is_moving (looking_next helper x page) o e = absurd (cc)
owner_is_moving (marking owner x page next) o e = (1, ap (λ (k : ℕ). moving k 1) (some_is x o e))
owner_is_moving (marking helper x page next) o e = absurd (cc)
owner_is_moving (clearing x page) o e = (0, ap (λ (k : ℕ). moving k 0) (some_is x o e))
owner_is_moving (opening x page) o e = absurd (cc)
owner_is_moving releasing o e = absurd (cc)
owner_is_moving wishing o e = absurd (cc)

moved_fill : (x y more other : ℕ) → moving x more ≡ moving y other → Some x ≡ Some y
moved_fill x y more other e = cc

pub moving_is_owner : (phase : Phase) (o more : ℕ) → stage_of phase ≡ moving o more → owned_update phase ≡ Some o
moving_is_owner idle o more e = absurd (cc)
moving_is_owner (looking x) o more e = absurd (cc)
moving_is_owner (claiming x page) o more e = absurd (cc)
moving_is_owner (looking_next owner x page) o more e = moved_fill x o 2 more e
moving_is_owner (looking_next helper x page) o more e = absurd (cc)
moving_is_owner (marking owner x page next) o more e = moved_fill x o 1 more e
moving_is_owner (marking helper x page next) o more e = absurd (cc)
moving_is_owner (clearing x page) o more e = moved_fill x o 0 more e
moving_is_owner (opening x page) o more e = absurd (cc)
moving_is_owner releasing o more e = absurd (cc)
moving_is_owner wishing o more e = absurd (cc)

-- A frame of the ring, with its payload, beside that of an account, with these below it.
pub record FrameStands (frame : Frame) (payload : List ℕ) (below : List LineFrame) (line : LineFrame) : Type 0 where
  pub unwritten : frame.state ≢ left → line.payload ≡ Some payload
  pub has_left : frame.state ≡ left → (line.payload ≡ None) × (below ≡ [])
  pub stage : line.stage ≡ stage_of frame.phase

-- the stacks, frame by frame
abbrev pub FramesStand : List Frame → List (List ℕ) → List LineFrame → Type 0
FramesStand [] [] [] = ⊤
FramesStand [] [] (line ∷ lines) = ⊥
FramesStand [] (payload ∷ payloads) lines = ⊥
FramesStand (frame ∷ below) [] lines = ⊥
FramesStand (frame ∷ below) (payload ∷ payloads) [] = ⊥
FramesStand (frame ∷ below) (payload ∷ payloads) (line ∷ lines) =
    FrameStands frame payload lines line × FramesStand below payloads lines

-- the next step of a take in this phase
abbrev pub take_of : ReaderPhase → Take
take_of loading_head = to_find
take_of (loading_done page fill) = to_see
take_of (storing_spare_link page fill) = to_prepare
take_of (swapping page fill) = to_take

-- the ring, its payloads and what its reader knows, beside the state
pub record Stands (script : Script) (lane : Lane) (state : CpuState) : Type 0 where
  pub reached : IsReached script.pages script.size script.start lane.core
  pub payloads : HasPayloads lane
  pub run : AreEventsOfRun script.pages script.start lane.core state.events
  pub frames : FramesStand lane.core.frames lane.payloads state.frames
  pub seen : state.seen ≡ lane.core.reader.seen
  pub hint : state.hint ≡ lane.core.reader.hint
  pub take : state.take ≡ take_of lane.core.reader.phase
  pub wish : state.wish ≡ lane.core.wish

-- The frame on top, if it is a close frame that waits and has noted a fill to begin: it is the next one. No other frame
-- has begun a fill meanwhile, since a close frame is pushed and goes in one line.
abbrev pub IsFresh : Core → Type 0
IsFresh c = (frame : Frame) (below : List Frame) (o : ℕ)
    → c.frames ≡ frame ∷ below
    → frame.kind ≡ for_close
    → frame.state ≡ waiting
    → noted_fill frame.phase ≡ Some o
    → o ≡ c.opened

-- each event is due after those before it
abbrev pub AreDue : Script → (asked : ℕ) → (before own : List RingEvent) → Type 0
AreDue script asked before own = (front rest : List RingEvent) (event : RingEvent)
    → own ≡ front ++ event ∷ rest
    → IsDue (situation_after script asked (before ++ front)) event

-- What a frame does in one step beside an account, after these events: nothing, or one event.
abbrev pub OneStep : Script → (asked : ℕ) → (below : List LineFrame) → (before : List RingEvent) → LineFrame
    → (own : List RingEvent) → LineFrame → Type 0
OneStep script asked below before frame own next =
    ((own ≡ [])
    × (stage : Stage)
    × MayPass (situation_after script asked before) below frame.payload frame.stage stage
    × (record frame { stage = stage } ≡ next))
    ⊎ ((event : RingEvent)
    × (own ≡ event ∷ [])
    × IsOwn below frame event
    × MayDo (situation_after script asked before) frame.stage event
    × (stepped (window_at script.start (before ++ event ∷ [])) below frame event ≡ next))

-- The frame on top is still there, or has gone.
abbrev pub StaysOrGoes : Script → (before : Lane) → CpuState → (own : List RingEvent) → LineFrame → List LineFrame
    → (after : Lane) → Type 0
StaysOrGoes script before state own next below after =
    (IsThere below next
    × (next.stage ≢ off)
    × (length after.core.frames ≡ length before.core.frames)
    × Stands script after (with_own state own (next ∷ below)))
    ⊎ (HasGone (situation_after script state.wish (state.events ++ own)) below next
    × (next.stage ≡ off)
    × (length after.core.frames < length before.core.frames)
    × Stands script after (with_own state own below))

-- What the frame on top does in these exchanges.
pub record TopDoes (script : Script) (before : Lane) (state : CpuState) (top : LineFrame) (below : List LineFrame)
    (exchanges : List Exchange) (after : Lane)
    : Type 0 where
  pub own : List RingEvent
  pub next : LineFrame
  pub does : Does below top own (record next { stage = top.stage })
  pub due : AreDue script state.wish state.events own
  pub steps : IsRecordOnTop before.core.frames
      → Steps script state.wish below (length exchanges) state.events top own next
  pub ends : StaysOrGoes script before state own next below after

-- to be shown: it does this, in every run of the frame on top
abbrev pub TopsDo : Type 0
TopsDo = (script : Script) (before : Lane) (state : CpuState) (top : LineFrame) (below : List LineFrame)
    (exchanges : List Exchange) (after : Lane)
    → Stands script before state
    → state.frames ≡ top ∷ below
    → IsFresh before.core
    → FrameRun script.pages script.size (length before.core.frames) before exchanges after
    → TopDoes script before state top below exchanges after
