-- What one step of the top frame makes of the writer's part of a ring, whatever frames are below it; and the events
-- of the window that this is.
use Rattle.std.specs.Prelude.{◌≡◌, ◌≢◌, ℕ, ◌+◌, ◌-◌, ◌<◌, ◌≤◌, ◌⊎◌, Bool, true, false, List, [], ◌∷◌, ◌++◌, length}
use Rattle.std.specs.Prelude.{Some, None}
use Rattle.trace_model.specs.History.{open_fill, reserve, leave, wished, Reservation}
use Rattle.trace_model.specs.Packing.{tail_of, FitsBehind, next_reservation}
use Rattle.trace_model.specs.declared.limits.TheConstants.{LINK_FILLS}
use Rattle.trace_model.specs.Frames.{for_close, waiting, reserved, left, Phase, idle, Frame}
use Rattle.trace_model.specs.Ring.{Core}
use Rattle.trace_model.specs.Steps.{frames_after_leave, with_new_tail, Exchange}
use Rattle.trace_model.specs.Window.{RingEvent, IsWindow, history_events_of}
use Rattle.world_model.specs.Lanes.{event_on_top, payloads_left}
use Rattle.line_model.specs.Lines.{LineState, OpenFrame, with_top_stepped, TopRun, MayGo, ReservesFirst}
use Rattle.line_model.specs.WriterCalls.{LineWriting, writer_of, IsWriterCall}

-- A frame may leave without a record: it wants none; or the record doesn't fit, and all pages have fills that aren't
-- closed, or no number is left.
abbrev pub LeavesNone : ℕ → ℕ → Core → Type 0
LeavesNone n size c = (r : Reservation)
    → next_reservation c.history ≡ Some r
    → (FitsBehind size (tail_of c.history) r → ⊥)
    × ((c.opened ≡ c.done + n) ⊎ (LINK_FILLS ≤ c.opened + n))

-- the frame isn't at its first step with a record that fits
abbrev pub DoesntFit : ℕ → Core → Frame → Type 0
DoesntFit size c frame = frame.state ≡ waiting
    → frame.phase ≡ idle
    → (r : Reservation)
    → next_reservation c.history ≡ Some r
    → FitsBehind size (tail_of c.history) r
    → ⊥

-- The frame goes on; or begins a fill; or reserves; or leaves, a close frame perhaps with a fill begun; or closes a
-- fill; or finds the wish; or is popped.
pub data CallMakes (n size : ℕ) (c : Core) (frame : Frame) (below : List Frame) (after : Core) : Type 0 where
  goes_on : (phase : Phase)
      → frame.state ≡ waiting ⊎ frame.state ≡ left
      → DoesntFit size c frame
      → writer_of after ≡ record (writer_of c) { frames = record frame { phase = phase } ∷ below }
      → CallMakes n size c frame below after
  begins : (phase : Phase)
      → frame.state ≡ waiting ⊎ frame.state ≡ left
      → DoesntFit size c frame
      → writer_of after ≡ record (writer_of c) {
        frames = record frame { phase = phase } ∷ below;
        history = c.history ++ open_fill ∷ [];
        opened = c.opened + 1;
      }
      → CallMakes n size c frame below after
  has_reserved : (number : ℕ)
      → frame.state ≡ waiting
      → writer_of after ≡ record (writer_of c) {
        frames = record frame { state = reserved number; phase = idle } ∷ below;
        history = c.history ++ reserve ∷ [];
      }
      → CallMakes n size c frame below after
  leaves :
      frame.state ≡ waiting
      → LeavesNone n size c
      → DoesntFit size c frame
      → writer_of after ≡ record (writer_of c) {
        frames = frames_after_leave c frame below;
        history = c.history ++ leave None ∷ [];
      }
      → CallMakes n size c frame below after
  leaves_fill : (page : ℕ)
      → frame.kind ≡ for_close
      → frame.state ≡ waiting
      → next_reservation (c.history ++ open_fill ∷ []) ≡ None
      → DoesntFit size c frame
      → writer_of after ≡ record (writer_of c) {
        frames = frames_after_leave (with_new_tail c page) frame below;
        history = (c.history ++ open_fill ∷ []) ++ leave None ∷ [];
        opened = c.opened + 1;
      }
      → CallMakes n size c frame below after
  closes_one : (phase : Phase)
      → frame.state ≡ left
      → below ≡ []
      → c.done + 1 < c.opened
      → writer_of after ≡ record (writer_of c) { frames = record frame { phase = phase } ∷ below; done = c.done + 1 }
      → CallMakes n size c frame below after
  finds_wish : (phase : Phase)
      → frame.state ≡ left
      → below ≡ []
      → writer_of after ≡ record (writer_of c) {
        frames = record frame { phase = phase } ∷ below;
        history = c.history ++ wished ∷ [];
      }
      → CallMakes n size c frame below after
  is_gone :
      frame.state ≡ left
      → below ≡ []
      → c.done + 1 ≡ c.opened
      → writer_of after ≡ record (writer_of c) { frames = [] }
      → CallMakes n size c frame below after

-- ---- a state between calls, and a ring

-- the bottom frame has left, and is finishing
pub record IsFinishing (frame : Frame) (below : List Frame) (payloads : List (List ℕ)) (frames_open : List OpenFrame)
    (finishing : Bool)
    : Type 0 where
  pub has_left : frame.state ≡ left
  pub below_none : below ≡ []
  pub open_none : frames_open ≡ []
  pub finishing_is : finishing ≡ true
  pub one : length payloads ≡ 1

-- the frame hasn't left yet: it is the top open one of the state, and it waits and is idle if it has made no step
pub record IsTop (frame : Frame) (payloads : List (List ℕ)) (frames_open : List OpenFrame)
    (top : OpenFrame) (rest : List OpenFrame) (others : List (List ℕ))
    : Type 0 where
  pub not_left : frame.state ≢ left
  pub open_is : frames_open ≡ top ∷ rest
  pub payloads_are : payloads ≡ top.payload ∷ others
  pub fresh : top.stepped ≡ false → (frame.state ≡ waiting) × (frame.phase ≡ idle)

-- the frames of a ring, with their payloads, are those of a state
abbrev pub AreOpenFrames : List Frame → List (List ℕ) → List OpenFrame → Bool → Type 0
AreOpenFrames [] payloads frames_open finishing = (payloads ≡ []) × (frames_open ≡ []) × (finishing ≡ false)
AreOpenFrames (frame ∷ below) payloads frames_open finishing =
    IsFinishing frame below payloads frames_open finishing
    ⊎ ((top : OpenFrame) × (rest : List OpenFrame) × (others : List (List ℕ))
    × IsTop frame payloads frames_open top rest others
    × AreOpenFrames below others rest finishing)

-- The state is that of the writer. Its head is any that its window allows, since a writer doesn't know the reader's
-- takes.
pub record Agrees (n : ℕ) (p : LineState) (payloads : List (List ℕ)) (s : LineWriting) : Type 0 where
  pub history : p.history ≡ s.history
  pub done : p.window.done ≡ s.done
  pub opened : p.window.opened ≡ s.opened
  pub window : IsWindow n p.window
  pub frames : AreOpenFrames s.frames payloads p.frames p.finishing

-- the top frame has made a step
abbrev pub stepped : LineState → LineState
stepped p = record p { frames = with_top_stepped p.frames }

-- a record frame is the top one
abbrev pub IsRecordOnTop : List Frame → Type 0
IsRecordOnTop [] = ⊥
IsRecordOnTop (frame ∷ below) = frame.kind ≢ for_close

-- One call for the top frame makes events of it, from a state that agrees with the writer to one that does again. If
-- it is the frame's first step and its record fits, the record is reserved. For a record frame there is at most one
-- history event.
pub record MakesEvents (n size : ℕ) (s t : LineWriting) (payloads : List (List ℕ)) (p : LineState) : Type 0 where
  pub events : List RingEvent
  pub reached : LineState
  pub behind : LineState
  pub run : TopRun n size (length s.frames - 1) (stepped p) events reached
  pub goes : MayGo reached behind
  pub agrees : Agrees n behind (payloads_left t.frames payloads) t
  pub first : ReservesFirst size p p.frames (history_events_of events)
  pub on : length t.frames ≡ length s.frames → stepped behind ≡ behind
  pub few : IsRecordOnTop s.frames → length (history_events_of events) ≤ 1

abbrev pub CallsMakeEvents : Type 0
CallsMakeEvents = (n size start : ℕ) (s : LineWriting) (x : Exchange) (t : LineWriting) (payloads : List (List ℕ))
    (p : LineState)
    → IsWriterCall n size start s x t
    → s.frames ≢ []
    → x.event ≡ event_on_top s.frames payloads
    → Agrees n p payloads s
    → MakesEvents n size s t payloads p
