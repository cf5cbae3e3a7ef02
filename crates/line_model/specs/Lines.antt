-- What the lines of one CPU's writer make of its history: one part for each line, in their order, without words or
-- loads of the ring. docs/formats/program.md, "Script", and docs/formats/ring.md, "Writer frames".
use Rattle.std.specs.Prelude.{◌≡◌, ◌≢◌, ℕ, zero, suc, ◌+◌, ◌-◌, ◌≤◌, ◌⊎◌, ⊤, Bool, true, false, nat_eq, if◌then◌else◌}
use Rattle.std.specs.Prelude.{List, [], ◌∷◌, ◌++◌, length, drop, Option, Some, None}
use Rattle.trace_model.specs.declared.limits.TheConstants.{MAX_FRAMES, MOMENT_LIMIT, LINK_FILLS}
use Rattle.trace_model.specs.Words.{padded}
use Rattle.trace_model.specs.History.{HistoryEvent, push, push_close, open_fill, reserve, leave, wished, Reservation}
use Rattle.trace_model.specs.Packing.{tail_of, FitsBehind, next_reservation}
use Rattle.trace_model.specs.Window.{Window, first_window, RingEvent, acts, closes, takes, loses, history_events_of}
use Rattle.trace_model.specs.Window.{MayMove, window_after, WindowRunFrom, IsCrowded}
use Rattle.trace_model.specs.Steps.{IsTooLong}
use Rattle.text_model.specs.Script.{Command, begin_frame, step_frame, finish_frame, write, close}

-- ---- the state of a writer between lines

-- An open frame: one that was pushed and hasn't left yet. It has the payload of its line, which is empty for a close
-- frame, and whether it has made a step.
pub record OpenFrame : Type 0 where
  pub payload : List ℕ
  pub stepped : Bool

-- The history and the counts of fills so far; the open frames, the top one first; and whether the bottom frame of the
-- stack is finishing: it has left, and closes fills or looks for the reader's wish.
pub record LineState : Type 0 where
  pub history : List HistoryEvent
  pub window : Window
  pub frames : List OpenFrame
  pub finishing : Bool

-- before any line
abbrev pub first_state : ℕ → LineState
first_state start = record { history = []; window = first_window start; frames = []; finishing = false }

-- the number of frames on the stack: the open ones, and the one that is finishing
abbrev pub frame_count : LineState → ℕ
frame_count p = length p.frames + (if p.finishing then 1 else 0)

-- ---- a push

-- A record frame is refused exactly if the stack is full, its record has no room in an empty page, or its moment is
-- too late.
abbrev pub IsRefusedPush : ℕ → LineState → (moment len : ℕ) → Type 0
IsRefusedPush size p moment len = (MAX_FRAMES ≤ frame_count p) ⊎ (IsTooLong size len ⊎ (MOMENT_LIMIT ≤ moment))

-- a close frame is refused exactly if the stack is full
abbrev pub IsRefusedClose : LineState → Type 0
IsRefusedClose p = MAX_FRAMES ≤ frame_count p

-- Events without a history event of the frames: fills may be closed, taken and lost.
pub record IsQuiet (n : ℕ) (before : LineState) (events : List RingEvent) (after : LineState) : Type 0 where
  pub acts_none : history_events_of events ≡ []
  pub window : WindowRunFrom n before.history before.window events after.window
  pub after_is : after ≡ record before { window = after.window }

-- One push, among such events. Its frame is the top one, and has made no step.
pub record IsPush (n : ℕ) (history_event : HistoryEvent) (payload : List ℕ) (before : LineState)
    (events : List RingEvent) (after : LineState)
    : Type 0 where
  pub acts_one : history_events_of events ≡ history_event ∷ []
  pub window : WindowRunFrom n before.history before.window events after.window
  pub after_is : after ≡ record {
    history = before.history ++ history_event ∷ [];
    window = after.window;
    frames = record { payload = payload; stepped = false } ∷ before.frames;
    finishing = before.finishing;
  }

-- ---- the frame on top

-- The top frame leaves with the payload of its line, in whole words. It leaves without a record only if it wants none,
-- as a close frame, or if its record doesn't fit into the tail page and either all pages have fills that aren't closed
-- or no number is left for one more fill.
abbrev pub MayLeaveTop : ℕ → ℕ → LineState → Option (List ℕ) → List OpenFrame → Type 0
MayLeaveTop n size p payload [] = ⊥
MayLeaveTop n size p (Some bytes) (top ∷ below) = bytes ≡ padded top.payload
MayLeaveTop n size p None (top ∷ below) = (r : Reservation)
    → next_reservation p.history ≡ Some r
    → (FitsBehind size (tail_of p.history) r → ⊥)
    × (IsCrowded n p.window ⊎ (LINK_FILLS ≤ p.window.opened + n))

-- The top frame begins a fill, reserves, or leaves; one that is finishing may find the wish. It pushes no frame. The
-- discipline of the stack (IsHistory) and the packing (IsPacked) are separate conditions.
abbrev pub IsOfTop : ℕ → ℕ → LineState → HistoryEvent → Type 0
IsOfTop n size p (push moment len) = ⊥
IsOfTop n size p push_close = ⊥
IsOfTop n size p open_fill = ⊤
IsOfTop n size p reserve = p.frames ≢ []
IsOfTop n size p (leave payload) = MayLeaveTop n size p payload p.frames
IsOfTop n size p wished = p.frames ≡ []

-- the open frames after a history event of the top one
abbrev pub open_after : List OpenFrame → HistoryEvent → List OpenFrame
open_after frames (push moment len) = frames
open_after frames push_close = frames
open_after frames open_fill = frames
open_after frames reserve = frames
open_after frames (leave payload) = drop 1 frames
open_after frames wished = frames

-- the bottom frame is finishing once it has left
abbrev pub finishing_after : List OpenFrame → Bool → HistoryEvent → Bool
finishing_after [] finishing a = finishing
finishing_after (top ∷ []) finishing (push moment len) = finishing
finishing_after (top ∷ []) finishing push_close = finishing
finishing_after (top ∷ []) finishing open_fill = finishing
finishing_after (top ∷ []) finishing reserve = finishing
finishing_after (top ∷ []) finishing (leave payload) = true
finishing_after (top ∷ []) finishing wished = finishing
finishing_after (top ∷ next ∷ below) finishing a = finishing

abbrev pub state_after : LineState → HistoryEvent → LineState
state_after p a = record {
  history = p.history ++ a ∷ [];
  window = window_after p.window (acts a);
  frames = open_after p.frames a;
  finishing = finishing_after p.frames p.finishing a;
}

-- the state with another window, after an event that is no history event
abbrev pub state_moved : LineState → Window → LineState
state_moved p w = record p { window = w }

-- Events whose history events are all of the frame that has depth frames below it. It acts only while it is on the
-- stack. A bottom frame remains there after its leave, so what it does for the reader's wish is among them.
abbrev pub TopRun : (n size depth : ℕ) → LineState → List RingEvent → LineState → Type 0
TopRun n size depth before [] after = before ≡ after
TopRun n size depth before (acts a ∷ events) after =
    (frame_count before ≡ suc depth)
    × IsOfTop n size before a
    × MayMove n before.history before.window (acts a)
    × TopRun n size depth (state_after before a) events after
TopRun n size depth before (closes ∷ events) after =
    MayMove n before.history before.window closes
    × TopRun n size depth (state_moved before (window_after before.window closes)) events after
TopRun n size depth before (takes ∷ events) after =
    MayMove n before.history before.window takes
    × TopRun n size depth (state_moved before (window_after before.window takes)) events after
TopRun n size depth before (loses ∷ events) after =
    MayMove n before.history before.window loses
    × TopRun n size depth (state_moved before (window_after before.window loses)) events after

-- A frame that has made no step yet reserves first, if its record then fits.
abbrev pub ReservesFirst : ℕ → LineState → List OpenFrame → List HistoryEvent → Type 0
ReservesFirst size p [] history_events = ⊤
ReservesFirst size p (top ∷ below) history_events = top.stepped ≡ false
    → (r : Reservation)
    → next_reservation p.history ≡ Some r
    → FitsBehind size (tail_of p.history) r
    → (others : List HistoryEvent) × (history_events ≡ reserve ∷ others)

-- the top frame has made a step
abbrev pub with_top_stepped : List OpenFrame → List OpenFrame
with_top_stepped [] = []
with_top_stepped (top ∷ below) = record top { stepped = true } ∷ below

-- The frame that is finishing is popped, which it is only if all fills but the tail are closed; or nothing changes.
pub data MayGo (before after : LineState) : Type 0 where
  stays_on : after ≡ before → MayGo before after
  goes : before.frames ≡ []
      → before.finishing ≡ true
      → before.window.done + 1 ≡ before.window.opened
      → after ≡ record before { finishing = false }
      → MayGo before after

-- What the top frame does: its history events, any number of them, and then it may be popped. If there is no frame,
-- there is no history event.
pub record TopPart (n size : ℕ) (before : LineState) (events : List RingEvent) (after : LineState) : Type 0 where
  pub first : ReservesFirst size before before.frames (history_events_of events)
  pub reached : LineState
  pub run : TopRun n size (frame_count before - 1)
      (record before { frames = with_top_stepped before.frames }) events reached
  pub goes : MayGo reached after

-- ---- lines

-- `s K`: at most K history events of the top frame
pub record StepsPart (n size count : ℕ) (before : LineState) (events : List RingEvent) (after : LineState)
    : Type 0 where
  pub top : TopPart n size before events after
  pub few : length (history_events_of events) ≤ count

-- `f`: history events of the top frame until it is popped, which a bottom frame is when all fills but the tail are
-- closed
pub record FinishPart (n size : ℕ) (before : LineState) (events : List RingEvent) (after : LineState) : Type 0 where
  pub top : TopPart n size before events after
  pub is_gone : frame_count after ≤ frame_count before - 1

-- `b`: its push, with the length of its payload; or no history event, if it is refused
pub data BeginPart (n size moment : ℕ) (payload : List ℕ) (before : LineState) (events : List RingEvent)
    (after : LineState)
    : Type 0 where
  begins : (IsRefusedPush size before moment (length payload) → ⊥)
      → IsPush n (push moment (length payload)) payload before events after
      → BeginPart n size moment payload before events after
  begins_none :
      IsRefusedPush size before moment (length payload)
      → IsQuiet n before events after
      → BeginPart n size moment payload before events after

-- `w` and `c`: a push and then as `f`; or no history event, if it is refused
pub data WholePart (n size : ℕ) (history_event : HistoryEvent) (payload : List ℕ) (Refused : Type 0)
    (before : LineState) (events : List RingEvent) (after : LineState)
    : Type 0 where
  writes : (front behind : List RingEvent) (between : LineState)
      → (Refused → ⊥)
      → events ≡ front ++ behind
      → IsPush n history_event payload before front between
      → FinishPart n size between behind after
      → WholePart n size history_event payload Refused before events after
  writes_none :
      Refused
      → IsQuiet n before events after
      → WholePart n size history_event payload Refused before events after

-- The part of one line. A line of the reader or of a collector has no history event of the writer.
abbrev pub LinePart : (n size : ℕ) → Command → LineState → List RingEvent → LineState → Type 0
LinePart n size (begin_frame cpu moment payload) before events after =
    BeginPart n size moment payload before events after
LinePart n size (step_frame cpu count) before events after = StepsPart n size count before events after
LinePart n size (finish_frame cpu) before events after = FinishPart n size before events after
LinePart n size (write cpu moment payload) before events after =
    WholePart n size (push moment (length payload)) payload (IsRefusedPush size before moment (length payload))
    before events after
LinePart n size (close cpu) before events after =
    WholePart n size push_close [] (IsRefusedClose before) before events after
LinePart n size _ before events after = IsQuiet n before events after

-- one part for each line, joined
abbrev pub LineParts : (n size : ℕ) → List Command → LineState → List RingEvent → LineState → Type 0
LineParts n size [] before events after = (events ≡ []) × (before ≡ after)
LineParts n size (line ∷ lines) before events after =
    (front : List RingEvent) × (behind : List RingEvent) × (between : LineState)
    × (events ≡ front ++ behind)
    × LinePart n size line before front between
    × LineParts n size lines between behind after

-- this number of parts as of `f`, joined
abbrev pub FinishParts : (n size count : ℕ) → LineState → List RingEvent → LineState → Type 0
FinishParts n size zero before events after = (events ≡ []) × (before ≡ after)
FinishParts n size (suc count) before events after =
    (front : List RingEvent) × (behind : List RingEvent) × (between : LineState)
    × (events ≡ front ++ behind)
    × FinishPart n size before front between
    × FinishParts n size count between behind after

-- is it a line of this CPU's writer
abbrev pub writer_line : ℕ → Command → Bool
writer_line cpu (begin_frame at moment payload) = nat_eq at cpu
writer_line cpu (step_frame at count) = nat_eq at cpu
writer_line cpu (finish_frame at) = nat_eq at cpu
writer_line cpu (write at moment payload) = nat_eq at cpu
writer_line cpu (close at) = nat_eq at cpu
writer_line cpu _ = false

-- the `b`, `s`, `f`, `w` and `c` lines of a CPU, in order
abbrev pub writer_lines : ℕ → List Command → List Command
writer_lines cpu [] = []
writer_lines cpu (line ∷ lines) =
    if writer_line cpu line then line ∷ writer_lines cpu lines else writer_lines cpu lines

-- The lines of one CPU's writer have made this history so far, in a ring of n pages of this size whose first fill has
-- the number start: among some events of the ring it is one part for each line. Frames may still be open.
pub record IsBegunByLines (n size start : ℕ) (lines : List Command) (history : List HistoryEvent) : Type 0 where
  pub events : List RingEvent
  pub after : LineState
  pub parts : LineParts n size lines (first_state start) events after
  pub history_is : history ≡ after.history

-- The lines of one CPU's writer make this history: one part for each line, and then parts as of `f` until the stack is
-- empty.
pub record IsMadeByLines (n size start : ℕ) (lines : List Command) (history : List HistoryEvent) : Type 0 where
  pub by_lines : List RingEvent
  pub behind : LineState
  pub parts : LineParts n size lines (first_state start) by_lines behind
  pub count : ℕ
  pub by_rest : List RingEvent
  pub last : LineState
  pub rest : FinishParts n size count behind by_rest last
  pub none_left : frame_count last ≡ 0
  pub history_is : history ≡ last.history
