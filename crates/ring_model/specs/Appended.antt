-- What each event of a ring appends to the history of its frames, by its answer.
-- docs/formats/ring.md, "Writer frames".
use Rattle.std.specs.Prelude.{◌≡◌, ◌≢◌, ℕ, ◌⊎◌, List, [], ◌∷◌, length, Some, None}
use Rattle.trace_model.specs.History.{HistoryEvent, push, push_close, open_fill, reserve, leave, wished}
use Rattle.trace_model.specs.History.{reserved_records}
use Rattle.trace_model.specs.Packing.{tail_of}
use Rattle.trace_model.specs.Frames.{Purpose, for_record, for_close, Progress, waiting, reserved, left, Phase, idle}
use Rattle.trace_model.specs.Frames.{opening, wishing, noted_fill, owned_update, Frame, WriteFault, crowded, worn}
use Rattle.trace_model.specs.Frames.{no_frame, not_reserved}
use Rattle.trace_model.specs.Ring.{Core}
use Rattle.trace_model.specs.Steps.{Event, pushes, pushes_close, steps, ends, reads, wishes, Answer, pushed, going}
use Rattle.trace_model.specs.Steps.{reserved_as, gone, refused, leave_answer, end_answer, IsGranted}

-- ---- a push, and an end

-- A frame that is pushed appends its push; one that is refused appends nothing.
pub data PushAppends (event : HistoryEvent) (answer : Answer) (events : List HistoryEvent) : Type 0 where
  is_pushed : answer ≡ pushed → events ≡ event ∷ [] → PushAppends event answer events
  isnt_pushed : (why : WriteFault) → answer ≡ refused why → events ≡ [] → PushAppends event answer events

-- A frame that has reserved leaves with the payload; the end of any other is refused, and appends nothing.
abbrev pub EndAppends : List ℕ → Progress → List Frame → Answer → List HistoryEvent → Type 0
EndAppends payload waiting below answer events = (answer ≡ refused not_reserved) × (events ≡ [])
EndAppends payload (reserved number) below answer events =
    (answer ≡ end_answer below) × (events ≡ leave (Some payload) ∷ [])
EndAppends payload left below answer events = (answer ≡ refused not_reserved) × (events ≡ [])

abbrev pub TopEndAppends : List ℕ → List Frame → Answer → List HistoryEvent → Type 0
TopEndAppends payload [] answer events = (answer ≡ refused no_frame) × (events ≡ [])
TopEndAppends payload (frame ∷ below) answer events = EndAppends payload frame.state below answer events

-- ---- a step of the frame on top

-- the frame is about to begin a fill, and no other has begun it
abbrev pub IsOpening : Core → Phase → Type 0
IsOpening c phase = (page : ℕ) × (phase ≡ opening c.opened page)

-- a frame that needs a page is refused one
abbrev pub IsRefusedPage : Answer → Type 0
IsRefusedPage answer = (answer ≡ refused crowded) ⊎ (answer ≡ refused worn)

-- A record frame that waits: it reserves, under the number of records before it; or it is refused, and leaves without
-- a record; or it begins a fill, and goes on; or it only goes on.
pub data RecordAppends (c : Core) (phase : Phase) (answer : Answer) (events : List HistoryEvent) : Type 0 where
  record_reserved :
      answer ≡ reserved_as (length (reserved_records c.history))
      → events ≡ reserve ∷ []
      → RecordAppends c phase answer events
  record_refused : IsRefusedPage answer → events ≡ leave None ∷ [] → RecordAppends c phase answer events
  record_opens : IsOpening c phase → answer ≡ going → events ≡ open_fill ∷ [] → RecordAppends c phase answer events
  record_goes_on :
      (IsOpening c phase → ⊥)
      → answer ≡ going
      → events ≡ []
      → RecordAppends c phase answer events

-- A close frame has what it wanted: the tail page is empty; or another frame has begun a fill since this one noted
-- which to begin, and this one owns no UPDATE that it must clear first.
pub data HasWhatItWants (c : Core) (phase : Phase) : Type 0 where
  tail_is_empty : phase ≡ idle → tail_of c.history ≡ [] → HasWhatItWants c phase
  was_faster : (noted : ℕ)
      → noted_fill phase ≡ Some noted
      → noted ≢ c.opened
      → owned_update phase ≡ None
      → HasWhatItWants c phase

-- A close frame that waits: it is refused, and leaves; or it begins a fill and leaves, or leaves since it has what it
-- wanted; or it goes on.
pub data CloseAppends (c : Core) (phase : Phase) (below : List Frame) (answer : Answer) (events : List HistoryEvent)
    : Type 0 where
  close_refused : IsRefusedPage answer → events ≡ leave None ∷ [] → CloseAppends c phase below answer events
  close_opens :
      IsOpening c phase
      → answer ≡ leave_answer below
      → events ≡ open_fill ∷ leave None ∷ []
      → CloseAppends c phase below answer events
  close_leaves :
      HasWhatItWants c phase
      → answer ≡ leave_answer below
      → events ≡ leave None ∷ []
      → CloseAppends c phase below answer events
  close_goes_on :
      (IsOpening c phase → ⊥)
      → (HasWhatItWants c phase → ⊥)
      → answer ≡ going
      → events ≡ []
      → CloseAppends c phase below answer events

-- it looks for the reader's wish, and grants it
abbrev pub Grants : ℕ → Core → Phase → Type 0
Grants n c phase = (phase ≡ wishing) × IsGranted n c

-- A frame that has left: it begins a fill, for the reader, or finds the reader's wish; or it goes on, or is gone.
pub data LeftAppends (n : ℕ) (c : Core) (phase : Phase) (answer : Answer) (events : List HistoryEvent) : Type 0 where
  left_opens : IsOpening c phase → answer ≡ going → events ≡ open_fill ∷ [] → LeftAppends n c phase answer events
  left_grants : Grants n c phase → answer ≡ going → events ≡ wished ∷ [] → LeftAppends n c phase answer events
  left_stays :
      (IsOpening c phase → ⊥)
      → (Grants n c phase → ⊥)
      → (answer ≡ going) ⊎ (answer ≡ gone)
      → events ≡ []
      → LeftAppends n c phase answer events

-- one that has reserved gets its number again as its answer
abbrev pub FrameAppends : ℕ → Core → Purpose → Progress → Phase → List Frame → Answer → List HistoryEvent → Type 0
FrameAppends n c (for_record moment len) waiting phase below answer events = RecordAppends c phase answer events
FrameAppends n c for_close waiting phase below answer events = CloseAppends c phase below answer events
FrameAppends n c kind (reserved number) phase below answer events = (answer ≡ reserved_as number) × (events ≡ [])
FrameAppends n c kind left phase below answer events = LeftAppends n c phase answer events

abbrev pub TopAppends : ℕ → Core → List Frame → Answer → List HistoryEvent → Type 0
TopAppends n c [] answer events = (answer ≡ refused no_frame) × (events ≡ [])
TopAppends n c (frame ∷ below) answer events =
    FrameAppends n c frame.kind frame.state frame.phase below answer events

-- ---- each event

-- The event, asked of a ring of n positions in this state and answered so, appends these events to the history. The
-- reader's events append none.
abbrev pub Appends : ℕ → Core → Event → Answer → List HistoryEvent → Type 0
Appends n c (pushes moment len) answer events = PushAppends (push moment len) answer events
Appends n c pushes_close answer events = PushAppends push_close answer events
Appends n c steps answer events = TopAppends n c c.frames answer events
Appends n c (ends payload) answer events = TopEndAppends payload c.frames answer events
Appends n c reads answer events = events ≡ []
Appends n c wishes answer events = events ≡ []
