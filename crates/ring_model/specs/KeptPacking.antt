-- What each step of a ring keeps of the packing of its records in pages.
use Rattle.std.specs.Prelude.{◌≡◌, ℕ, Bool, List, [], ◌∷◌, Some}
use Rattle.trace_model.specs.History.{HistoryEvent, Reservation, reserved_records}
use Rattle.trace_model.specs.Packing.{opens_of, is_wished}
use Rattle.trace_model.specs.Fitting.{HaveRoom, AreFit, FitsPage, NeedsFill}
use Rattle.trace_model.specs.Frames.{Frame, noted_fill}
use Rattle.trace_model.specs.Ring.{Core}

-- a frame's record has room in a page; and if it is the next fill that the frame noted, it still needs it
abbrev pub FramesNeed : ℕ → List ℕ → List Reservation → (found : Bool) → ℕ → List Frame → Type 0
FramesNeed size cuts records found opened [] = Unit {0}
FramesNeed size cuts records found opened (frame ∷ below) =
    FitsPage size frame.kind
    × (noted_fill frame.phase ≡ Some opened → NeedsFill size cuts records found frame.kind frame.state)
    × FramesNeed size cuts records found opened below

-- the fills have room, each event was allowed, and the frames' needs are as above
pub record PackedAt (size : ℕ) (history : List HistoryEvent) (opened : ℕ) (frames : List Frame) : Type 0 where
  pub room : HaveRoom size (opens_of history) (reserved_records history)
  pub fit : AreFit size history
  pub needs : FramesNeed size (opens_of history) (reserved_records history) (is_wished history) opened frames

abbrev pub PackedKept : ℕ → Core → Type 0
PackedKept size c = PackedAt size c.history c.opened c.frames
