-- How much room the frames of a writer have for their records.
use Rattle.std.specs.Prelude.{◌≡◌, ℕ, List, [], ◌∷◌, Option, Some, None}
use Rattle.trace_model.specs.Words.{slot_len}
use Rattle.trace_model.specs.Frames.{Purpose, for_record, for_close, Frame}
use Rattle.ring_shared.specs.Value.{WriterValue}

-- how many bytes the slot of a frame's record takes; a close frame has none
abbrev pub room_of : Purpose → Option ℕ
room_of (for_record moment len) = Some (slot_len len)
room_of for_close = None

abbrev pub rooms_of : List Frame → List (Option ℕ)
rooms_of [] = []
rooms_of (frame ∷ below) = room_of frame.kind ∷ rooms_of below

-- those of the frames on the stack, the one on top first
abbrev pub rooms : WriterValue → List (Option ℕ)
rooms v = rooms_of v.part.frames

-- the slot of the frame on top takes this number of bytes
abbrev pub IsTopRoom : WriterValue → ℕ → Type 0
IsTopRoom v bytes = (below : List (Option ℕ)) × (rooms v ≡ Some bytes ∷ below)
