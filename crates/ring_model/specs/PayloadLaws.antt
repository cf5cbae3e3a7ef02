-- The laws of a record's payload in a ring, as statements: each is a clause of a function of src/laws/payloads.rt.
use Rattle.std.specs.Prelude.{◌≡◌, ◌≢◌, ℕ, ◌+◌, ◌-◌, ◌<◌, ◌≤◌, ◌⊎◌, List, ◌∷◌, length, Some, None, slice_get}
use Rattle.std.specs.Prelude.{slice_index_or}
use Rattle.trace_model.specs.History.{Reservation}
use Rattle.trace_model.specs.Frames.{reserved, Frame}
use Rattle.trace_model.specs.Ring.{Core, page_at}
use Rattle.trace_model.specs.Steps.{ends, Answer, full, pending, Step, contents_of, held_with_payload}
use Rattle.ring_model.specs.RingKept.{IsRingKept}

-- the page holds the record of this number
abbrev pub HoldsNumber : Core → (page number : ℕ) → Type 0
HoldsNumber c page number =
    ((contents_of c page).first ≤ number)
    × (number < (contents_of c page).first + length (contents_of c page).records)

-- A record that a frame has reserved is in exactly one page: that of an open fill, begun and not closed; and it has no
-- bytes yet.
pub record IsOnOpenPage (n : ℕ) (c : Core) (number : ℕ) : Type 0 where
  pub fill : ℕ
  pub done_le : c.done ≤ fill
  pub opened_lt : fill < c.opened
  pub is_open : slice_index_or c.open_pages (fill - c.done) 0 ≡ page_at n c.order fill
  pub index : ℕ
  pub holds : HoldsNumber c (page_at n c.order fill) number
  pub is_index : (contents_of c (page_at n c.order fill)).first + index ≡ number
  pub record_is : Reservation
  pub at : slice_get (contents_of c (page_at n c.order fill)).records index ≡ Some record_is
  pub unwritten : record_is.bytes ≡ None
  pub alone : (page : ℕ) → HoldsNumber c page number → page ≡ page_at n c.order fill

abbrev pub ReservedLiesOpen : Type 0
ReservedLiesOpen = (n size start : ℕ) (c : Core) (k number : ℕ) (frame : Frame)
    → IsRingKept n size start c
    → slice_get c.frames k ≡ Some frame
    → frame.state ≡ reserved number
    → IsOnOpenPage n c number

-- no two frames have reserved the same record
abbrev pub ReservedDiffer : Type 0
ReservedDiffer = (n size start : ℕ) (c : Core) (j k number : ℕ) (one other : Frame)
    → IsRingKept n size start c
    → slice_get c.frames j ≡ Some one
    → slice_get c.frames k ≡ Some other
    → one.state ≡ reserved number
    → other.state ≡ reserved number
    → j ≡ k

-- the answer to the end of a record
abbrev pub IsEnded : Answer → Type 0
IsEnded answer = (answer ≡ full) ⊎ (answer ≡ pending)

-- An end writes the payload into the one page that holds its record, an open one, and changes no other page.
pub record WritesOnePage (n : ℕ) (c : Core) (payload : List ℕ) (after : Core) (number : ℕ) : Type 0 where
  pub lies : IsOnOpenPage n c number
  pub written : contents_of after (page_at n c.order lies.fill)
      ≡ held_with_payload (Some number) (Some payload) (contents_of c (page_at n c.order lies.fill))
  pub others : (page : ℕ) → page ≢ page_at n c.order lies.fill → contents_of after page ≡ contents_of c page

abbrev pub EndsWriteOnePage : Type 0
EndsWriteOnePage = (n size start : ℕ) (c : Core) (payload : List ℕ) (answer : Answer) (after : Core)
    (frame : Frame) (below : List Frame) (number : ℕ)
    → IsRingKept n size start c
    → c.frames ≡ frame ∷ below
    → frame.state ≡ reserved number
    → Step n size c (ends payload) answer after
    → IsEnded answer
    → WritesOnePage n c payload after number
