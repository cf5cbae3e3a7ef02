-- What the writer's steps that begin a fill and close one ask and show: the writer gets a page, or one goes home.
use Rattle.std.specs.Prelude.{◌≡◌, ◌≤◌, ⊤, ℕ, List, [], ◌∷◌, ◌++◌, Some}
use Rattle.trace_model.specs.Frames.{Phase, opening, Frame, no_frame}
use Rattle.trace_model.specs.Ring.{Core}
use Rattle.trace_model.specs.Steps.{Answer, refused, begin_answer}
use Rattle.ring_model.specs.Reached.{IsReached}
use Rattle.page_image.specs.Contents.{Contents}
use Rattle.ring_steps.specs.declared.rule.Shape.{Shape}
use Rattle.ring_steps.specs.Made.{writer_made_of}
use Rattle.ring_steps.specs.Views.{Writing, writing_of, writes, writing, passed}
use Rattle.ring_steps.specs.Seats.{SeatState, emptied, IsWriterStep}

-- the writer's part is that of a state which steps reach
pub record IsWriterReached (shape : Shape) (w : Writing) : Type 0 where
  pub core : Core
  pub reached : IsReached shape.pages shape.size shape.start core
  pub is : writing_of (writer_made_of reached) core ≡ w

-- there is a frame on top, and it is in this phase
abbrev pub IsTopIn : List Frame → Phase → Type 0
IsTopIn [] phase = ⊥
IsTopIn (frame ∷ below) phase = frame.phase ≡ phase

-- what the frame on top answers once a fill is begun
abbrev pub begun_answer : List Frame → Answer
begun_answer [] = refused no_frame
begun_answer (frame ∷ below) = begin_answer frame.kind frame.state below

-- What the store that begins a fill shows: the writer has the page at its position, of the ring's size.
pub record OpenReported (shape : Shape) (now : Writing) (known : ℕ) (after : SeatState) : Type 0 where
  pub view : after.0 ≡ writes (writing after.0) (passed after.0)
  pub knows : known ≤ passed after.0
  pub page : ℕ
  pub position : IsTopIn now.frames (opening now.opened page)
  pub body : Contents
  pub size_is : body.size ≡ shape.size
  pub hand : after.1 ≡ (page, Some body) ∷ emptied now.open_pages
  pub open_pages_are : (writing after.0).open_pages ≡ now.open_pages ++ page ∷ []
  pub step : IsWriterStep shape now (λ _. ⊤) (begun_answer now.frames) (writing after.0)
