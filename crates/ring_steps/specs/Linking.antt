-- What the writer's steps that load and set links ask and show.
use Rattle.std.specs.Prelude.{◌≡◌, ℕ, ◌+◌, ◌-◌, ◌<◌, ◌≤◌, Bool, true, false, List, [], ◌∷◌, length, Option, Some, None}
use Rattle.std.specs.Prelude.{slice_index_or}
use Rattle.trace_model.specs.Links.{Mark, normal, header, update, word_of}
use Rattle.trace_model.specs.Frames.{Role, owner, helper, Phase, looking, claiming, looking_next, marking, opening}
use Rattle.trace_model.specs.Frames.{Frame, noted_fill}
use Rattle.trace_model.specs.Ring.{link_into, Core}
use Rattle.trace_model.specs.Steps.{MayContinue, after_next, steps, going, Answer}
use Rattle.ring_steps.specs.declared.rule.Shape.{Shape}
use Rattle.ring_steps.specs.Views.{Writing, writing_after, writing, passed}
use Rattle.ring_steps.specs.Seats.{SeatState, IsWriting, IsWriterStep, WriterReported}
use Rattle.ring_steps.specs.Paging.{IsTopIn}

-- the tail page, whose word is the link into the position of the fill to open
abbrev pub tail_in : Writing → ℕ
tail_in w = slice_index_or w.open_pages (length w.open_pages - 1) 0

abbrev pub number_or_zero : Option ℕ → ℕ
number_or_zero None = 0
number_or_zero (Some number) = number

-- the fill that the frame on top is about to open
abbrev pub noted_on_top : List Frame → ℕ
noted_on_top [] = 0
noted_on_top (frame ∷ below) = number_or_zero (noted_fill frame.phase)

-- who moves the head there: the frame on top, or one that it helps
abbrev pub role_in : Phase → Role
role_in (looking_next role noted page) = role
role_in (marking role noted page next) = role
role_in _ = owner

abbrev pub role_on_top : List Frame → Role
role_on_top [] = owner
role_on_top (frame ∷ below) = role_in frame.phase

-- The frame on top looks at the link after this page, which is into the position of this fill: the head was moved on
-- to it.
pub record LooksNext (n : ℕ) (w : Writing) (page after_lost : ℕ) : Type 0 where
  pub phase : IsTopIn w.frames (looking_next (role_on_top w.frames) (noted_on_top w.frames) page)
  pub goes_on : MayContinue (role_on_top w.frames) (noted_on_top w.frames) w.opened
  pub after_lost_is : after_lost + n ≡ noted_on_top w.frames + 1

-- and it is about to set the HEADER there
pub record MarksNext (n : ℕ) (w : Writing) (page next after_lost : ℕ) : Type 0 where
  pub phase : IsTopIn w.frames (marking (role_on_top w.frames) (noted_on_top w.frames) page next)
  pub goes_on : MayContinue (role_on_top w.frames) (noted_on_top w.frames) w.opened
  pub after_lost_is : after_lost + n ≡ noted_on_top w.frames + 1

-- the fill after the one that is lost for it
abbrev pub after_lost_in : ℕ → Writing → ℕ
after_lost_in n w = noted_on_top w.frames + 1 - n

-- what was found in the word of the link into the position of a fill is the link's, and what was known of the head
-- holds
abbrev pub SeesLink : Shape → (known fill found : ℕ) → Core → Type 0
SeesLink shape known fill found core =
    (known ≤ core.head) × (word_of (link_into shape.pages core.links fill) ≡ found)

-- what a step on that word shows
abbrev pub LinkReported : Shape → Writing → (known fill found : ℕ) → SeatState → Type 0
LinkReported shape now known fill found after =
    WriterReported shape now known (SeesLink shape known fill found) going after

-- What a claim of the head shows besides: the fill that is lost for the next one is passed, by this claim or before.
pub record ClaimReported (shape : Shape) (now : Writing) (known found : ℕ) (after : SeatState) : Type 0 where
  pub reported : LinkReported shape now known now.opened found after
  pub lost : now.opened < passed after.0 + shape.pages

-- what a load of the reader's wish shows
pub record WishReported (shape : Shape) (now : Writing) (known found : ℕ) (after : SeatState) : Type 0 where
  pub seat : IsWriting after
  pub knows : known ≤ passed after.0
  pub answer : Answer
  pub step : IsWriterStep shape now (λ core. core.wish ≡ found) answer (writing after.0)

-- ---- what such a step makes of the writer's part

-- the frame on top goes on in this phase, and nothing else of the part changes
abbrev pub frames_in : List Frame → Phase → List Frame
frames_in [] phase = []
frames_in (frame ∷ below) phase = record frame { phase = phase } ∷ below

abbrev pub part_in : Writing → Phase → Writing
part_in w phase =
    writing_after w.made record { event = steps; answer = going } (record w { frames = frames_in w.frames phase })

-- the phase in which it goes on by the link that it found into the position of the fill to open
abbrev pub found_at : Mark → (noted page : ℕ) → Phase
found_at normal noted page = opening noted page
found_at header noted page = claiming noted page
found_at update noted page = looking_next helper noted page

-- by its claim of the head
abbrev pub claimed_at : (done : Bool) → (noted page : ℕ) → Phase
claimed_at true noted page = looking_next owner noted page
claimed_at false noted page = looking noted

-- and by the next link, if that still waits for the HEADER or not: it does if it is a NORMAL of the fill there
abbrev pub next_at : Mark → (same : Bool) → Role → (noted page next : ℕ) → Phase
next_at normal true role noted page next = marking role noted page next
next_at normal false role noted page next = after_next role noted page
next_at header same role noted page next = after_next role noted page
next_at update same role noted page next = after_next role noted page
