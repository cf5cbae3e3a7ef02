-- How the counts of what is seen of a ring follow from a step's answer and the frame on top, before and after it: what
-- a program that prints steps reckons with.
use Rattle.std.specs.Prelude.{◌≡◌, ℕ, ◌+◌, max, Bool, true, false, if◌then◌else◌, ◌&&◌, ◌==◌, List, [], ◌∷◌, length}
use Rattle.trace_model.specs.History.{last_moment, reserved_records}
use Rattle.trace_model.specs.HistoryLaws.{committed_count}
use Rattle.trace_model.specs.Frames.{Purpose, for_record, for_close, Progress, waiting, left, reserved, owner, Phase}
use Rattle.trace_model.specs.Frames.{claiming, looking_next, Frame}
use Rattle.trace_model.specs.Ring.{Core}
use Rattle.trace_model.specs.Steps.{Answer, reserved_as, page_taken}

-- the frame was about to claim the head, and owns its move now
abbrev pub owns_from : Phase → Phase → Bool
owns_from (claiming noted page) (looking_next owner o p) = true
owns_from _ _ = false

-- the frame on top has claimed the head: it is on top before and after
abbrev pub top_claims : List Frame → List Frame → Bool
top_claims [] news = false
top_claims (old ∷ olds) [] = false
top_claims (old ∷ olds) (new ∷ news) = length olds == length news && owns_from old.phase new.phase

-- the head moves on if it is claimed, or taken
abbrev pub head_after : Core → Answer → Core → ℕ
head_after before (page_taken t) after = before.head + 1
head_after before _ after = if top_claims before.frames after.frames then before.head + 1 else before.head

-- whether the answer gives the next number, which none of `count` records has
abbrev pub gives_next : (count : ℕ) → Answer → Bool
gives_next count (reserved_as number) = number == count
gives_next count _ = false

-- the moment that the frame on top was pushed with
abbrev pub moment_of : Purpose → ℕ
moment_of (for_record moment len) = moment
moment_of for_close = 0

abbrev pub top_moment : List Frame → ℕ
top_moment [] = 0
top_moment (frame ∷ below) = moment_of frame.kind

abbrev pub has_left : Progress → Bool
has_left waiting = false
has_left left = true
has_left (reserved number) = false

-- no frame is there but one that has left
abbrev pub all_have_left : List Frame → Bool
all_have_left [] = true
all_have_left (frame ∷ []) = has_left frame.state
all_have_left (frame ∷ next ∷ below) = false

abbrev pub records_in : Core → ℕ
records_in c = length (reserved_records c.history)

-- what follows of the counts after a step with this answer
pub record CountsFollow (before : Core) (answer : Answer) (after : Core) : Type 0 where
  pub head : after.head ≡ head_after before answer after
  pub records : records_in after ≡
      (if gives_next (records_in before) answer then records_in before + 1 else records_in before)
  pub moment : last_moment (reserved_records after.history) ≡
      (if gives_next (records_in before) answer
      then max (top_moment before.frames) (last_moment (reserved_records before.history))
      else last_moment (reserved_records before.history))
  pub committed : committed_count after.history ≡
      (if all_have_left after.frames then records_in after else committed_count before.history)
