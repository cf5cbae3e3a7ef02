-- What laws and contracts say of a state in which a frame makes a step, and of one after it.
use Rattle.std.specs.Prelude.{◌≡◌, ◌≢◌, ℕ, ◌+◌, ◌<◌, ◌⊎◌, true, List, [], None}
use Rattle.trace_model.specs.declared.limits.TheConstants.{LINK_FILLS}
use Rattle.trace_model.specs.Words.{encoded_len}
use Rattle.trace_model.specs.Packing.{tail_of, FitsBehind}
use Rattle.trace_model.specs.Frames.{Purpose, for_record, for_close, Progress, waiting, reserved, left, Role, owner}
use Rattle.trace_model.specs.Frames.{helper, idle, Frame}
use Rattle.trace_model.specs.Ring.{Core}
use Rattle.trace_model.specs.Events.{Answer, going}
use Rattle.trace_model.specs.WriterSteps.{in_phase, closing_phase, leave_answer, after_leave, new_reservation}

-- a helper stops where another frame has begun a fill
abbrev pub MayContinue : Role → ℕ → ℕ → Type 0
MayContinue owner noted opened = Unit {0}
MayContinue helper noted opened = noted ≡ opened

-- the frame needs a page: its record doesn't fit in the tail page, or it closes one that holds a record
abbrev pub NeedsPage : ℕ → Core → Purpose → Type 0
NeedsPage size c (for_record moment len) =
    FitsBehind size (tail_of c.history) (new_reservation c moment len) → ⊥
NeedsPage size c for_close = tail_of c.history ≢ []

-- the reader wishes for the tail, which holds a record and isn't the last fill that may be begun
pub record IsGranted (n : ℕ) (c : Core) : Type 0 where
  pub asks_tail : c.wish ≡ c.opened
  pub holds_record : tail_of c.history ≢ []
  pub numbers_left : c.opened + n < LINK_FILLS

-- a record of len bytes has no room in an empty page of this size
abbrev pub IsTooLong : ℕ → ℕ → Type 0
IsTooLong size len = (size < len) ⊎ (size < encoded_len len 0 true)

-- the answer of a frame whose fill is begun, and the state after it
abbrev pub begin_answer : Purpose → Progress → List Frame → Answer
begin_answer (for_record moment len) waiting below = going
begin_answer for_close waiting below = leave_answer below
begin_answer kind (reserved number) below = going
begin_answer kind left below = going

abbrev pub after_begin : Purpose → Progress → Core → Frame → List Frame → Core
after_begin (for_record moment len) waiting c frame below = in_phase c frame below idle
after_begin for_close waiting c frame below = after_leave c frame below None
after_begin kind (reserved number) c frame below = in_phase c frame below idle
after_begin kind left c frame below = in_phase c frame below (closing_phase c)
