-- Which steps begin again, and which are compare and exchanges.
use Rattle.std.specs.Prelude.{ℕ, Bool, true, false, ◌==◌, not}
use Rattle.trace_model.specs.Frames.{Progress, waiting, reserved, left, Frame, owner, helper, Phase, looking, claiming}
use Rattle.trace_model.specs.Frames.{looking_next, marking, opening}

abbrev pub is_late : (noted opened : ℕ) → Bool
is_late noted opened = not (noted == opened)

-- a frame in this phase finds that another one has begun the fill which it noted
abbrev pub begins_again_in : (opened : ℕ) → Phase → Bool
begins_again_in opened (looking noted) = is_late noted opened
begins_again_in opened (claiming noted page) = is_late noted opened
begins_again_in opened (looking_next helper noted page) = is_late noted opened
begins_again_in opened (marking helper noted page next) = is_late noted opened
begins_again_in opened (opening noted page) = is_late noted opened
begins_again_in opened _ = false

-- the step of a frame in this phase is a compare and exchange
abbrev pub is_exchange_in : (opened : ℕ) → Phase → Bool
is_exchange_in opened (claiming noted page) = noted == opened
is_exchange_in opened (marking owner noted page next) = true
is_exchange_in opened (marking helper noted page next) = noted == opened
is_exchange_in opened _ = false

-- a frame in this state makes a step, which is so, and not the end of its record
abbrev pub steps_so : Progress → Bool → Bool
steps_so waiting so = so
steps_so (reserved number) so = false
steps_so left so = so

-- the step of this frame is a compare and exchange
abbrev pub frame_exchanges_in : (opened : ℕ) → Frame → Bool
frame_exchanges_in opened frame = steps_so frame.state (is_exchange_in opened frame.phase)
