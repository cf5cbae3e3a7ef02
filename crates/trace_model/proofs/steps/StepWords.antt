-- The tests of the step function by names, and what a frame does once its fill is begun, by its answer and its state.
use Rattle.std.proofs.Common.{◌≡◌, ℕ, Bool, true, List, ◌∷◌, [], ◌++◌, length, ◌||◌, nat_lt, nat_le, Some, refl}
use Rattle.trace_model.specs.declared.limits.TheConstants.{MAX_FRAMES}
use Rattle.trace_model.specs.Words.{encoded_len}
use Rattle.trace_model.specs.History.{Reservation}
use Rattle.trace_model.specs.Packing.{fill_len, tail_of}
use Rattle.trace_model.specs.Frames.{Purpose, for_record, for_close, Progress, waiting, reserved, left, Frame}
use Rattle.trace_model.specs.Ring.{Core}
use Rattle.trace_model.specs.WriterSteps.{begins_again}
use Rattle.trace_model.specs.StepConditions.{begin_answer, after_begin}

-- there is no room for one more frame
abbrev pub is_full : Core → Bool
is_full c = nat_le MAX_FRAMES (length c.frames)

-- a record of len bytes has no room in an empty page of this size
abbrev pub is_too_long : (size len : ℕ) → Bool
is_too_long size len = nat_lt size len || nat_lt size (encoded_len len 0 true)

-- the record of this reservation fits in the tail page
abbrev pub fits_in_tail : (size : ℕ) → Core → Reservation → Bool
fits_in_tail size c r = nat_le (fill_len (tail_of c.history ++ r ∷ [])) size

pub begins_as : (kind : Purpose) (state : Progress) (c : Core) (frame : Frame) (below : List Frame)
    → begins_again kind state c frame below ≡ Some (begin_answer kind state below, after_begin kind state c frame below)
begins_as (for_record moment len) waiting c frame below = refl
begins_as for_close waiting c frame below = refl
begins_as kind (reserved number) c frame below = refl
begins_as kind left c frame below = refl
