use Rattle.std.proofs.Common.{◌≡◌, false, length}
use Rattle.event_fields.specs.Texts.{parts_of}
use Rattle.kernel_names.specs.Constants.{terms_after}
use Rattle.kernel_names.proofs.constants.terms_of.Given as goal

abbrev pub invariant-loop-term : goal.invariant-loop-term
invariant-loop-term l =
    terms_after l.bits (parts_of 124 l.left)
    ≡ terms_after (record { value = 0; is_narrow = false }) (parts_of 124 l.text)

abbrev pub decreases-loop-term : goal.decreases-loop-term
decreases-loop-term l = length l.left
