use Rattle.std.proofs.Common.{◌≡◌, false, length}
use Rattle.event_fields.specs.Texts.{parts_of}
use Rattle.kernel_names.specs.Constants.{casts_after}
use Rattle.kernel_names.proofs.constants.are_narrow_casts.Given as goal

abbrev pub invariant-loop-is_narrow_here : goal.invariant-loop-is_narrow_here
invariant-loop-is_narrow_here l =
    casts_after l.is_narrow (parts_of 41 l.left) ≡ casts_after false (parts_of 41 l.text)

abbrev pub decreases-loop-is_narrow_here : goal.decreases-loop-is_narrow_here
decreases-loop-is_narrow_here l = length l.left
