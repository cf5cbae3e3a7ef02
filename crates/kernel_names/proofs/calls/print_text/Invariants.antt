use Rattle.std.proofs.Common.{◌≡◌, length}
use Rattle.event_fields.specs.Texts.{parts_of}
use Rattle.kernel_names.specs.Calls.{print_in}
use Rattle.kernel_names.proofs.calls.print_text.Given as goal

abbrev pub invariant-loop-text : goal.invariant-loop-text
invariant-loop-text l = print_in (parts_of 10 l.left) ≡ print_in (parts_of 10 l.format)

abbrev pub decreases-loop-text : goal.decreases-loop-text
decreases-loop-text l = length l.left
