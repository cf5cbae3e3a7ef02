use Rattle.std.proofs.Common.{◌≡◌, length}
use Rattle.event_fields.specs.Types.{is_named}
use Rattle.event_fields.proofs.types.is_named.Given as goal

abbrev pub invariant-loop-word : goal.invariant-loop-word
invariant-loop-word l = is_named l.named l.left ≡ is_named l.name l.text

abbrev pub decreases-loop-word : goal.decreases-loop-word
decreases-loop-word l = length l.left
