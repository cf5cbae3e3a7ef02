use Rattle.std.proofs.Common.{◌≡◌, length}
use Rattle.event_fields.specs.Types.{is_among}
use Rattle.event_fields.proofs.types.is_among.Given as goal

abbrev pub invariant-loop-rest : goal.invariant-loop-rest
invariant-loop-rest l = is_among l.left l.text ≡ is_among l.names l.text

abbrev pub decreases-loop-rest : goal.decreases-loop-rest
decreases-loop-rest l = length l.left
