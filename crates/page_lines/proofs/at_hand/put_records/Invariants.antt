use Rattle.page_lines.proofs.Placed.{HavePut}
use Rattle.page_lines.proofs.at_hand.put_records.Given as goal

abbrev pub invariant-loop-entry : goal.invariant-loop-entry
invariant-loop-entry l = HavePut l.fn.first.0 l.yielded l.places.items l.bytes.items l.number
