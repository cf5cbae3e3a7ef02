use Rattle.page_numbers.specs.Parcels.{as_parcels}
use Rattle.trace_run.proofs.Rising.{RiseTo}
use Rattle.trace_run.proofs.ledgers.order.are_rising_of.Given as goal

abbrev pub invariant-loop-index : goal.invariant-loop-index
invariant-loop-index l = RiseTo l.cpu (as_parcels l.parcels) l.index
