use Rattle.std.proofs.Common.{subst, sym}
use Rattle.page_numbers.specs.Parcels.{as_parcels}
use Rattle.collector.specs.Index.{IsIndexed}
use Rattle.collector.proofs.Indexing.{empty_indexed}
use Rattle.collector.proofs.collector.Collector.new.Goals as goal

pub invariant_of-result : goal.invariant_of-result
invariant_of-result c =
    subst (λ ps. IsIndexed (as_parcels ps) c.new-2.result) (sym c.new.ensures.items)
    (empty_indexed c.new-2.result c.new-2.ensures.apart c.new-2.ensures.stated c.new-2.ensures.unreported)
