use Rattle.std.proofs.Common.{subst}
use Rattle.page_numbers.specs.Parcels.{as_parcels}
use Rattle.collector.specs.Index.{IsIndexed}
use Rattle.collector.proofs.Indexing.{copy_indexed}
use Rattle.collector.proofs.collector.Collector.copied_index.Goals as goal

pub returns : goal.returns
returns c = subst (λ ps. IsIndexed ps c.in_ok-copied.field-0) c.self.view_is
    (copy_indexed (as_parcels c.self.inside.parcels.items) c.self.inside.index c.in_ok-copied.field-0 c.self.invariant
    c.in_ok-copied.ensures)
