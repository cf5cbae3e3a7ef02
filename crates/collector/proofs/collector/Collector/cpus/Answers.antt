use Rattle.std.proofs.Common.{subst}
use Rattle.page_numbers.specs.Parcels.{as_parcels}
use Rattle.collector.specs.Known.{AreCpusOf}
use Rattle.collector.proofs.Indexing.{has_known, known_has}
use Rattle.collector.proofs.collector.Collector.cpus.Goals as goal

pub returns : goal.returns
returns c =
    let ps = as_parcels c.self.inside.parcels.items in
    let index = c.self.inside.index in
    subst (λ ps. AreCpusOf ps c.cpus.result) c.self.view_is record {
      rising = c.cpus.ensures.rising;
      known = λ cpu. (
        λ h. has_known ps index c.self.invariant cpu ((c.cpus.ensures.there cpu).0 h),
        λ known. (c.cpus.ensures.there cpu).1 (known_has ps index c.self.invariant cpu known),
      );
    }
