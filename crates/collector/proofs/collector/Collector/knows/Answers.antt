use Rattle.std.proofs.Common.{◌↔◌, IsTrue, subst}
use Rattle.page_numbers.specs.Parcels.{as_parcels}
use Rattle.collector.specs.Known.{IsCpuKnown}
use Rattle.collector.proofs.Indexing.{has_known, known_has}
use Rattle.collector.proofs.collector.Collector.knows.Goals as goal

pub returns : goal.returns
returns c =
    let ps = as_parcels c.self.inside.parcels.items in
    let index = c.self.inside.index in
    let cpu = c.args.cpu.0 in
    subst (λ ps. IsTrue c.has.result ↔ IsCpuKnown ps cpu) c.self.view_is (
      λ has. has_known ps index c.self.invariant cpu (c.has.ensures.0 has),
      λ known. c.has.ensures.1 (known_has ps index c.self.invariant cpu known),
    )
