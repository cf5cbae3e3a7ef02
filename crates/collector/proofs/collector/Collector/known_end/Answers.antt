use Rattle.std.proofs.Common.{◌-◌, Some, None, subst}
use Rattle.page_numbers.specs.Parcels.{as_parcels}
use Rattle.collector.specs.Shown.{IsUnknown}
use Rattle.collector.specs.Known.{IsKnown}
use Rattle.collector.proofs.Indexing.{shown_here, known_of}
use Rattle.collector.proofs.collector.Collector.known_end.Goals as goal

pub returns-clause-behind : goal.returns-clause-behind
returns-clause-behind c n from = subst (λ ps. IsUnknown ps c.args.cpu.0 n) c.self.view_is
    (shown_here (as_parcels c.self.inside.parcels.items) c.self.inside.index c.self.invariant c.args.cpu.0 n None tt
    (λ content. c.end.ensures.behind n content from))

pub returns-clause-last : goal.returns-clause-last
returns-clause-last c some =
    let ps = as_parcels c.self.inside.parcels.items in
    let cpu = c.args.cpu.0 in
    let last = c.end.result - 1 in
    let found = c.end.ensures.last some in
    subst (λ ps. IsKnown ps cpu last) c.self.view_is
    (known_of ps cpu last found.0 (shown_here ps c.self.inside.index c.self.invariant cpu last (Some found.0)
    found.1 tt))
