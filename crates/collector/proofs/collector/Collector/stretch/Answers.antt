use Rattle.std.proofs.Common.{subst}
use Rattle.trace_model.specs.Collection.{Agree}
use Rattle.page_numbers.specs.Parcels.{as_parcels}
use Rattle.collector.specs.Shown.{IsContentAt}
use Rattle.collector.proofs.Indexing.{indexed_agree, shown_of, shown_here}
use Rattle.collector.proofs.collector.Collector.stretch.Goals as goal

pub returns-clause-shown : goal.returns-clause-shown
returns-clause-shown c n from below =
    subst (λ ps. IsContentAt ps c.args.cpu.0 n c.stretch.result.content) c.self.view_is
    (shown_of (as_parcels c.self.inside.parcels.items) c.self.inside.index c.self.invariant c.args.cpu.0 c.args.number
    c.stretch.result.end c.stretch.result.content
    c.stretch.ensures.reported c.stretch.ensures.unreported n from below)

pub returns-clause-agree : goal.returns-clause-agree
returns-clause-agree c =
    subst Agree c.self.view_is
    (indexed_agree (as_parcels c.self.inside.parcels.items) c.self.inside.index c.self.invariant)

pub returns-clause-here : goal.returns-clause-here
returns-clause-here c = subst (λ ps. IsContentAt ps c.args.cpu.0 c.args.number c.stretch.result.content) c.self.view_is
    (shown_here (as_parcels c.self.inside.parcels.items) c.self.inside.index c.self.invariant c.args.cpu.0 c.args.number
    c.stretch.result.content
    c.stretch.ensures.here c.stretch.ensures.unreported_here)
