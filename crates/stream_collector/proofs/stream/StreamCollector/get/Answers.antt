use Rattle.std.proofs.Common.{sym, subst}
use Rattle.trace_model.specs.Record.{Record}
use Rattle.trace_model.specs.Collection.{Has}
use Rattle.stream_collector.specs.Stream.{Stream, HasRecord}
use Rattle.stream_collector.proofs.Standing.{none_gives}
use Rattle.stream_collector.proofs.stream.StreamCollector.get.Goals as goal

pub returns-clause-none : goal.returns-clause-none
returns-clause-none c = none_gives c.get.result
    ((r : Record) → Has c.self.inside.known c.args.cpu.0 c.args.number.0 r → ⊥)
    ((r : Record) → HasRecord c.args.self.now c.args.cpu.0 c.args.number.0 r → ⊥)
    c.get.ensures.none
    (λ no r h. no r (subst (λ (s : Stream). Has s.parcels c.args.cpu.0 c.args.number.0 r) (sym c.self.view_is) h.has))
