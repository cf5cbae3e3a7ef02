use Rattle.std.proofs.Common.{IfNone, subst}
use Rattle.stream_collector.specs.Stream.{Stream}
use Rattle.library_values.specs.Cpus.{IsToldOf, HasNoneFrom}
use Rattle.library_values.proofs.listed_fleet.listed.ListedFleet.next_cpu.Goals as goal

pub returns-clause-none : goal.returns-clause-none
returns-clause-none c =
    subst (λ (s : Stream). IfNone c.next_cpu_of.result (HasNoneFrom (IsToldOf s) c.args.from)) c.known_of.ensures
    c.next_cpu_of.ensures.none
