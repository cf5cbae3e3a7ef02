use Rattle.std.proofs.Common.{IfNone, sym, subst}
use Rattle.collector.specs.FirstRun.{HoldsOfNone}
use Rattle.stream_collector.specs.Kinds.{IsOfKind}
use Rattle.stream_collector.specs.declared.kinds.Kind.{Kind}
use Rattle.stream_collector.proofs.kinds.next_run.Goals as goal

pub returns-in-Undelivered-clause-none : goal.returns-in-Undelivered-clause-none
returns-in-Undelivered-clause-none c = subst
    (λ (kind : Kind). IfNone c.next_undelivered_run.result
    (HoldsOfNone (IsOfKind kind c.args.stream.now c.args.cpu.0) c.args.from.0 c.args.end.0))
    (sym c.in-Undelivered.is) c.next_undelivered_run.ensures.none
