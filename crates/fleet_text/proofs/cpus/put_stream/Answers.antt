use Rattle.std.proofs.Common.{◌++◌, ◌∙◌, ap, ℕ, List, map}
use Rattle.std.proofs.lemmas.Iterator.Consumers.{YieldsList-from_rest, YieldsList-end}
use Rattle.fleet_text.specs.Cpus.{cpu_seen}
use Rattle.fleet_text.proofs.CpusInOrder.{cpu_at, stream_cpus}
use Rattle.fleet_text.proofs.cpus.put_stream.Goals as goal

pub returns : goal.returns
returns c =
    let keys = c.in_ok-cpus.cpus.keys in
    let begun = c.into_iter-cpu-iterator.ensures.into_iter_gives in
    let at = cpu_at c.args.stream.0 c.args.known.now in
    let all = YieldsList-end (YieldsList-from_rest keys begun.0) c.loop-cpu.yielded _ c.loop-cpu.yielded_by _ _
    c.in-None.is
    c.next.ensures.steps in (
      map at keys,
      stream_cpus c.args.stream.0 c.args.known.now keys begun.4 c.in_ok-cpus.ensures,
      c.loop-cpu.invariant ∙ ap (λ (ks : List ℕ). map cpu_seen c.args.list.now.items ++ map at ks) all.0,
    )
