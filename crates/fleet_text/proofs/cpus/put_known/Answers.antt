use Rattle.std.proofs.Common.{List, ℕ, ◌∷◌, [], map, sym, subst}
use Rattle.std.proofs.lemmas.List.{map-append}
use Rattle.std.proofs.lemmas.Iterator.Consumers.{YieldsList-from_first, YieldsList-end}
use Rattle.collector.specs.Known.{cpu_number}
use Rattle.fleet_text.specs.Cpus.{HasBoth}
use Rattle.fleet_text.proofs.CpuSets.{both_none, both_more}
use Rattle.fleet_text.proofs.cpus.put_known.Goals as goal

pub loop-cpu-init : goal.loop-cpu-init
loop-cpu-init c = both_none c.args.cpus.now.keys

pub loop-cpu-preserved : goal.loop-cpu-preserved
loop-cpu-preserved c =
    let done = c.loop-cpu.yielded in
    subst (λ (more : List ℕ). HasBoth c.args.cpus.now.keys c.insert.new.self.keys more)
    (sym (map-append cpu_number done (c.in-Some.cpu ∷ [])))
    (both_more c.args.cpus.now.keys c.loop-cpu.cpus.keys c.insert.new.self.keys (map cpu_number done) c.in-Some.cpu.0
    c.loop-cpu.invariant
    c.in_ok-insert.ensures.keys)

pub returns : goal.returns
returns c =
    let given = c.into_iter-cpu-iterator.ensures.into_iter_gives in
    let all = YieldsList-end (YieldsList-from_first cpu_number (λ left. left) c.args.known given) c.loop-cpu.yielded _
    c.loop-cpu.yielded_by _ _ c.in-None.is c.next.ensures.steps in
    subst (λ (more : List ℕ). HasBoth c.args.cpus.now.keys c.loop-cpu.cpus.keys more) all.0 c.loop-cpu.invariant
