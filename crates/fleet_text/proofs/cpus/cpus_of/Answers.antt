use Rattle.fleet_text.proofs.CpuSets.{all_there}
use Rattle.std.proofs.Common.{ℕ, List, subst}
use Rattle.fleet_text.specs.Cpus.{HasBoth}
use Rattle.fleet_text.proofs.cpus.cpus_of.Goals as goal

pub returns : goal.returns
returns c =
    let first = subst (λ (keys : List ℕ). HasBoth keys c.put_known.new.cpus.keys c.known_cpus.result)
    c.new-cpus.ensures.empty
    c.in_ok-put_known.ensures in
    all_there c.args.known.now c.put_known.new.cpus.keys c.put_known-2.new.cpus.keys c.put_marked.new.cpus.keys
    c.known_cpus.result c.given_up_cpus.result c.marked_cpus.result first c.in_ok-put_known-2.ensures
    c.in_ok-put_marked.ensures c.known_cpus.ensures c.given_up_cpus.ensures c.marked_cpus.ensures
