use Rattle.std.proofs.Common.{ℕ, ◌∷◌, [], List, length, map, sym, subst}
use Rattle.std.proofs.lemmas.List.{map-append}
use Rattle.std.proofs.lemmas.Iterator.Consumers.{YieldsList-from_first, YieldsList-turn}
use Rattle.collector.specs.Known.{cpu_number}
use Rattle.fleet_collector.specs.Snapshot.{ArePut, marks_of_all}
use Rattle.fleet_collector.proofs.Snapshots.{marks_put}
use Rattle.fleet_collector.proofs.pack.put_marks.Goals as goal

pub put_marks_of-requires : goal.put_marks_of-requires
put_marks_of-requires c =
    let cpus = c.marked_cpus-cpu-items.result in
    let begun = c.into_iter-cpu-iterator.ensures.into_iter_gives in
    let yields = YieldsList-from_first cpu_number (λ left. left) cpus begun in
    let turn = YieldsList-turn yields c.loop-cpu.yielded _ c.loop-cpu.yielded_by _ _ c.in-Some.cpu c.in-Some.is
    c.next.ensures.steps in
    c.requires.marked c.in-Some.cpu.0
    ((c.marked_cpus-cpu-items.ensures.marked c.in-Some.cpu.0).0 (length c.loop-cpu.yielded, turn.0, sym turn.1))

pub loop-cpu-preserved : goal.loop-cpu-preserved
loop-cpu-preserved c =
    subst (λ (cs : List ℕ). ArePut c.args.out.now.items c.put_marks_of.new.out.items
    (marks_of_all c.args.stream.0 c.args.known.now cs))
    (sym (map-append cpu_number c.loop-cpu.yielded (c.in-Some.cpu ∷ [])))
    (marks_put c.args.stream.0 c.args.known.now (map cpu_number c.loop-cpu.yielded) c.in-Some.cpu.0
    c.args.out.now.items c.loop-cpu.out.items c.put_marks_of.new.out.items c.loop-cpu.invariant
    c.in_ok-put_marks_of.ensures)
