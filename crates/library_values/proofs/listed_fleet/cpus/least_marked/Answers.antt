use Rattle.std.proofs.Common.{ℕ, ◌∷◌, [], length, subst, sym, arith}
use Rattle.std.proofs.lemmas.List.{length-append}
use Rattle.std.proofs.lemmas.Iterator.Consumers.{YieldsList-from_first, YieldsList-turn}
use Rattle.collector.specs.Known.{cpu_number}
use Rattle.library_values.proofs.LeastFrom.{AreBelow, one_more, least_is}
use Rattle.library_values.proofs.listed_fleet.cpus.least_marked.Goals as goal

pub loop-cpu-preserved : goal.loop-cpu-preserved
loop-cpu-preserved c =
    let cpus = c.args.cpus in
    let given = c.into_iter-cpu-iterator.ensures.into_iter_gives in
    let turn = YieldsList-turn (YieldsList-from_first cpu_number (λ left. left) cpus given) c.loop-cpu.yielded _
    c.loop-cpu.yielded_by _ _ _ c.in-Some.is c.next.ensures.steps in
    let more =
    one_more cpus (length c.loop-cpu.yielded) c.args.from c.in-Some.cpu.0 c.loop-cpu.invariant turn.0 turn.1
    (omega arith) in
    subst (λ (n : ℕ). AreBelow cpus n c.args.from) (sym (length-append c.loop-cpu.yielded (c.in-Some.cpu ∷ []))) more

pub returns-then-cpu-from-clause-least : goal.returns-then-cpu-from-clause-least
returns-then-cpu-from-clause-least c =
    let cpus = c.args.cpus in
    let given = c.into_iter-cpu-iterator.ensures.into_iter_gives in
    let turn = YieldsList-turn (YieldsList-from_first cpu_number (λ left. left) cpus given) c.loop-cpu.yielded _
    c.loop-cpu.yielded_by _ _ _ c.in-Some.is c.next.ensures.steps in
    least_is cpus c.requires (length c.loop-cpu.yielded) c.args.from c.in-Some.cpu.0 c.loop-cpu.invariant turn.0 turn.1
    (omega arith)
