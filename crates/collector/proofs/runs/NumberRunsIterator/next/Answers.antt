use Rattle.std.proofs.Common.{length, sym, ap, ◌∙◌, arith}
use Rattle.collector.proofs.RunsLeft.{no_run_left, run_forward, first_run_left}
use Rattle.collector.proofs.runs.NumberRunsIterator.next.Goals as goal

pub returns-in-None-clause-steps : goal.returns-in-None-clause-steps
returns-in-None-clause-steps c =
    let here = c.self.inside in
    let none = sym c.self.view_is ∙ no_run_left here.kind here.collector.now here.cpu.0 here.number here.end
    c.in-None.ensures.none in
    (none, none)

pub overflow_sub-result : goal.overflow_sub-result
overflow_sub-result c =
    let here = c.self.inside in
    let found = c.in-Some.ensures in
    let run = c.end_of_run-self-inside in
    let forward = run_forward here.kind here.collector.now here.cpu.0 c.in-Some.first run.result here.end
    run.ensures.from found.below found.there run.ensures.stop in
    omega arith

pub returns-in-Some-clause-steps : goal.returns-in-Some-clause-steps
returns-in-Some-clause-steps c =
    let here = c.self.inside in
    let found = c.in-Some.ensures in
    let run = c.end_of_run-self-inside in
    sym c.self.view_is ∙ first_run_left here.kind here.collector.now here.cpu.0 here.number c.in-Some.first
    run.result here.end found.from
    (run_forward here.kind here.collector.now here.cpu.0 c.in-Some.first run.result here.end run.ensures.from
    found.below found.there run.ensures.stop)
    run.ensures.up_to found.first run.ensures.run run.ensures.stop

pub returns-in-Some-clause-goes : goal.returns-in-Some-clause-goes
returns-in-Some-clause-goes c =
    let one = ap length (returns-in-Some-clause-steps c) in
    record { on = λ is_finite. (tt, tt, omega arith); keeps = tt; rests = λ is_finite. tt }
