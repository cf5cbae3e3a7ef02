use Rattle.std.proofs.Common.{◌∙◌}
use Rattle.trace_run.proofs.LastStates.{is_ran, are_passed}
use Rattle.trace_run.proofs.threaded.running.run_with.Goals as goal

pub returns-clause-ran : goal.returns-clause-ran
returns-clause-ran g c =
    let ledgers = c.in_ok-ledgers.ensures in
    is_ran g.G.Gate.answers c.args.gate.now c.args.script.now _ ledgers.ledgers
    (c.in_ok-collectors.ensures.count ∙ ledgers.collectors) ledgers.cpus

pub returns-clause-passed : goal.returns-clause-passed
returns-clause-passed g c =
    are_passed g.G.Gate.answers c.args.gate.now c.args.script.now
    record { collectors = c.in_ok-collectors.collectors; ledgers = c.in_ok-ledgers.ledgers }
    c.in_ok-ledgers.ensures.ledgers
