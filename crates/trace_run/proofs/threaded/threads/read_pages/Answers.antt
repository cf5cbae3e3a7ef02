use Rattle.trace_run.specs.declared.threaded.sharing.Passing.{Passing}
use Rattle.trace_run.proofs.ReaderSteps.{gate_behind}
use Rattle.trace_run.proofs.threaded.threads.read_pages.Goals as goal

pub returns : goal.returns
returns g c =
    gate_behind g.G.Gate.answers (λ (passing : Passing g.row.G.Denot). passing.gate.now) _ c.args.cpu.0 c.args.end
    c.take_pages.result
    c.take_pages.ensures
