use Rattle.trace_script.proofs.UsualLemmas.{usual_of_cpu}
use Rattle.trace_script.proofs.usual.usual_line.Goals as goal

pub returns-in-Some : goal.returns-in-Some
returns-in-Some c =
    usual_of_cpu c.args.cpus c.args.collectors c.args.text.now _ _ c.in-Some.cpu _ c.in-Some.ensures
    c.line_of_cpu.ensures
