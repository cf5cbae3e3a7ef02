use Rattle.std.proofs.Common.{sym, subst}
use Rattle.text_model.proofs.ScriptReads.{script_in_by_lines}
use Rattle.trace_script.specs.ScriptFaults.{GivesAt}
use Rattle.trace_script.proofs.ScriptLemmas.{script_found, fault_found}
use Rattle.trace_script.proofs.read.read_script.Goals as goal

pub returns-clause-reading : goal.returns-clause-reading
returns-clause-reading c =
    subst (GivesAt (λ s. s) c.script_from.result) (sym (script_in_by_lines c.args.text.now)) c.script_from.ensures.gives

pub returns-clause-script : goal.returns-clause-script
returns-clause-script c = script_found c.args.text.now c.script_from.result c.script_from.ensures.gives

pub returns-clause-fault : goal.returns-clause-fault
returns-clause-fault c =
    fault_found c.args.text.now c.script_from.result c.script_from.ensures.gives c.script_from.ensures.memory
