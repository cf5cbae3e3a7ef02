use Rattle.std.proofs.lemmas.Result.{err_from_is_err_and}
use Rattle.trace_script.specs.declared.fault.ScriptFault.TheVariants.{NoMemory}
use Rattle.trace_script.proofs.ScriptLemmas.{same_fault, begins_there, read_within}
use Rattle.trace_script.proofs.read.script_from.Goals as goal

pub returns-in_err-commands-clause-memory : goal.returns-in_err-commands-clause-memory
returns-in_err-commands-clause-memory c = λ refused.
    let p = err_from_is_err_and c.from_residual-in_err-commands.result c.from_residual-in_err-commands.ensures.1 in
    begins_there c.args.text.now _ _ _ c.in_ok-header.header _ c.in_ok-start.start _ c.of-lines.ensures.passed
    c.of-lines.ensures.rest c.in_ok-header.ensures.gives c.in_ok-start.ensures.gives
    (c.in_err-commands.ensures.memory
    (same_fault c.from_residual-in_err-commands.result p.0 c.in_err-commands.field-0.0 NoMemory p.1 p.2 refused))

pub of-requires : goal.of-requires
of-requires c =
    read_within c.args.text.now _ _ c.in_ok-header.header _ c.in_ok-start.start _ c.in_ok-commands.commands
    c.of-lines.ensures.passed c.of-lines.ensures.rest c.in_ok-header.ensures.gives c.in_ok-start.ensures.gives
    c.in_ok-commands.ensures.gives
