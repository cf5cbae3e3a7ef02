use Rattle.text_model.proofs.ScriptWrites.{command_in-command_text}
use Rattle.text_model.proofs.laws.scripts.command_reads_back.Goals as goal

pub returns : goal.returns
returns c cpus collectors command few_cpus few_collectors h =
    command_in-command_text cpus collectors command few_cpus few_collectors h
