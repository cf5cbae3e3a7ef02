use Rattle.text_model.proofs.ScriptReads.{script_reads}
use Rattle.text_model.proofs.laws.scripts.script_is_read.Goals as goal

pub returns : goal.returns
returns c text script = script_reads text script
