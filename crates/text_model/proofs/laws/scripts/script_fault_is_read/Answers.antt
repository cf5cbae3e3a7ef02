use Rattle.text_model.proofs.ScriptReads.{fault_reads}
use Rattle.text_model.proofs.laws.scripts.script_fault_is_read.Goals as goal

pub returns : goal.returns
returns c text number fault = fault_reads text number fault
