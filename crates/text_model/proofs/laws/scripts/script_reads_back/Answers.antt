use Rattle.text_model.proofs.ScriptWrites.{script_text_reads}
use Rattle.text_model.proofs.laws.scripts.script_reads_back.Goals as goal

pub returns : goal.returns
returns c script commands within numbers = script_text_reads script commands within numbers
