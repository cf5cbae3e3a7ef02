use Rattle.text_model.proofs.TextLemmas.{decimal_in-decimal}
use Rattle.text_model.proofs.laws.texts.number_reads_back.Goals as goal

pub returns : goal.returns
returns c n small = decimal_in-decimal n small
