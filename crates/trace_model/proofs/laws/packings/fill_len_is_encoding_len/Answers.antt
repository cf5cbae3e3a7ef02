use Rattle.trace_model.proofs.laws.packings.fill_len_is_encoding_len.Goals as goal
use Rattle.trace_model.proofs.words.FillLengths.{length-page_encoding}

pub returns : goal.returns
returns c = record { reckoned = length-page_encoding }
