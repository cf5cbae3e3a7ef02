use Rattle.trace_model.proofs.laws.words.encodings_read_back.Goals as goal
use Rattle.trace_model.proofs.words.ReadBack.{Decodes-page_encoding}

pub returns : goal.returns
returns c = record { read_back = Decodes-page_encoding }
