use Rattle.trace_model.proofs.laws.words.plain_reader_agrees.Goals as goal
use Rattle.trace_model.proofs.words.Unique.{records_in-Decodes}

pub returns : goal.returns
returns c = record { agrees = records_in-Decodes }
