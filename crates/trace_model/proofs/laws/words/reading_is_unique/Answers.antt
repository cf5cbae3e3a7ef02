use Rattle.trace_model.proofs.laws.words.reading_is_unique.Goals as goal
use Rattle.trace_model.proofs.words.Unique.{Decodes-unique}

pub returns : goal.returns
returns c = record { unique = Decodes-unique }
