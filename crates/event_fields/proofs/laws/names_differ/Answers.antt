use Rattle.event_fields.proofs.FieldNames.{names_of_format}
use Rattle.event_fields.proofs.laws.names_differ.Goals as goal

pub returns : goal.returns
returns c = λ format fields read. names_of_format format fields read
