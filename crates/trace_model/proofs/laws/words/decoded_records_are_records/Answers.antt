use Rattle.trace_model.proofs.histories.RecordsFill.{Decodes-IsRecord}
use Rattle.trace_model.proofs.laws.words.decoded_records_are_records.Goals as goal

pub returns : goal.returns
returns c = Decodes-IsRecord
