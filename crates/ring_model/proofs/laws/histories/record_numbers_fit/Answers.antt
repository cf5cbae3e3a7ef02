use Rattle.ring_model.proofs.contents.RecordCounts.{records_few, numbers_fit}
use Rattle.ring_model.proofs.laws.histories.record_numbers_fit.Goals as goal

pub returns : goal.returns
returns c = record { few = records_few; fit = numbers_fit }
