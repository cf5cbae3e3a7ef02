use Rattle.trace_model.proofs.histories.CommittedWritten.{reserved-FillsSlot}
use Rattle.trace_model.proofs.laws.histories.reserved_records_fill_slots.Goals as goal

pub returns : goal.returns
returns c = record { fill = reserved-FillsSlot }
