use Rattle.trace_model.proofs.packing.FullFills.{packed_full}
use Rattle.trace_model.proofs.laws.packings.packed_fills_hold_records.Goals as goal

pub returns : goal.returns
returns c = record { full = packed_full }
