use Rattle.trace_model.proofs.collections.Genuine.{has_of_records, misses_of_records, genuine_agree}
use Rattle.trace_model.proofs.laws.partitions.genuine_parcels_agree.Goals as goal

pub returns : goal.returns
returns c = record { has = has_of_records; misses = misses_of_records; agree = genuine_agree }
