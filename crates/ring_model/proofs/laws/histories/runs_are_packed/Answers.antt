use Rattle.ring_model.proofs.contents.PackedRuns.{runs_packed}
use Rattle.ring_model.proofs.contents.TakenHoldRecords.{taken_hold}
use Rattle.ring_model.proofs.laws.histories.runs_are_packed.Goals as goal

pub returns : goal.returns
returns c = record { packed = runs_packed; taken = taken_hold }
