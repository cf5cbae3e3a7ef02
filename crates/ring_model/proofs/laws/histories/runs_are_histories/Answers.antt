use Rattle.ring_model.proofs.laws.histories.runs_are_histories.Goals as goal

pub returns : goal.returns
returns c = record { histories = λ n size start core r. r.history.allowed }
