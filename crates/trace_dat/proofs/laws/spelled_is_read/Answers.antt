use Rattle.std.proofs.Common.{inl, inr}
use Rattle.trace_dat.proofs.SixRead.{six_is_read}
use Rattle.trace_dat.proofs.SevenRead.{seven_is_read}
use Rattle.trace_dat.proofs.laws.spelled_is_read.Goals as goal

pub returns : goal.returns
returns c = λ file contents spelled.
    elim spelled [ inl six ↦ six_is_read file contents six | inr seven ↦ seven_is_read file contents seven ]
