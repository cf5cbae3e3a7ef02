use Rattle.std.proofs.Common.{arith}
use Rattle.std.proofs.lemmas.Option.{slice_get_within}
use Rattle.time_merge.proofs.Counts.{all_of_cpu}
use Rattle.time_merge.proofs.lines.only_cpu.Goals as goal

pub returns : goal.returns
returns c = all_of_cpu c.args.parcels.now c.cpu-cpu.result.0 (λ k parcel at.
    let within = slice_get_within c.args.parcels.now k parcel at in
    c.loop-parcel.invariant k parcel (omega arith) at)
