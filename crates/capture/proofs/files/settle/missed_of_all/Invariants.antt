use Rattle.std.proofs.Common.{◌≡◌, take}
use Rattle.capture.specs.files.Losses.{missed_in}
use Rattle.capture.proofs.files.settle.missed_of_all.Given as goal

abbrev pub invariant-loop-parcel : goal.invariant-loop-parcel
invariant-loop-parcel l = l.total ≡ missed_in (take l.parcel-index l.parcels)
