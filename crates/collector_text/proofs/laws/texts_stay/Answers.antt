use Rattle.std.proofs.Common.{◌++◌, refl}
use Rattle.collector_text.proofs.Shown.{stands_kept}
use Rattle.collector_text.proofs.laws.texts_stay.Goals as goal

pub returns : goal.returns
returns c = λ parcels text more start end stands. stands_kept parcels text more (text ++ more) start end refl stands
