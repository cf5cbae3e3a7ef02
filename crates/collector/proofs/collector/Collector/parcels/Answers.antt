use Rattle.std.proofs.Common.{subst}
use Rattle.trace_model.specs.Collection.{Agree}
use Rattle.page_numbers.specs.Parcels.{as_parcels}
use Rattle.collector.specs.Sound.{AreSound}
use Rattle.collector.proofs.Indexing.{indexed_agree}
use Rattle.collector.proofs.collector.Collector.parcels.Goals as goal

pub returns-clause-agree : goal.returns-clause-agree
returns-clause-agree c =
    subst Agree c.self.view_is
    (indexed_agree (as_parcels c.self.inside.parcels.items) c.self.inside.index c.self.invariant)

pub returns-clause-sound : goal.returns-clause-sound
returns-clause-sound c = subst AreSound c.self.view_is c.self.invariant.sound
