use Rattle.trace_model.proofs.collections.Collections.{same_parcels}
use Rattle.world_model.proofs.GenuineWorlds.{taken_agree, collectors_join}
use Rattle.world_model.proofs.laws.worlds.collectors_join.Goals as goal

pub returns : goal.returns
returns c = record {
  agree = taken_agree;
  join = collectors_join;
  same = λ script w one other parcels others g at at_other same. same_parcels parcels others same;
}
