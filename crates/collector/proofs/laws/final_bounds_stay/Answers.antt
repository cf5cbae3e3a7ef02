use Rattle.collector.proofs.Known.{final_stays, final_joined, records_below, missing_below}
use Rattle.collector.proofs.laws.final_bounds_stay.Goals as goal

pub returns : goal.returns
returns c = record {
  stays = final_stays;
  joined = final_joined;
  records_below = records_below;
  missing_below = missing_below;
}
