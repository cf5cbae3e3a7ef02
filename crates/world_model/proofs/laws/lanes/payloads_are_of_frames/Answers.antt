use Rattle.world_model.proofs.LanePayloads.{new_fits, line_fits, as_many, may_ask}
use Rattle.world_model.proofs.laws.lanes.payloads_are_of_frames.Goals as goal

pub returns : goal.returns
returns c = record {
  new = new_fits;
  kept = λ n size command before after xs fit run. line_fits n size command before after xs fit run;
  as_many = λ lane fit. as_many lane.core.frames lane.payloads fit;
  may_ask = may_ask;
}
