use Rattle.time_merge.proofs.EachCpu.{each_listing}
use Rattle.time_merge.proofs.laws.merged_lines_are_a_listing.Goals as goal

pub returns : goal.returns
returns c parcels records each known sorted = each_listing parcels records each known sorted
