use Rattle.world_model.proofs.DeliveredLines.{delivered_by_lines}
use Rattle.world_model.proofs.laws.worlds.deliveries_are_of_lines.Goals as goal

pub returns : goal.returns
returns c = delivered_by_lines
