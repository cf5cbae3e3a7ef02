use Rattle.ring_steps.proofs.Starts.{starts}
use Rattle.ring_steps.proofs.making.table.Goals as goal

pub new-requires : goal.new-requires
new-requires c =
    starts c.args.shape c.requires _ (search Rattle.std.proofs.Common.rules) _ (search Rattle.std.proofs.Common.rules)
