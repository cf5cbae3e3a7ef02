use Rattle.replay_command.proofs.Printed.{printing}
use Rattle.replay_command.proofs.command.print_replay.Goals as goal

pub returns : goal.returns
returns c = printing _ _ _ _ _ c.in_ok-world.ensures c.in_ok-text.ensures
