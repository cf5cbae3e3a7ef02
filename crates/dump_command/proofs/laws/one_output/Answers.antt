use Rattle.dump_command.proofs.OneDump.{one_dump}
use Rattle.dump_command.proofs.laws.one_output.Goals as goal

pub returns : goal.returns
returns c = one_dump
