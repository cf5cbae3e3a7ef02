use Rattle.std.proofs.Common.{arith}
use Rattle.text_values.proofs.Hexadecimal.{pair_in_table}
use Rattle.text_values.proofs.values.pair.Goals as goal

pub returns : goal.returns
returns c = pair_in_table c.args.byte _ (omega arith)
