use Rattle.std.proofs.Common.{arith}
use Rattle.trace_script.proofs.PayloadLemmas.{high_in_table}
use Rattle.trace_script.proofs.payload.high_value.Goals as goal

pub returns : goal.returns
returns c = high_in_table c.args.byte (omega arith)
