use Rattle.std.proofs.Common.{arith}
use Rattle.trace_script.proofs.PayloadLemmas.{low_in_table}
use Rattle.trace_script.proofs.payload.low_value.Goals as goal

pub returns : goal.returns
returns c = low_in_table c.args.byte (omega arith)
