use Rattle.std.proofs.Common.{arith}
use Rattle.record_words.proofs.Copies.{empty_puts}
use Rattle.record_words.proofs.copy.copy_two.Goals as goal

pub returns-else-len-gt0 : goal.returns-else-len-gt0
returns-else-len-gt0 c = empty_puts c.args.out.now c.args.payload.now (omega arith)
