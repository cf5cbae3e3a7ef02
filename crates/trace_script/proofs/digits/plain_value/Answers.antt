use Rattle.std.proofs.Common.{rules, arith}
use Rattle.trace_script.proofs.DigitLemmas.{without_32}
use Rattle.trace_script.proofs.digits.plain_value.Goals as goal

pub returns-clause-digit : goal.returns-clause-digit
returns-clause-digit c = let masked = without_32 c.args.byte (omega arith) in search rules

pub returns-clause-other : goal.returns-clause-other
returns-clause-other c = let masked = without_32 c.args.byte (omega arith) in search rules
