use Rattle.std.proofs.Common.{◌+◌, arith}
use Rattle.trace_script.proofs.PayloadLemmas.{pair_fits, pair_is_byte}
use Rattle.trace_script.proofs.payload.pair_value.Goals as goal

pub returns-clause-small : goal.returns-clause-small
returns-clause-small c = omega (arith, c.high_value.ensures, c.low_value.ensures, pair_fits c.args.high c.args.low)

pub returns-clause-byte : goal.returns-clause-byte
returns-clause-byte c =
    λ small.
    pair_is_byte c.args.high c.args.low (c.high_value.result + c.low_value.result)
    (omega (arith, c.high_value.ensures, c.low_value.ensures)) small
