use Rattle.std.proofs.Common.{rules}
use Rattle.text_values.proofs.Hexadecimal.{sixteen_digits}
use Rattle.text_values.proofs.values.sixteen_pairs.Goals as goal

pub returns : goal.returns
returns c =
    sixteen_digits c.args.bytes.now c.plain_four.result c.plain_four-2.result c.plain_four-3.result
    c.plain_four-4.result (search rules) c.plain_four.ensures c.plain_four-2.ensures c.plain_four-3.ensures
    c.plain_four-4.ensures
