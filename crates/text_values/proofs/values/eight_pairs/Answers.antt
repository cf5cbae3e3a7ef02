use Rattle.std.proofs.Common.{rules}
use Rattle.text_values.proofs.Hexadecimal.{eight_digits}
use Rattle.text_values.proofs.values.eight_pairs.Goals as goal

pub returns : goal.returns
returns c =
    eight_digits c.args.bytes c.four_pairs.result c.four_pairs-2.result (search rules) c.four_pairs.ensures
    c.four_pairs-2.ensures
