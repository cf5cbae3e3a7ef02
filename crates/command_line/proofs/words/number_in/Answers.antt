use Rattle.std.proofs.Common.{rules, sym, ◌∙◌}
use Rattle.command_line.proofs.NumberWords.{refused}
use Rattle.command_line.proofs.words.number_in.Goals as goal

pub returns-in-Err : goal.returns-in-Err
returns-in-Err c =
    refused 32 c.args.low c.args.high c.args.text.now c.parse.result c.in-Err.field-0 c.parse.ensures.value.0
    (sym c.is_number.ensures ∙ c.if-not-is_number.false) c.in-Err.is (search rules)
