use Rattle.std.proofs.Common.{ap, ◌∙◌}
use Rattle.clap.specs.Words.{found_of}
use Rattle.clap.proofs.WalkLemmas.{first_value-rows}
use Rattle.command_line.specs.FileWords.{number_word}
use Rattle.command_line.proofs.collect.matched_number.Goals as goal

pub returns : goal.returns
returns c =
    c.number_said.ensures
    ∙ ap (number_word c.args.low c.args.high)
    (c.get_str.ensures ∙ first_value-rows (found_of c.args.found.now) c.args.name.now)
