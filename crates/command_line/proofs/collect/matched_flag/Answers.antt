use Rattle.std.proofs.Common.{◌∙◌}
use Rattle.clap.specs.Words.{found_of}
use Rattle.clap.proofs.WalkLemmas.{one_text-rows}
use Rattle.command_line.proofs.collect.matched_flag.Goals as goal

pub returns-clause-given : goal.returns-clause-given
returns-clause-given c =
    λ given. c.get_flag.ensures.value (one_text-rows (found_of c.args.found.now) c.args.name.now ∙ given)

pub returns-clause-not_given : goal.returns-clause-not_given
returns-clause-not_given c =
    λ given. c.get_flag.ensures.other (one_text-rows (found_of c.args.found.now) c.args.name.now ∙ given)
