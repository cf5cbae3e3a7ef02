use Rattle.std.proofs.Common.{sym, ◌∙◌, rules}
use Rattle.clap.specs.Words.{found_of, subcommand_rows_of}
use Rattle.command_line.proofs.CommandLineLemmas.{flag_found}
use Rattle.command_line.proofs.parse.call_of_matches.Goals as goal

pub returns-in-Some-clause-log : goal.returns-in-Some-clause-log
returns-in-Some-clause-log c = λ flag wrong.
    let found = flag_found (subcommand_rows_of c.args.matches.now) (found_of c.in-Some.found.now) (search rules) in
    let reported = c.get_flag-log.ensures.value (sym found ∙ flag) in
    cc

pub returns-in-Some-clause-no_log : goal.returns-in-Some-clause-no_log
returns-in-Some-clause-no_log c = λ flag wrong.
    let found = flag_found (subcommand_rows_of c.args.matches.now) (found_of c.in-Some.found.now) (search rules) in
    let reported = c.get_flag-log.ensures.other (sym found ∙ flag) in
    cc
