use Rattle.std.proofs.Common.{map, refl}
use Rattle.command_line.specs.CommandLine.{is_help, is_version}
use Rattle.command_line.proofs.CommandLineExamples.{call_of_replay, call_of_replay_log, call_of_run, call_of_run_log}
use Rattle.command_line.proofs.CommandLineExamples.{call_of_steps, call_of_dump, call_of_dump_log}
use Rattle.command_line.proofs.CommandLineExamples.{call_of_version_and_more, call_of_replay_version}
use Rattle.command_line.proofs.CommandLineLemmas.{parsed_collect}
use Rattle.command_line.proofs.CollectExamples.{asked_collect, asked_cpu, asked_dashes, asked_flags, asked_fields}
use Rattle.command_line.proofs.CollectExamples.{asked_formats, asked_keep, asked_page, asked_parcels, refused_none}
use Rattle.command_line.proofs.CollectExamples.{refused_high, refused_inputs, refused_small}
use Rattle.command_line.proofs.CollectExamples.{asked_follow, asked_tasks, asked_symbols, asked_part, asked_span}
use Rattle.command_line.proofs.CollectExamples.{refused_falling, refused_backwards, refused_empty_pid}
use Rattle.command_line.proofs.CollectExamples.{refused_no_round, refused_follow_since, refused_round}
use Rattle.command_line.proofs.RecoverExamples.{asked_recover, asked_to_keep, refused_no_region, refused_two_inputs}
use Rattle.command_line.proofs.RecoverExamples.{refused_with_page}
use Rattle.command_line.proofs.Ranges.{asked_in_range}
use Rattle.command_line.proofs.parse.call_of.Goals as goal

pub returns-clause-in_range : goal.returns-clause-in_range
returns-clause-in_range g c = λ asked is.
    let words = map g.S.AsStr.text c.args.words.now in
    let parsed =
    parsed_collect words c.read_words.result asked (is_version words) (is_help words) refl refl c.read_words.ensures
    is in
    asked_in_range _ asked parsed.0 parsed.1

pub returns-clause-replay : goal.returns-clause-replay
returns-clause-replay g c = λ first words.
    call_of_replay first c.read_words.result ((rw words at c.read_words.ensures).parsed refl refl)

pub returns-clause-replay_log : goal.returns-clause-replay_log
returns-clause-replay_log g c = λ first words.
    call_of_replay_log first c.read_words.result ((rw words at c.read_words.ensures).parsed refl refl)

pub returns-clause-run : goal.returns-clause-run
returns-clause-run g c = λ first words.
    call_of_run first c.read_words.result ((rw words at c.read_words.ensures).parsed refl refl)

pub returns-clause-run_log : goal.returns-clause-run_log
returns-clause-run_log g c = λ first words.
    call_of_run_log first c.read_words.result ((rw words at c.read_words.ensures).parsed refl refl)

pub returns-clause-steps : goal.returns-clause-steps
returns-clause-steps g c = λ first words.
    call_of_steps first c.read_words.result ((rw words at c.read_words.ensures).parsed refl refl)

pub returns-clause-dump : goal.returns-clause-dump
returns-clause-dump g c = λ first words.
    call_of_dump first c.read_words.result ((rw words at c.read_words.ensures).parsed refl refl)

pub returns-clause-dump_log : goal.returns-clause-dump_log
returns-clause-dump_log g c = λ first words.
    call_of_dump_log first c.read_words.result ((rw words at c.read_words.ensures).parsed refl refl)

pub returns-clause-collect : goal.returns-clause-collect
returns-clause-collect g c = λ first words.
    asked_collect first c.read_words.result ((rw words at c.read_words.ensures).parsed refl refl)

pub returns-clause-collect_cpu : goal.returns-clause-collect_cpu
returns-clause-collect_cpu g c = λ first words.
    asked_cpu first c.read_words.result ((rw words at c.read_words.ensures).parsed refl refl)

pub returns-clause-collect_flags : goal.returns-clause-collect_flags
returns-clause-collect_flags g c = λ first words.
    asked_flags first c.read_words.result ((rw words at c.read_words.ensures).parsed refl refl)

pub returns-clause-collect_fields : goal.returns-clause-collect_fields
returns-clause-collect_fields g c = λ first words.
    asked_fields first c.read_words.result ((rw words at c.read_words.ensures).parsed refl refl)

pub returns-clause-collect_page : goal.returns-clause-collect_page
returns-clause-collect_page g c = λ first words.
    asked_page first c.read_words.result ((rw words at c.read_words.ensures).parsed refl refl)

pub returns-clause-collect_formats : goal.returns-clause-collect_formats
returns-clause-collect_formats g c = λ first words.
    asked_formats first c.read_words.result ((rw words at c.read_words.ensures).parsed refl refl)

pub returns-clause-collect_keep : goal.returns-clause-collect_keep
returns-clause-collect_keep g c = λ first words.
    asked_keep first c.read_words.result ((rw words at c.read_words.ensures).parsed refl refl)

pub returns-clause-collect_parcels : goal.returns-clause-collect_parcels
returns-clause-collect_parcels g c = λ first words.
    asked_parcels first c.read_words.result ((rw words at c.read_words.ensures).parsed refl refl)

pub returns-clause-collect_none : goal.returns-clause-collect_none
returns-clause-collect_none g c = λ first words.
    refused_none first c.read_words.result ((rw words at c.read_words.ensures).parsed refl refl)

pub returns-clause-collect_high : goal.returns-clause-collect_high
returns-clause-collect_high g c = λ first words.
    refused_high first c.read_words.result ((rw words at c.read_words.ensures).parsed refl refl)

pub returns-clause-collect_small : goal.returns-clause-collect_small
returns-clause-collect_small g c = λ first words.
    refused_small first c.read_words.result ((rw words at c.read_words.ensures).parsed refl refl)

pub returns-clause-collect_inputs : goal.returns-clause-collect_inputs
returns-clause-collect_inputs g c = λ first words.
    refused_inputs first c.read_words.result ((rw words at c.read_words.ensures).parsed refl refl)

pub returns-clause-recover : goal.returns-clause-recover
returns-clause-recover g c = λ first words.
    asked_recover first c.read_words.result ((rw words at c.read_words.ensures).parsed refl refl)

pub returns-clause-recover_keep : goal.returns-clause-recover_keep
returns-clause-recover_keep g c = λ first words.
    asked_to_keep first c.read_words.result ((rw words at c.read_words.ensures).parsed refl refl)

pub returns-clause-recover_none : goal.returns-clause-recover_none
returns-clause-recover_none g c = λ first words.
    refused_no_region first c.read_words.result ((rw words at c.read_words.ensures).parsed refl refl)

pub returns-clause-recover_inputs : goal.returns-clause-recover_inputs
returns-clause-recover_inputs g c = λ first words.
    refused_two_inputs first c.read_words.result ((rw words at c.read_words.ensures).parsed refl refl)

pub returns-clause-recover_page : goal.returns-clause-recover_page
returns-clause-recover_page g c = λ first words.
    refused_with_page first c.read_words.result ((rw words at c.read_words.ensures).parsed refl refl)

pub returns-clause-version : goal.returns-clause-version
returns-clause-version g c = λ first words. (rw words at c.read_words.ensures).version refl

pub returns-clause-version_and_more : goal.returns-clause-version_and_more
returns-clause-version_and_more g c = λ first words.
    call_of_version_and_more first c.read_words.result ((rw words at c.read_words.ensures).parsed refl refl)

pub returns-clause-replay_version : goal.returns-clause-replay_version
returns-clause-replay_version g c = λ first words.
    call_of_replay_version first c.read_words.result ((rw words at c.read_words.ensures).parsed refl refl)

pub returns-clause-collect_dashes : goal.returns-clause-collect_dashes
returns-clause-collect_dashes g c = λ first words.
    asked_dashes first c.read_words.result ((rw words at c.read_words.ensures).parsed refl refl)

pub returns-clause-help : goal.returns-clause-help
returns-clause-help g c = λ first words. (rw words at c.read_words.ensures).help refl

pub returns-clause-help_short : goal.returns-clause-help_short
returns-clause-help_short g c = λ first words. (rw words at c.read_words.ensures).help refl

pub returns-clause-help_of_collect : goal.returns-clause-help_of_collect
returns-clause-help_of_collect g c = λ first words. (rw words at c.read_words.ensures).help refl

pub returns-clause-help_and_more : goal.returns-clause-help_and_more
returns-clause-help_and_more g c = λ first words. (rw words at c.read_words.ensures).help refl

pub returns-clause-help_word : goal.returns-clause-help_word
returns-clause-help_word g c = λ first words. (rw words at c.read_words.ensures).help refl

pub returns-clause-version_and_help : goal.returns-clause-version_and_help
returns-clause-version_and_help g c = λ first words. (rw words at c.read_words.ensures).help refl

pub returns-clause-collect_tasks : goal.returns-clause-collect_tasks
returns-clause-collect_tasks g c = λ first words.
    asked_tasks first c.read_words.result ((rw words at c.read_words.ensures).parsed refl refl)

pub returns-clause-collect_symbols : goal.returns-clause-collect_symbols
returns-clause-collect_symbols g c = λ first words.
    asked_symbols first c.read_words.result ((rw words at c.read_words.ensures).parsed refl refl)

pub returns-clause-collect_part : goal.returns-clause-collect_part
returns-clause-collect_part g c = λ first words.
    asked_part first c.read_words.result ((rw words at c.read_words.ensures).parsed refl refl)

pub returns-clause-collect_span : goal.returns-clause-collect_span
returns-clause-collect_span g c = λ first words.
    asked_span first c.read_words.result ((rw words at c.read_words.ensures).parsed refl refl)

pub returns-clause-collect_falling : goal.returns-clause-collect_falling
returns-clause-collect_falling g c = λ first words.
    refused_falling first c.read_words.result ((rw words at c.read_words.ensures).parsed refl refl)

pub returns-clause-collect_backwards : goal.returns-clause-collect_backwards
returns-clause-collect_backwards g c = λ first words.
    refused_backwards first c.read_words.result ((rw words at c.read_words.ensures).parsed refl refl)

pub returns-clause-collect_empty_pid : goal.returns-clause-collect_empty_pid
returns-clause-collect_empty_pid g c = λ first words.
    refused_empty_pid first c.read_words.result ((rw words at c.read_words.ensures).parsed refl refl)

pub returns-clause-collect_follow : goal.returns-clause-collect_follow
returns-clause-collect_follow g c = λ first words.
    asked_follow first c.read_words.result ((rw words at c.read_words.ensures).parsed refl refl)

pub returns-clause-collect_no_round : goal.returns-clause-collect_no_round
returns-clause-collect_no_round g c = λ first words.
    refused_no_round first c.read_words.result ((rw words at c.read_words.ensures).parsed refl refl)

pub returns-clause-collect_follow_since : goal.returns-clause-collect_follow_since
returns-clause-collect_follow_since g c = λ first words.
    refused_follow_since first c.read_words.result ((rw words at c.read_words.ensures).parsed refl refl)

pub returns-clause-collect_round : goal.returns-clause-collect_round
returns-clause-collect_round g c = λ first words.
    refused_round first c.read_words.result ((rw words at c.read_words.ensures).parsed refl refl)
