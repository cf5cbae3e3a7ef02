use Rattle.collect_command.proofs.RawTexts.{captures_count, damaged_same, intact_same, pages_same, runs_same, sums_none}
use Rattle.collect_command.proofs.RawTexts.{unknown_same}
use Rattle.collect_command.proofs.laws.raw_files_print_as_captures.Goals as goal

pub returns-clause-runs : goal.returns-clause-runs
returns-clause-runs c form bounds raws rise = runs_same form bounds raws rise

pub returns-clause-unknown : goal.returns-clause-unknown
returns-clause-unknown c form bounds raws rise = unknown_same form bounds raws rise

pub returns-clause-damaged : goal.returns-clause-damaged
returns-clause-damaged c form bounds size raws rise = damaged_same form bounds size raws rise

pub returns-clause-sums : goal.returns-clause-sums
returns-clause-sums c form selected runs cpu captures = sums_none form selected runs cpu captures

pub returns-clause-intact : goal.returns-clause-intact
returns-clause-intact c raws rise = intact_same raws rise

pub returns-clause-pages : goal.returns-clause-pages
returns-clause-pages c size raws rise are = (captures_count raws, pages_same size raws rise are)
