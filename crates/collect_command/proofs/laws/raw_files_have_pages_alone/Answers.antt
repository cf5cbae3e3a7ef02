use Rattle.collect_command.proofs.PagedWhole.{plain_counters, plain_formats, plain_instances, plain_others, plain_parts}
use Rattle.collect_command.proofs.PagedWhole.{plain_cuts, plain_symbols, plain_tasks}
use Rattle.collect_command.proofs.laws.raw_files_have_pages_alone.Goals as goal

pub returns-clause-parts : goal.returns-clause-parts
returns-clause-parts c size raws are = plain_parts size raws are

pub returns-clause-formats : goal.returns-clause-formats
returns-clause-formats c size raws are = plain_formats size raws are

pub returns-clause-others : goal.returns-clause-others
returns-clause-others c size raws are = (plain_others size raws are, plain_instances size raws are)

pub returns-clause-names : goal.returns-clause-names
returns-clause-names c size raws are = (plain_tasks size raws are, plain_symbols size raws are)

pub returns-clause-counters : goal.returns-clause-counters
returns-clause-counters c size raws are cpu = plain_counters size raws are cpu

pub returns-clause-cuts : goal.returns-clause-cuts
returns-clause-cuts c size raws are = plain_cuts size 0 raws are
