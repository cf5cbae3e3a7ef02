use Rattle.collect_command.proofs.PagedWhole.{cpus_rise, whole_of}
use Rattle.collect_command.proofs.laws.sources_that_have_ended_have_read_raw_files.Goals as goal

pub returns-clause-whole : goal.returns-clause-whole
returns-clause-whole g c size inputs sources news lists large opened going pass none ended =
    whole_of g.R.Source.remaining g.R.Source.failed size large inputs sources lists news opened going pass none ended

pub returns-clause-rising : goal.returns-clause-rising
returns-clause-rising g c low sources raws are rise = cpus_rise low sources raws are rise
