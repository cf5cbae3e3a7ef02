use Rattle.std.proofs.Common.{◌≡◌, drop, map}
use Rattle.trace_dat.specs.Fields.{with_list, each_of}
use Rattle.trace_dat.specs.Contents.{format_seen}
use Rattle.trace_dat.specs.Entries.{option_seen}
use Rattle.trace_dat.specs.Sections.{formats_of}
use Rattle.trace_dat.proofs.sections.formats.Given as goal

abbrev pub invariant-loop-option : goal.invariant-loop-option
invariant-loop-option l =
    with_list (map format_seen l.formats.items)
    (each_of (formats_of l.file) (map option_seen (drop l.option-index l.options)))
    ≡ each_of (formats_of l.file) (map option_seen l.options)
