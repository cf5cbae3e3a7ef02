use Rattle.std.proofs.Common.{sym, ◌∙◌, map}
use Rattle.kernel_names.specs.Entries.{entry_seen}
use Rattle.kernel_names.proofs.EntryLemmas.{table_ends}
use Rattle.kernel_names.proofs.entries.read_entries.Goals as goal

pub returns-then-ends_table : goal.returns-then-ends_table
returns-then-ends_table c =
    sym (table_ends (map entry_seen c.loop-part.entries.items) c.loop-part.left.now c.part_cut.result.0.now
    c.part_cut.result.1 c.part_cut.ensures.parts (sym c.ends_table.ensures ∙ c.if-ends_table.true))
    ∙ c.loop-part.invariant
