use Rattle.std.proofs.Common.{◌≡◌}
use Rattle.live_listing.specs.Gaps.{gap_seen}
use Rattle.live_listing.specs.Pages.{KeepsPages, AreLinesOf, records_behind, lost_behind}
use Rattle.page_lines.proofs.Values.{values}
use Rattle.live_listing.proofs.pages.CpuPages.read_records.Given as goal

abbrev pub invariant-loop-entry : goal.invariant-loop-entry
invariant-loop-entry l =
    KeepsPages l.initial.self l.self
    × AreLinesOf l.initial.self.cpu.0 l.lines.items (records_behind (gap_seen l.initial.self.gap) (values l.yielded))
    × (gap_seen l.self.gap ≡ lost_behind (gap_seen l.initial.self.gap) (values l.yielded))
