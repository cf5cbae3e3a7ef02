use Rattle.std.proofs.Common.{◌≡◌, [], length, map}
use Rattle.event_fields.specs.Texts.{parts_of}
use Rattle.kernel_names.specs.Entries.{entry_seen, entries_after}
use Rattle.kernel_names.proofs.entries.read_entries.Given as goal

abbrev pub invariant-loop-part : goal.invariant-loop-part
invariant-loop-part l =
    entries_after (map entry_seen l.entries.items) (parts_of 125 l.left) ≡ entries_after [] (parts_of 125 l.text)

abbrev pub decreases-loop-part : goal.decreases-loop-part
decreases-loop-part l = length l.left
