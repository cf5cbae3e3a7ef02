use Rattle.std.proofs.Common.{◌≡◌, ◌+◌, length, map}
use Rattle.event_fields.specs.Lines.{field_seen}
use Rattle.event_fields.specs.Fields.{fields_after, field_lines_at, fields_of}
use Rattle.event_fields.proofs.fields.read_fields.Given as goal

abbrev pub invariant-loop-line : goal.invariant-loop-line
invariant-loop-line l = record {
  reading : fields_after (map field_seen l.fields.items) (field_lines_at l.at l.left) ≡ fields_of l.format;
  within : l.at + length l.left ≡ length l.format;
}

abbrev pub decreases-loop-line : goal.decreases-loop-line
decreases-loop-line l = length l.left
