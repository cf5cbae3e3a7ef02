-- Which fields are shown, and which numbers they have.
use Rattle.std.specs.Prelude.{Bool, not, codes, nat_eq}
use Rattle.std.specs.List.{starts_with}
use Rattle.event_fields.specs.declared.field.Kind.{Kind}
use Rattle.event_fields.specs.declared.field.Kind.TheVariants as kinds
use Rattle.event_fields.specs.declared.field.NumberKind.{NumberKind}
use Rattle.event_fields.specs.declared.field.NumberKind.TheVariants.{Unsigned}
use Rattle.event_fields.specs.Lines.{EventField}

-- which numbers those of a field are, if it has any
abbrev pub numbers_of_kind : Kind → NumberKind
numbers_of_kind (kinds.Number kind) = kind
numbers_of_kind (kinds.Numbers kind size) = kind
numbers_of_kind kinds.Text = Unsigned
numbers_of_kind kinds.Bytes = Unsigned

-- whether a field is shown: not if every event has it
unfoldable pub is_shown : EventField → Bool
is_shown field = not (starts_with nat_eq field.name (codes "common_"))
