-- What a record that is written at once makes of the writer's part of a ring.
use Rattle.std.specs.Prelude.{ℕ, List, length}
use Rattle.trace_model.specs.Words.{padded}
use Rattle.trace_model.specs.Events.{pushes, steps, ends}
use Rattle.ring_steps.specs.declared.rule.Shape.{Shape}
use Rattle.ring_steps.specs.Views.{Writing}
use Rattle.ring_steps.specs.Notes.{part_after}

-- its frame is pushed, reserves, and ends with this payload
abbrev pub part_after_write : Shape → Writing → ℕ → List ℕ → Writing
part_after_write shape w moment payload =
    part_after shape (part_after shape (part_after shape w (pushes moment (length payload))) steps)
    (ends (padded payload))
