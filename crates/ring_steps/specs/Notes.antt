-- What the writer does in private between its steps on words, as it is noted; and what its steps on the words of counts
-- and of the wish make of its part.
use Rattle.std.specs.Prelude.{◌≡◌, ℕ, List, [], ◌∷◌, length, Some, None}
use Rattle.trace_model.specs.Words.{slot_len}
use Rattle.trace_model.specs.Links.{normal_link}
use Rattle.trace_model.specs.Frames.{Purpose, for_record, for_close, Progress, waiting, reserved, left, Frame}
use Rattle.trace_model.specs.Ring.{Core, first_reader}
use Rattle.trace_model.specs.Events.{Event, steps, Outcome}
use Rattle.trace_model.specs.Steps.{step_of}
use Rattle.ring_steps.specs.declared.rule.Shape.{Shape}
use Rattle.ring_steps.specs.Views.{Writing, writing_of, writing_after}

-- a state with this as the writer's part, and nothing else
abbrev pub alone : Writing → Core
alone w = record {
  links = [];
  spare_link = normal_link 0 0;
  done = w.done;
  opened = w.opened;
  wish = 0;
  head = 0;
  held = [];
  frames = w.frames;
  open_pages = w.open_pages;
  history = w.history;
  order = [];
  spare = 0;
  reader = first_reader 0;
}

abbrev pub part_of : Writing → Event → Outcome → Writing
part_of w event None = w
part_of w event (Some outcome) =
    writing_after w.made record { event = event; answer = outcome.0 } (writing_of [] outcome.1)

-- The writer's part after an event that finds nothing in a word: a private one, or a store of a count. It is a function
-- of the part alone.
abbrev pub part_after : Shape → Writing → Event → Writing
part_after shape w event = part_of w event (step_of shape.pages shape.size (alone w) event)

-- and after a load of the reader's wish, by what was found
abbrev pub part_after_wish : Shape → Writing → (wish : ℕ) → Writing
part_after_wish shape w wish = part_of w steps (step_of shape.pages shape.size (record (alone w) { wish = wish }) steps)

-- the payload takes exactly the slot that the frame on top was given, if that has reserved a record
abbrev pub FillsSlotOf : Purpose → Progress → List ℕ → Type 0
FillsSlotOf (for_record moment len) (reserved number) payload = slot_len (length payload) ≡ slot_len len
FillsSlotOf (for_record moment len) waiting payload = Unit {0}
FillsSlotOf (for_record moment len) left payload = Unit {0}
FillsSlotOf for_close state payload = Unit {0}

abbrev pub FillsTopSlot : List Frame → List ℕ → Type 0
FillsTopSlot [] payload = Unit {0}
FillsTopSlot (frame ∷ below) payload = FillsSlotOf frame.kind frame.state payload
