use Rattle.std.specs.Prelude.{◌≡◌, ◌+◌, ◌≤◌, length}
use Rattle.link_marks.specs.FirstLinks.{EachAt}
use Rattle.ring_steps.specs.NewRings.{IsFirstSlot}
use Rattle.ring_steps.proofs.laying.first_slots.Given as goal

abbrev pub invariant-loop-page : goal.invariant-loop-page
invariant-loop-page l = record {
  pushed : length l.slots.items ≡ l.page;
  room : l.page-end + 1 ≤ l.slots.cap;
  each : EachAt (IsFirstSlot l.shape) l.slots.items;
}
