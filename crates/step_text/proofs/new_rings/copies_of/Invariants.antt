-- There is a copy for each turn.
use Rattle.std.proofs.Common.{◌≡◌, length, All}
use Rattle.step_text.specs.Known.{known_in}
use Rattle.step_text.proofs.new_rings.copies_of.Given as goal

abbrev pub invariant-loop : goal.invariant-loop
invariant-loop l = record {
  count : length l.rings.items ≡ l.counter;
  each : All (λ copy. known_in copy ≡ known_in l.known) l.rings.items;
}
