use Rattle.std.proofs.Common.{◌≡◌, ◌+◌, length}
use Rattle.ring_core.specs.NewRing.{AreFirstHomes}
use Rattle.ring_core.proofs.ring.new.first_homes.Given as goal

abbrev pub invariant-loop-page : goal.invariant-loop-page
invariant-loop-page l = record {
  pushed : length l.homes.items ≡ l.page;
  room : l.pages + 1 ≡ l.homes.cap;
  each : AreFirstHomes l.pages l.size l.tail l.homes.items;
}
