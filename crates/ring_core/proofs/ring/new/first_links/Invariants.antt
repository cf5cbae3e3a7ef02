use Rattle.std.proofs.Common.{◌≡◌, length}
use Rattle.ring_core.specs.NewRing.{AreFirstLinks}
use Rattle.ring_core.proofs.ring.new.first_links.Given as goal

abbrev pub invariant-loop-position : goal.invariant-loop-position
invariant-loop-position l = record {
  pushed : length l.links.items ≡ l.position;
  room : l.position-end ≡ l.links.cap;
  each : AreFirstLinks l.pages l.start l.links.items;
}
