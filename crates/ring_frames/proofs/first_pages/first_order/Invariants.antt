use Rattle.std.proofs.Common.{◌≡◌, length}
use Rattle.ring_frames.specs.FirstPages.{AreFirstPages}
use Rattle.ring_frames.proofs.first_pages.first_order.Given as goal

abbrev pub invariant-loop-page : goal.invariant-loop-page
invariant-loop-page l = record {
  pushed : length l.order.items ≡ l.page;
  room : l.page-end ≡ l.order.cap;
  each : AreFirstPages l.order.items;
}
