use Rattle.ring_region.proofs.Scanning.{AreScannedTo}
use Rattle.ring_region.proofs.scans.scan_slots.Given as goal

abbrev pub invariant-loop-number : goal.invariant-loop-number
invariant-loop-number l = AreScannedTo l.header l.bytes l.number l.scan
