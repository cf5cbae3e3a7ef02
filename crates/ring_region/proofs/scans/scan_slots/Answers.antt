use Rattle.ring_region.proofs.Scanning.{slot_sliced, scanned_none, scanned_more}
use Rattle.ring_region.proofs.scans.scan_slots.Goals as goal

pub loop-number-init : goal.loop-number-init
loop-number-init c = scanned_none c.args.header c.args.bytes.now c.new-scan.result (c.new-scan.ensures c.args.header)

pub loop-number-preserved : goal.loop-number-preserved
loop-number-preserved c =
    let bytes = c.args.bytes.now in
    let number = c.loop-number.number in
    let was = c.loop-number.invariant in
    scanned_more c.args.header bytes _ number c.loop-number.scan c.add.new.self
    (slot_sliced c.args.header.size c.slot_at-at.result number bytes c.slot_at-at.ensures) was
    (c.in_ok-add.ensures was.slots was.scanned was.count_is)
