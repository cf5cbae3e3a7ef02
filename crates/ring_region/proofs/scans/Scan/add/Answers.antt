use Rattle.std.proofs.Common.{refl, arith}
use Rattle.ring_region.proofs.Scanning.{scan_blank, scan_passed, scan_page, scan_damaged}
use Rattle.ring_region.proofs.scans.Scan.add.Goals as goal

pub returns-in-Blank : goal.returns-in-Blank
returns-in-Blank c = λ slots was count.
    scan_blank c.args.header c.args.slot.now slots c.args.self.now c.in_ok-read_page.field-0 c.in-Blank.is
    c.in_ok-read_page.ensures.reading was

pub returns-in_ok-put_by_fill-in-Page : goal.returns-in_ok-put_by_fill-in-Page
returns-in_ok-put_by_fill-in-Page c = λ slots was count.
    scan_page c.args.header c.args.slot.now slots c.args.self.now _ c.in_ok-read_page.field-0 c.in-Page.page
    c.args.number _
    c.in-Page.is c.in_ok-read_page.ensures.reading was count refl refl c.in_ok-put_by_fill-in-Page.ensures refl
    (omega (arith, c))

pub returns-else-end-header : goal.returns-else-end-header
returns-else-end-header c = λ slots was count.
    scan_passed c.args.header c.args.slot.now slots c.args.self.now c.in_ok-read_page.field-0 c.in-Page.page
    c.in-Page.is c.in_ok-read_page.ensures.reading was (omega (arith, c))

pub returns-in_ok-push-in-Damaged : goal.returns-in_ok-push-in-Damaged
returns-in_ok-push-in-Damaged c = λ slots was count.
    scan_damaged c.args.header c.args.slot.now slots c.args.self.now _ c.in_ok-read_page.field-0 c.in-Damaged.fault
    c.args.number c.damage_of.result
    c.in-Damaged.is c.in_ok-read_page.ensures.reading was count c.damage_of.ensures
    c.in_ok-push-in-Damaged.ensures.items refl
