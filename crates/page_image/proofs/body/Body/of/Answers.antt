use Rattle.std.proofs.Common.{ap, ◌∙◌, drop, arith, length}
use Rattle.page_image.specs.Slot.{no_header}
use Rattle.page_image.proofs.Slots.{behind_header, length-slot_bytes}
use Rattle.page_image.proofs.body.Body.of.Goals as goal

pub invariant_of-result : goal.invariant_of-result
invariant_of-result c =
    let long = ap length c.in_ok-slot.ensures ∙ length-slot_bytes no_header c.args.contents.now in
    (omega arith, omega (arith, c.requires))

pub returns : goal.returns
returns c = ap (drop 48) c.in_ok-slot.ensures ∙ behind_header no_header c.args.contents.now
