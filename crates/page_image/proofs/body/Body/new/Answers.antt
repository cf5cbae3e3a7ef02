use Rattle.std.proofs.Common.{◌≡◌, ℕ, List, ap, ◌∙◌, drop, replicate, arith, length}
use Rattle.std.proofs.lemmas.List.{length-replicate}
use Rattle.page_image.specs.Slot.{no_header}
use Rattle.page_image.proofs.Slots.{behind_header, length-slot_bytes}
use Rattle.page_image.proofs.body.Body.new.Goals as goal

pub invariant_of-result : goal.invariant_of-result
invariant_of-result c =
    let zeros : List ℕ = replicate c.args.size 0 in
    let long = ap length c.in_ok-slot.ensures ∙ length-slot_bytes no_header zeros in
    let size : length zeros ≡ c.args.size = length-replicate c.args.size 0 in
    (omega arith, omega (arith, c.requires.at_most))

pub returns : goal.returns
returns c = ap (drop 48) c.in_ok-slot.ensures ∙ behind_header no_header (replicate c.args.size 0)
