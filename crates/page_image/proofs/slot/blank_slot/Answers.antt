use Rattle.std.proofs.Common.{replicate, sym, ◌∙◌}
use Rattle.std.proofs.lemmas.List.{replicate-append-replicate}
use Rattle.page_image.proofs.Slots.{no_header_bytes}
use Rattle.page_image.proofs.slot.blank_slot.Goals as goal

pub returns : goal.returns
returns c =
    c.in_ok-slot.ensures.items_if_clones_equal (λ y same. same) ∙ sym (replicate-append-replicate 48 c.args.size 0)
    ∙ sym (no_header_bytes (replicate c.args.size 0))
