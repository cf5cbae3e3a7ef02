use Rattle.std.proofs.Common.{◌≡◌, ◌-◌, ◌++◌, ℕ, List, take, replicate, sym, ap, ◌∙◌}
use Rattle.page_image.proofs.Slots.{no_header_bytes}
use Rattle.page_image.proofs.slot.slot_of.Goals as goal

pub returns : goal.returns
returns c =
    let none = c.in_ok-slot.ensures.items in
    let len = c.in_ok-slot.ensures.len in
    let zeros : c.resize.new.self.items ≡ replicate 48 0 =
    c.in_ok-resize.ensures.items ∙ (λ i. take 48 (none i) ++ replicate (48 - len i) 0) in
    c.in_ok-extend_from_slice.ensures.items ∙ ap (λ (front : List ℕ). front ++ c.args.contents.now) zeros
    ∙ sym (no_header_bytes c.args.contents.now)
