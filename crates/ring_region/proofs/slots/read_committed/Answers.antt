use Rattle.std.proofs.Common.{ℕ, ◌+◌, ◌^◌, ◌<◌, ◌≤◌, List, sym, subst, arith}
use Rattle.std.proofs.lemmas.List.{take_rest}
use Rattle.trace_model.specs.ParcelBytes.{HasOverflow, DecodesParcel}
use Rattle.page_image.specs.Images.{IsImageFault, IsOutlined}
use Rattle.page_image.specs.Contents.{Contents}
use Rattle.ring_region.specs.declared.slots.Reading.{Reading}
use Rattle.ring_region.specs.Slots.{IsSlotOf}
use Rattle.ring_region.specs.Answers.{reading_seen, unmissed}
use Rattle.ring_region.proofs.Outlined.{told_slot, told_within, cut-whole, committed-whole, whole_committed, page_reads}
use Rattle.ring_region.proofs.Outlined.{page_overflows, sum_past, sum_fits, page_made}
use Rattle.ring_region.proofs.slots.read_committed.Goals as goal

pub returns-in-Err-clause-reading : goal.returns-in-Err-clause-reading
returns-in-Err-clause-reading c = λ cpu known is.
    let bytes = c.args.slot.now in
    told_slot cpu bytes c.in-Err.fault c.image_damaged.result known (λ i. omega (arith, c.type_inv.slot i))
    c.requires.limit c.requires.commit is
    (subst (λ (b : List ℕ). IsImageFault b c.in-Err.fault) (take_rest bytes 32) c.in-Err.ensures.fault)
    c.image_damaged.ensures

pub returns-in-Err-clause-within : goal.returns-in-Err-clause-within
returns-in-Err-clause-within c =
    let bytes = c.args.slot.now in
    let commit = c.requires.commit in
    told_within bytes c.in-Err.fault c.image_damaged.result (omega arith)
    (subst (λ (b : List ℕ). IsImageFault b c.in-Err.fault) (take_rest bytes 32) c.in-Err.ensures.fault)
    c.image_damaged.ensures

pub returns-then-is_none-clause-reading : goal.returns-then-is_none-clause-reading
returns-then-is_none-clause-reading c = λ cpu known is.
    let bytes = c.args.slot.now in
    let outlined = subst (λ (b : List ℕ). IsOutlined b c.in-Ok.outline) (take_rest bytes 32) c.in-Ok.ensures.reads in
    let past = subst (λ (n : ℕ). 2 ^ 64 ≤ n + c.in-Ok.outline.count) c.number_at.ensures
    (sum_past c.checked_add.result c.is_none.result c.number_at.result c.in-Ok.outline.count c.is_none.ensures
    c.if-is_none.true c.checked_add.ensures) in
    subst (λ (r : Reading). IsSlotOf cpu bytes (reading_seen cpu r)) (sym c.damaged.ensures) (
      committed-whole cpu bytes c.requires.commit is,
      subst HasOverflow (sym (whole_committed bytes c.requires.commit))
          (page_overflows cpu bytes c.in-Ok.outline known (λ i. omega (arith, c.type_inv.slot i))
          (cut-whole cpu bytes c.requires.limit c.requires.commit is) outlined past),
    )

pub returns-clause-reading : goal.returns-clause-reading
returns-clause-reading c = λ cpu known is.
    let bytes = c.args.slot.now in
    let outlined = subst (λ (b : List ℕ). IsOutlined b c.in-Ok.outline) (take_rest bytes 32) c.in-Ok.ensures.reads in
    let fits = subst (λ (n : ℕ). n + c.in-Ok.outline.count < 2 ^ 64) c.number_at.ensures
    (sum_fits c.checked_add.result c.is_none.result c.number_at.result c.in-Ok.outline.count c.is_none.ensures
    c.if-is_none.false c.checked_add.ensures) in
    let page =
    page_made bytes _ c.in-Ok.outline c.in_ok-page.page c.numbered.result c.new.result c.number_at.result
    c.number_at-2.result (take_rest bytes 32)
    c.in_ok-page.ensures.contents c.numbered.ensures c.new.ensures c.number_at.ensures c.number_at-2.ensures in (
      committed-whole cpu bytes c.requires.commit is,
      subst (λ (b : List ℕ). DecodesParcel b (unmissed cpu c.new.result))
          (sym (whole_committed bytes c.requires.commit))
          (subst (λ (p : Contents). DecodesParcel bytes (unmissed cpu p)) page
          (page_reads cpu bytes c.in-Ok.outline known (λ i. omega (arith, c.type_inv.slot i))
          (cut-whole cpu bytes c.requires.limit c.requires.commit is) outlined fits)),
    )
