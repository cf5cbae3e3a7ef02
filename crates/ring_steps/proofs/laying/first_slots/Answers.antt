use Rattle.std.proofs.Common.{◌∷◌, [], length, None, sym, ap, ◌∙◌, subst, arith, length-append}
use Rattle.std.specs.Prelude.{Option}
use Rattle.page_image.specs.Contents.{Contents}
use Rattle.link_marks.specs.FirstLinks.{EachAt}
use Rattle.ring_steps.specs.NewRings.{IsFirstSlot}
use Rattle.ring_steps.proofs.FirstParts.{each_snoc, spare_slot}
use Rattle.ring_steps.proofs.laying.first_slots.Goals as goal

pub returns : goal.returns
returns c = let is = c.push_reserved-2.ensures.items in
    let pushed = c.loop-page.invariant.pushed in
    let past = c.loop-page-test.false in
    let near = c.loop-page.auto.page-end in (
      ap (length {A = Option Contents}) is ∙ omega (arith, length-append c.loop-page.slots.items (None ∷ [])),
      subst (EachAt (IsFirstSlot c.args.shape)) (sym is)
          (each_snoc (IsFirstSlot c.args.shape) c.loop-page.slots.items None c.loop-page.invariant.each
          (spare_slot c.args.shape (length c.loop-page.slots.items) c.requires (omega arith))),
    )
