use Rattle.std.proofs.Common.{◌≡◌, ◌∙◌, sym, eqb, true≢false}
use Rattle.std.proofs.lemmas.Bool.{and_parts, and_from, eqb-true, eq-eqb}
use Rattle.page_image.proofs.Sought.{no_word_at_fault, IsAhead-start, IsAhead-other, IsAhead-record, IsAhead-none}
use Rattle.page_image.proofs.Sought.{IsAhead-found}
use Rattle.page_image.proofs.places.is_payload.Goals as goal

pub loop-at-init : goal.loop-at-init
loop-at-init c = IsAhead-start c.args.data.now c.args.place.start c.args.place.len

pub returns-in_default-clause-every : goal.returns-in_default-clause-every
returns-in_default-clause-every c place =
    let none = no_word_at_fault c.args.data.now c.loop-at.at c.in_default.field-0 c.in_default.ensures.fault in
    absurd
    (IsAhead-none c.args.data.now c.args.place.start c.args.place.len c.loop-at.at c.loop-at.invariant none place)

pub returns-then-eq-clause-only : goal.returns-then-eq-clause-only
returns-then-eq-clause-only c is time records reads =
    let stands = rw c.in-Data.is at c.in-Ok.ensures.word in
    let same =
    and_parts (eqb c.in-Data.found.start c.args.place.start) (eqb c.in-Data.found.len c.args.place.len)
    (sym c.eq.ensures ∙ c.if-eq.true) in
    let start : c.in-Data.found.start ≡ c.args.place.start = eqb-true _ _ same.0 in
    let len : c.in-Data.found.len ≡ c.args.place.len = eqb-true _ _ same.1 in
    rw (← start, ← len)
    (IsAhead-found c.args.data.now c.args.place.start c.args.place.len c.loop-at.at c.in-Data.delta c.in-Data.found
    c.in-Data.next time records c.loop-at.invariant stands reads)

pub returns-in-End-clause-every : goal.returns-in-End-clause-every
returns-in-End-clause-every c place =
    let stands = rw c.in-End.is at c.in-Ok.ensures.word in
    absurd (IsAhead-none c.args.data.now c.args.place.start c.args.place.len c.loop-at.at c.loop-at.invariant
    stands.none_found place)

pub loop-at-preserved-else-eq : goal.loop-at-preserved-else-eq
loop-at-preserved-else-eq c =
    let stands = rw c.in-Data.is at c.in-Ok.ensures.word in
    IsAhead-record c.args.data.now c.args.place.start c.args.place.len c.loop-at.at c.in-Data.delta c.in-Data.found
    c.in-Data.next c.loop-at.invariant stands
    (λ same.
    true≢false (sym (c.eq.ensures
    ∙ and_from (eqb c.in-Data.found.start c.args.place.start)
    (eqb c.in-Data.found.len c.args.place.len) (eq-eqb _ _ same.0) (eq-eqb _ _ same.1))
    ∙ c.if-eq.false))

pub loop-at-preserved-in-Pad : goal.loop-at-preserved-in-Pad
loop-at-preserved-in-Pad c =
    let stands = rw c.in-Pad.is at c.in-Ok.ensures.word in
    IsAhead-other c.args.data.now c.args.place.start c.args.place.len c.loop-at.at c.in-Pad.next _ c.loop-at.invariant
    stands.at_offset (λ is. is)

pub loop-at-preserved-in-Extend : goal.loop-at-preserved-in-Extend
loop-at-preserved-in-Extend c =
    let stands = rw c.in-Extend.is at c.in-Ok.ensures.word in
    IsAhead-other c.args.data.now c.args.place.start c.args.place.len c.loop-at.at c.in-Extend.next _
    c.loop-at.invariant stands (λ is. is)

pub loop-at-preserved : goal.loop-at-preserved
loop-at-preserved c =
    let stands = rw c.in-Stamp.is at c.in-Ok.ensures.word in
    IsAhead-other c.args.data.now c.args.place.start c.args.place.len c.loop-at.at c.in-Stamp.next _ c.loop-at.invariant
    stands (λ is. is)
