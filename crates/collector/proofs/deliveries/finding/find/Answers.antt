use Rattle.std.proofs.Common.{ℕ, rules}
use Rattle.std.proofs.lemmas.List.Sorted.{answers_always}
use Rattle.page_numbers.specs.Parcels.{ParcelValue}
use Rattle.page_numbers.proofs.AsParcels.{is_among}
use Rattle.collector.proofs.Searches.{found_fill, found_nowhere}
use Rattle.collector.proofs.deliveries.finding.find.Goals as goal

pub returns-in-Ok-clause-found : goal.returns-in-Ok-clause-found
returns-in-Ok-clause-found c =
    let key : ParcelValue → ℕ = λ p. p.page.fill in
    let item : ParcelValue = c.index-parcels-at.result in
    let at = c.in-Ok.ensures.position key (answers_always _ _ _ (λ f a r g h. search rules)) in (
      is_among c.args.parcels.now c.in-Ok.at item c.in-Ok.ensures.bound c.index-parcels-at.is,
      found_fill c.args.fill.0 c.args.parcels.now c.in-Ok.at item c.index-parcels-at.is (at item),
    )

pub returns-in-Err-clause-not_found : goal.returns-in-Err-clause-not_found
returns-in-Err-clause-not_found c = λ none.
    let key : ParcelValue → ℕ = λ p. p.page.fill in
    let at = c.in-Err.ensures.position key (answers_always _ _ _ (λ f a r g h. search rules)) in
    found_nowhere c.args.fill.0 c.args.parcels.now c.in-Err.field-0 c.requires at
