use Rattle.std.proofs.Common.{◌≡◌, ◌-◌, ℕ, List, length, drop, sym, ◌∙◌, arith, length-drop}
use Rattle.std.proofs.lemmas.Bool.{eqb-true, eq-eqb}
use Rattle.trace_model.specs.Image.{from_le64, commit_word, commit_of}
use Rattle.trace_model.proofs.images.ParcelParts.{HasNumbers-are}
use Rattle.parcel_streams.proofs.Fitted.{IsFitted-from, IsTight-from}
use Rattle.parcel_streams.proofs.body.is_fitted.Goals as goal

pub returns-then-body-lt-PARCEL_HEAD : goal.returns-then-body-lt-PARCEL_HEAD
returns-then-body-lt-PARCEL_HEAD c = λ parcel d.
    let are = HasNumbers-are c.args.body.now parcel.cpu parcel.fill parcel.first parcel.missed d.image.image
    d.image.numbers in
    let len = are.length_is in
    let long = d.image.numbers.long in
    absurd (omega arith)

pub returns : goal.returns
returns c =
    let body = c.args.body.now in
    let own : List ℕ = drop 48 body in
    let size : length own ≡ length body - 48 = length-drop 48 body in
    let word : c.commit_number.result ≡ commit_word (commit_of own (from_le64 (drop 24 body)) (length own)) =
    c.commit_number.ensures own size ∙ (λ i. commit_word (commit_of own (c.number_at-2.ensures i) (sym size i))) in
    λ parcel d. (
      λ same. IsFitted-from body parcel d (sym c.number_at.ensures
          ∙ eqb-true c.number_at.result c.commit_number.result same ∙ word),
      λ fitted. eq-eqb c.number_at.result c.commit_number.result
          (c.number_at.ensures ∙ IsTight-from body parcel d fitted ∙ sym word),
    )
