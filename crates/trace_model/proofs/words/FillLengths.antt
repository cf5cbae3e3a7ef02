-- What a writer reckons for a fill is the length of its data.
use Rattle.std.proofs.Common.{◌≡◌, ℕ, ◌-◌, Bool, true, false, List, [], ◌∷◌, length, map, refl, ap, ◌∙◌, arith}
use Rattle.std.proofs.Common.{length-append}
use Rattle.std.specs.List.{AllByRecursion}
use Rattle.trace_model.specs.Words.{slot_len, padded, encoded_len, encoding_of, encodings_behind, page_encoding}
use Rattle.trace_model.specs.History.{Reservation, as_record}
use Rattle.trace_model.specs.Packing.{len_behind, fill_len, FillsSlot}
use Rattle.trace_model.proofs.words.Lengths.{length-encoding, length-padded}

length-encoding_of : (prev : ℕ) (r : Reservation) (first : Bool) → FillsSlot r
    → length (encoding_of prev (as_record r) first) ≡ encoded_len r.len (r.moment - prev) first
length-encoding_of prev r first fills =
    length-encoding r.len (r.moment - prev) first (padded (as_record r).bytes)
    (length-padded (as_record r).bytes ∙ ap slot_len fills)

length-encodings_behind : (prev : ℕ) (records : List Reservation) → AllByRecursion FillsSlot records
    → length (encodings_behind prev (map as_record records)) ≡ len_behind prev records
length-encodings_behind prev [] each = refl
length-encodings_behind prev (r ∷ records) each =
    let here = length-encoding_of prev r false each.0 in
    let rest = length-encodings_behind r.moment records each.1 in
    omega (
      arith,
      length-append (encoding_of prev (as_record r) false) (encodings_behind r.moment (map as_record records)),
    )

pub length-page_encoding : (records : List Reservation) → AllByRecursion FillsSlot records
    → fill_len records ≡ length (page_encoding (map as_record records))
length-page_encoding [] each = refl
length-page_encoding (r ∷ records) each =
    let here : length (encoding_of 0 (as_record r) true) ≡ encoded_len r.len 0 true =
    length-encoding_of 0 r true each.0 in
    let rest = length-encodings_behind r.moment records each.1 in
    omega (arith, length-append (encoding_of 0 (as_record r) true) (encodings_behind r.moment (map as_record records)))
