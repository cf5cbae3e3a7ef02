-- The records of a page, one after the other, each with what was lost before it.
use Rattle.std.proofs.Common.{◌≡◌, ℕ, suc, List, [], ◌∷◌, ◌++◌, map, refl, sym, ap, ap₂, ◌∙◌}
use Rattle.std.proofs.lemmas.List.{map-append}
use Rattle.trace_model.specs.Record.{Record}
use Rattle.line_follower.specs.declared.lines.Line.{Line}
use Rattle.live_listing.specs.Gaps.{Lost, no_gap}
use Rattle.live_listing.specs.Pages.{ReadRecord, records_behind, lost_behind, AreLinesOf, AddsLine}
use Rattle.live_listing.specs.declared.pages.Content.{Content}

-- one record more
more_records : (lost : Lost) (records : List Record) (r : Record)
    → records_behind lost (records ++ r ∷ [])
    ≡ records_behind lost records
    ++ record { number = (lost_behind lost records).until; value = r; lost = lost_behind lost records } ∷ []
more_records lost [] r = refl
more_records lost (first ∷ records) r =
    ap (λ (rs : List ReadRecord). record { number = lost.until; value = first; lost = lost } ∷ rs)
    (more_records (no_gap (suc lost.until)) records r)

more_lost : (lost : Lost) (records : List Record) (r : Record)
    → lost_behind lost (records ++ r ∷ []) ≡ no_gap (suc (lost_behind lost records).until)
more_lost lost [] r = refl
more_lost lost (first ∷ records) r = more_lost (no_gap (suc lost.until)) records r

-- its line
pub line_more : (cpu : ℕ) (lost : Lost) (records : List Record) (r : Record) (before after : List (Line Content))
    (gap behind : Lost)
    → AreLinesOf cpu before (records_behind lost records)
    → gap ≡ lost_behind lost records
    → AddsLine cpu gap r before after behind
    → AreLinesOf cpu after (records_behind lost (records ++ r ∷ []))
    × (behind ≡ lost_behind lost (records ++ r ∷ []))
line_more cpu lost records r before after gap behind are is adds =
    let of_cpu : ReadRecord → ℕ × ReadRecord = λ x. (cpu, x) in
    let next : Lost → ReadRecord = λ l. record { number = l.until; value = r; lost = l } in (
      adds.lines
          ∙ ap₂ (λ (ls : List (ℕ × ReadRecord)) (l : Lost). ls ++ of_cpu (next l) ∷ []) are is
          ∙ sym (map-append of_cpu (records_behind lost records) (next (lost_behind lost records) ∷ []))
          ∙ ap (map of_cpu) (sym (more_records lost records r)),
      adds.gap ∙ ap (λ (l : Lost). no_gap (suc l.until)) is ∙ sym (more_lost lost records r),
    )
