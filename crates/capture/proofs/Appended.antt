-- One page more at the end of a capture.
use Rattle.std.proofs.Common.{◌≡◌, ◌∙◌, ℕ, suc, ◌+◌, List, [], ◌∷◌, ◌++◌, length, refl, sym, ap, arith, append_assoc}
use Rattle.trace_model.specs.Parcel.{Parcel}
use Rattle.capture.specs.Pages.{Page, intact, damaged, behind, end_from, parcels_from, unknown_at, unknown_from, Damage}
use Rattle.capture.specs.Pages.{damages_from}

-- the number after the last page's records
pub end-append : (next : ℕ) (pages : List Page) (page : Page)
    → end_from next (pages ++ page ∷ []) ≡ behind (end_from next pages) page
end-append next [] page = refl
end-append next (first ∷ pages) page = end-append (behind next first) pages page

-- what the pages after the first add is added at the end
parcels_more : (cpu fill next : ℕ) (pages : List Page) (page : Page)
    → parcels_from cpu (suc fill) next (pages ++ page ∷ [])
    ≡ parcels_from cpu (suc fill) next pages
    ++ parcels_from cpu (suc fill + length pages) (end_from next pages) (page ∷ [])
    → parcels_from cpu (suc fill) next (pages ++ page ∷ [])
    ≡ parcels_from cpu (suc fill) next pages
    ++ parcels_from cpu (fill + suc (length pages)) (end_from next pages) (page ∷ [])
parcels_more cpu fill next pages page is =
    let same : suc fill + length pages ≡ fill + suc (length pages) = omega arith in
    is
    ∙ ap (λ (f : ℕ). parcels_from cpu (suc fill) next pages ++ parcels_from cpu f (end_from next pages) (page ∷ []))
    same

pub parcels-append : (cpu fill next : ℕ) (pages : List Page) (page : Page)
    → parcels_from cpu fill next (pages ++ page ∷ [])
    ≡ parcels_from cpu fill next pages ++ parcels_from cpu (fill + length pages) (end_from next pages) (page ∷ [])
parcels-append cpu fill next [] page =
    ap (λ (f : ℕ). parcels_from cpu f next (page ∷ [])) (let none : fill ≡ fill + 0 = omega arith in none)
parcels-append cpu fill next (intact read ∷ pages) page =
    ap (λ (ps : List Parcel). parcels_from cpu fill next (intact read ∷ []) ++ ps)
    (parcels_more cpu fill (behind next (intact read)) pages page
    (parcels-append cpu (suc fill) (behind next (intact read)) pages page))
parcels-append cpu fill next (damaged cause ∷ pages) page =
    parcels_more cpu fill next pages page (parcels-append cpu (suc fill) next pages page)

pub unknown-append : (next : ℕ) (pages : List Page) (page : Page) → unknown_from next (pages ++ page ∷ [])
    ≡ unknown_from next pages ++ unknown_from (end_from next pages) (page ∷ [])
unknown-append next [] page = refl
unknown-append next (intact read ∷ pages) page =
    ap (λ (ns : List ℕ). unknown_at next read.missed ++ ns) (unknown-append (behind next (intact read)) pages page)
    ∙ sym (append_assoc (unknown_at next read.missed) (unknown_from (behind next (intact read)) pages)
    (unknown_from (end_from (behind next (intact read)) pages) (page ∷ [])))
unknown-append next (damaged cause ∷ pages) page = unknown-append next pages page

damages_more : (index next : ℕ) (pages : List Page) (page : Page) → damages_from (suc index) next (pages ++ page ∷ [])
    ≡ damages_from (suc index) next pages ++ damages_from (suc index + length pages) (end_from next pages) (page ∷ [])
    → damages_from (suc index) next (pages ++ page ∷ [])
    ≡ damages_from (suc index) next pages ++ damages_from (index + suc (length pages)) (end_from next pages) (page ∷ [])
damages_more index next pages page is =
    let same : suc index + length pages ≡ index + suc (length pages) = omega arith in
    is ∙ ap (λ (i : ℕ). damages_from (suc index) next pages ++ damages_from i (end_from next pages) (page ∷ [])) same

pub damages-append : (index next : ℕ) (pages : List Page) (page : Page) → damages_from index next (pages ++ page ∷ [])
    ≡ damages_from index next pages ++ damages_from (index + length pages) (end_from next pages) (page ∷ [])
damages-append index next [] page =
    ap (λ (i : ℕ). damages_from i next (page ∷ [])) (let none : index ≡ index + 0 = omega arith in none)
damages-append index next (intact read ∷ pages) page =
    damages_more index (behind next (intact read)) pages page
    (damages-append (suc index) (behind next (intact read)) pages page)
damages-append index next (damaged cause ∷ pages) page =
    ap (λ (ds : List Damage). record { number = next; index = index; cause = cause } ∷ ds)
    (damages_more index next pages page (damages-append (suc index) next pages page))
