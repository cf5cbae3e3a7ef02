-- The records of entries, without their numbers.
use Rattle.std.proofs.Common.{◌≡◌, ℕ, ◌+◌, List, [], ◌∷◌, ◌++◌, map, refl, ap, ◌∙◌}
use Rattle.std.specs.List.{enumerate_from}
use Rattle.std.proofs.lemmas.List.{map-append}
use Rattle.trace_model.specs.Record.{Record}
use Rattle.page_borrow.specs.declared.entries.Entry.{Entry}
use Rattle.page_borrow.specs.Entries.{numbered_record}

abbrev pub values : List Entry → List Record
values entries = map (λ (pair : ℕ × Record). pair.1) (map numbered_record entries)

pub more_values : (entries : List Entry) (entry : Entry)
    → values (entries ++ entry ∷ []) ≡ values entries ++ (numbered_record entry).1 ∷ []
more_values entries entry =
    ap (map (λ (pair : ℕ × Record). pair.1)) (map-append numbered_record entries (entry ∷ []))
    ∙ map-append (λ (pair : ℕ × Record). pair.1) (map numbered_record entries) (numbered_record entry ∷ [])

pub without_numbers : (first : ℕ) (records : List Record)
    → map (λ (pair : ℕ × Record). pair.1) (enumerate_from first records) ≡ records
without_numbers first [] = refl
without_numbers first (r ∷ records) = ap (λ (rs : List Record). r ∷ rs) (without_numbers (first + 1) records)
