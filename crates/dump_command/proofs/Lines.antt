-- Lines one after the other.
use Rattle.std.proofs.Common.{◌≡◌, ℕ, ◌+◌, List, [], ◌∷◌, ◌++◌, flat_map, ap, refl}
use Rattle.std.specs.List.{enumerate_from}
use Rattle.trace_model.specs.Record.{Record}

-- lines that state no numbers are those of the records alone
pub lines_without_numbers : (line : Record → List ℕ) (number : ℕ) (records : List Record)
    → flat_map (λ (pair : ℕ × Record). line pair.1) (enumerate_from number records) ≡ flat_map line records
lines_without_numbers line number [] = refl
lines_without_numbers line number (r ∷ records) =
    ap (λ (text : List ℕ). line r ++ text) (lines_without_numbers line (number + 1) records)
