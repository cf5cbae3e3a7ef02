-- All fills, joined, are the reserved records.
use Rattle.std.proofs.Common.{◌≡◌, ℕ, zero, suc, ◌+◌, ◌-◌, ◌≤◌, List, [], ◌∷◌, ◌++◌, length, get_or, take, drop}
use Rattle.std.proofs.Common.{flat_map, sym, ap, ◌∙◌, arith, append-nil}
use Rattle.std.proofs.lemmas.List.{take-append-drop, drop-drop}
use Rattle.trace_model.specs.Packing.{cut_from}
use Rattle.trace_model.specs.Fitting.{IsRising}

-- all fills, joined, are the list from the index where the first one begins
pub joined_all : {A : Type 0} (from : ℕ) (cuts : List ℕ) (xs : List A) → IsRising from cuts (length xs)
    → flat_map (λ fill. fill) (cut_from from cuts xs) ≡ drop from xs
joined_all from [] xs r = append-nil (drop from xs)
joined_all {A} from (cut ∷ cuts) xs r =
    ap (λ (l : List A). take (cut - from) (drop from xs) ++ l)
    (joined_all cut cuts xs r.1
    ∙ ap (λ (m : ℕ). drop m xs) (let le = r.0 in let e : cut ≡ from + (cut - from) = omega arith in e)
    ∙ sym (drop-drop (cut - from) from xs))
    ∙ take-append-drop (cut - from) (drop from xs)

-- the fills from one on are the list from the index where that one begins
pub joined_behind : {A : Type 0} (from : ℕ) (cuts : List ℕ) (xs : List A) (i : ℕ) → i ≤ length cuts
    → IsRising from cuts (length xs)
    → flat_map (λ fill. fill) (drop i (cut_from from cuts xs)) ≡ drop (get_or (from ∷ cuts) i 0) xs
joined_behind from cuts xs zero low r = joined_all from cuts xs r
joined_behind from [] xs (suc i) low r = absurd (omega arith)
joined_behind from (cut ∷ cuts) xs (suc i) low r = joined_behind cut cuts xs i (omega arith) r.1
