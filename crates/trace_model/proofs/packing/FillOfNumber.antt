-- The fill in which the record of a number is.
use Rattle.std.proofs.Common.{◌≡◌, ℕ, zero, suc, ◌+◌, ◌-◌, ◌<◌, ◌≤◌, List, [], ◌∷◌, length, get_or, take, drop, refl}
use Rattle.std.proofs.Common.{sym, ap, ◌∙◌, subst, arith, length-drop, length-take-le}
use Rattle.std.specs.List.{slice_get}
use Rattle.std.proofs.lemmas.Option.{slice_get_past}
use mathlib.Core.Logic.{dite}
use native.Mathlib.Decide.{dec_le}
use Rattle.trace_model.specs.History.{Reservation}
use Rattle.trace_model.specs.Packing.{cut_from}
use Rattle.trace_model.specs.Fitting.{IsRising}
use Rattle.trace_model.proofs.packing.FillCuts.{IsRising-least}
use Rattle.trace_model.proofs.packing.FillFirsts.{first_rises_to}

-- how many records a fill has that isn't the last
fill_size : (from : ℕ) (cuts : List ℕ) (xs : List Reservation) (i : ℕ) → i < length cuts
    → IsRising from cuts (length xs)
    → get_or (from ∷ cuts) i 0 + length (get_or (cut_from from cuts xs) i []) ≡ get_or (from ∷ cuts) (suc i) 0
fill_size from [] xs i low r = absurd (omega arith)
fill_size from (cut ∷ cuts) xs zero low r = let least = r.0 in let rest = IsRising-least cut cuts (length xs) r.1 in
    omega (arith, length-take-le (cut - from) (drop from xs) (omega (arith, length-drop from xs)))
fill_size from (cut ∷ cuts) xs (suc i) low r = fill_size cut cuts xs i (omega arith) r.1

fill_size_last : (from : ℕ) (cuts : List ℕ) (xs : List Reservation) → IsRising from cuts (length xs)
    → get_or (from ∷ cuts) (length cuts) 0 + length (get_or (cut_from from cuts xs) (length cuts) []) ≡ length xs
fill_size_last from [] xs r = omega (arith, length-drop from xs)
fill_size_last from (cut ∷ cuts) xs r = fill_size_last cut cuts xs r.1

get_behind_drop : (a k : ℕ) (xs : List Reservation) → slice_get (drop a xs) k ≡ slice_get xs (a + k)
get_behind_drop zero k xs = ap (slice_get xs) (let e : k ≡ 0 + k = omega arith in e)
get_behind_drop (suc a) k [] = slice_get_past [] k (omega arith) ∙ sym (slice_get_past [] (suc a + k) (omega arith))
get_behind_drop (suc a) k (x ∷ xs) =
    get_behind_drop a k xs ∙ ap (slice_get (x ∷ xs)) (let e : suc (a + k) ≡ suc a + k = omega arith in e)

get_in_take : (m k : ℕ) (xs : List Reservation) → k < m → slice_get (take m xs) k ≡ slice_get xs k
get_in_take zero k xs low = absurd (omega arith)
get_in_take (suc m) k [] low = refl
get_in_take (suc m) zero (x ∷ xs) low = refl
get_in_take (suc m) (suc k) (x ∷ xs) low = get_in_take m k xs (omega arith)

take_short : (m : ℕ) (xs : List Reservation) → length (take m xs) ≤ m
take_short zero xs = omega arith
take_short (suc m) [] = omega arith
take_short (suc m) (x ∷ xs) = let rest = take_short m xs in omega arith

-- a record of a fill, among all
pub get_in_fill : (from : ℕ) (cuts : List ℕ) (xs : List Reservation) (i k : ℕ) → i ≤ length cuts
    → k < length (get_or (cut_from from cuts xs) i [])
    → slice_get (get_or (cut_from from cuts xs) i []) k ≡ slice_get xs (get_or (from ∷ cuts) i 0 + k)
get_in_fill from [] xs zero k low within = get_behind_drop from k xs
get_in_fill from [] xs (suc i) k low within = absurd (omega arith)
get_in_fill from (cut ∷ cuts) xs zero k low within =
    get_in_take (cut - from) k (drop from xs) (let short = take_short (cut - from) (drop from xs) in omega arith)
    ∙ get_behind_drop from k xs
get_in_fill from (cut ∷ cuts) xs (suc i) k low within = get_in_fill cut cuts xs i k (omega arith) within

-- a number before which this fill begins is in it, or in a later one
pub record LiesIn (cuts : List ℕ) (xs : List Reservation) (least number : ℕ) : Type 0 where
  pub fill : ℕ
  pub least_le : least ≤ fill
  pub fill_le : fill ≤ length cuts
  pub first_le : get_or (0 ∷ cuts) fill 0 ≤ number
  pub number_lt : number < get_or (0 ∷ cuts) fill 0 + length (get_or (cut_from 0 cuts xs) fill [])

pub lies_in : (cuts : List ℕ) (xs : List Reservation) (number d i : ℕ) → i + d ≡ length cuts
    → IsRising 0 cuts (length xs) → get_or (0 ∷ cuts) i 0 ≤ number → number < length xs → LiesIn cuts xs i number
lies_in cuts xs number zero i sum r low high = let last : i ≡ length cuts = omega arith in
    record {
      fill = i;
      least_le = omega arith;
      fill_le = omega arith;
      first_le = low;
      number_lt =
          subst (λ (j : ℕ). number < get_or (0 ∷ cuts) j 0 + length (get_or (cut_from 0 cuts xs) j [])) (sym last)
          (let all = fill_size_last 0 cuts xs r in omega arith);
    }
lies_in cuts xs number (suc d) i sum r low high = dite (dec_le (get_or (0 ∷ cuts) (suc i) 0) number)
    (λ behind. let later = lies_in cuts xs number d (suc i) (omega arith) r behind high in
    record {
      fill = later.fill;
      least_le = let le = later.least_le in omega arith;
      fill_le = later.fill_le;
      first_le = later.first_le;
      number_lt = later.number_lt;
    })
    (λ here.
    record {
      fill = i;
      least_le = omega arith;
      fill_le = omega arith;
      first_le = low;
      number_lt = let size = fill_size 0 cuts xs i (omega arith) r in omega arith;
    })

-- a fill ends where the next one begins
pub ends_before : (cuts : List ℕ) (xs : List Reservation) (i j : ℕ) → i < j → j ≤ length cuts
    → IsRising 0 cuts (length xs)
    → get_or (0 ∷ cuts) i 0 + length (get_or (cut_from 0 cuts xs) i []) ≤ get_or (0 ∷ cuts) j 0
ends_before cuts xs i j less high r = let size = fill_size 0 cuts xs i (omega arith) r in
    let rises = first_rises_to cuts (length xs) (suc i) (j - suc i) (omega arith) r in
    let e = ap (λ (m : ℕ). get_or (0 ∷ cuts) m 0) (let s : suc i + (j - suc i) ≡ j = omega arith in s) in omega arith
