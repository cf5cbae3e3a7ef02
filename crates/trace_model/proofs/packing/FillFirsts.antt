-- The first numbers of fills: they rise, and the records up to one and the fill's own are those up to the next.
use Rattle.std.proofs.Common.{◌≡◌, ℕ, zero, suc, ◌+◌, ◌-◌, ◌<◌, ◌≤◌, List, [], ◌∷◌, ◌++◌, length, get_or, take, drop}
use Rattle.std.proofs.Common.{refl, ap, ◌∙◌, arith}
use Rattle.trace_model.specs.Packing.{cut_from}
use Rattle.trace_model.specs.Fitting.{IsRising}
use Rattle.trace_model.proofs.packing.FillCuts.{IsRising-least}

pub first_below : (from : ℕ) (cuts : List ℕ) (to i : ℕ) → i ≤ length cuts → IsRising from cuts to
    → get_or (from ∷ cuts) i 0 ≤ to
first_below from cuts to zero low r = IsRising-least from cuts to r
first_below from [] to (suc i) low r = absurd (omega arith)
first_below from (cut ∷ cuts) to (suc i) low r = first_below cut cuts to i (omega arith) r.1

-- the first numbers rise
pub first_rises : (from : ℕ) (cuts : List ℕ) (to i : ℕ) → i < length cuts → IsRising from cuts to
    → get_or (from ∷ cuts) i 0 ≤ get_or (from ∷ cuts) (suc i) 0
first_rises from [] to i low r = absurd (omega arith)
first_rises from (cut ∷ cuts) to zero low r = r.0
first_rises from (cut ∷ cuts) to (suc i) low r = first_rises cut cuts to i (omega arith) r.1

pub first_rises_to : (cuts : List ℕ) (to i d : ℕ) → i + d ≤ length cuts → IsRising 0 cuts to
    → get_or (0 ∷ cuts) i 0 ≤ get_or (0 ∷ cuts) (i + d) 0
first_rises_to cuts to i zero low r =
    let e =
    ap (λ (m : ℕ). get_or (0 ∷ cuts) m 0) (let s : i + 0 ≡ i = omega arith in s) in
    omega arith
first_rises_to cuts to i (suc d) low r = let rest = first_rises_to cuts to i d (omega arith) r in
    let more = first_rises 0 cuts to (i + d) (omega arith) r in
    let e = ap (λ (m : ℕ). get_or (0 ∷ cuts) m 0) (let s : i + suc d ≡ suc (i + d) = omega arith in s) in omega arith

-- ---- a fill among the records

take_none : {A : Type 0} (m : ℕ) → ◌≡◌ {A = List A} [] (take m [])
take_none zero = refl
take_none (suc m) = refl

take_more : {A : Type 0} (a b : ℕ) (ys : List A) → a ≤ b → take b ys ≡ take a ys ++ take (b - a) (drop a ys)
take_more zero b ys le = ap (λ (m : ℕ). take m ys) (let e : b ≡ b - 0 = omega arith in e)
take_more (suc a) zero ys le = absurd (omega arith)
take_more (suc a) (suc b) [] le = take_none (suc b - suc a)
take_more {A = A} (suc a) (suc b) (y ∷ ys) le =
    ap (λ (l : List A). y ∷ l)
    (take_more a b ys (omega arith)
    ∙ ap (λ (m : ℕ). take a ys ++ take m (drop a ys)) (let e : b - a ≡ suc b - suc a = omega arith in e))

-- the records up to the next cut are those up to this one and the fill's
pub fill_behind : {A : Type 0} (from : ℕ) (cuts : List ℕ) (xs : List A) (i : ℕ) → i < length cuts
    → IsRising from cuts (length xs)
    → take (get_or (from ∷ cuts) (suc i) 0) xs
    ≡ take (get_or (from ∷ cuts) i 0) xs ++ get_or (cut_from from cuts xs) i []
fill_behind from [] xs i low r = absurd (omega arith)
fill_behind from (cut ∷ cuts) xs zero low r = take_more from cut xs r.0
fill_behind from (cut ∷ cuts) xs (suc i) low r = fill_behind cut cuts xs i (omega arith) r.1
