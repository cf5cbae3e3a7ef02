-- Parcels with the same records, record by record.
use Rattle.std.proofs.Common.{◌≡◌, ◌≢◌, ◌↔◌, ℕ, suc, ◌+◌, ◌-◌, ◌<◌, ◌≤◌, Bool, true, false, not, IsTrue, List, [], ◌∷◌}
use Rattle.std.proofs.Common.{length, Option, Some, None, is_some, IfSome, IfNone, refl, sym, ap, ◌∙◌, arith}
use Rattle.std.specs.List.{slice_get}
use Rattle.trace_model.specs.Parcel.{Parcel}
use Rattle.trace_model.proofs.collections.Elements.{some_is}
use Rattle.collector.specs.Entries.{record_of}

-- lists with the same elements
same_elements : {A : Type 0} (xs ys : List A) → length xs ≡ length ys
    → ((k : ℕ) → k < length xs → slice_get xs k ≡ slice_get ys k) → xs ≡ ys
same_elements [] [] sizes each = refl
same_elements [] (y ∷ ys) sizes each = absurd (let no : ⊥ = omega arith in no)
same_elements (x ∷ xs) [] sizes each = absurd (let no : ⊥ = omega arith in no)
same_elements (x ∷ xs) (y ∷ ys) sizes each =
    let head : x ≡ y = some_is x y (each 0 (omega arith)) in
    let tail : xs ≡ ys = same_elements xs ys (omega arith) (λ k within. each (suc k) (omega arith)) in
    λ i. head i ∷ tail i

-- parcels from the same number on, with the same record under each number
pub same_records : (p q : Parcel) → p.first ≡ q.first → length p.records ≡ length q.records
    → ((n : ℕ) → p.first ≤ n → n < p.first + length p.records → record_of p n ≡ record_of q n) → p.records ≡ q.records
same_records p q first sizes each = same_elements p.records q.records sizes
    (λ k within.
    let a : p.first + k - p.first ≡ k = omega arith in let b : p.first + k - q.first ≡ k = omega arith in
    ap (slice_get p.records) (sym a) ∙ each (p.first + k) (omega arith) (omega arith) ∙ ap (slice_get q.records) b)

-- so no difference is found among them exactly if they have the same records
pub differ_nowhere : (p q : Parcel) (from end : ℕ) (found : Option ℕ) (none : Bool) → p.first ≡ q.first
    → length p.records ≡ length q.records → from ≡ p.first → end ≡ p.first + length p.records
    → IfSome found (λ n. record_of p n ≢ record_of q n)
    → IfNone found ((n : ℕ) → from ≤ n → n < end → record_of p n ≡ record_of q n)
    → is_some found ≡ not none → IsTrue none ↔ (p.records ≡ q.records)
differ_nowhere p q from end None true first sizes low high differ same is =
    (λ yes. same_records p q first sizes (λ n least most. same n (omega arith) (omega arith)), λ equal. refl)
differ_nowhere p q from end None false first sizes low high differ same is = cc
differ_nowhere p q from end (Some n) true first sizes low high differ same is = cc
differ_nowhere p q from end (Some n) false first sizes low high differ same is =
    (λ no. cc, λ equal. absurd (differ (λ i. slice_get (equal i) (n - first i))))
