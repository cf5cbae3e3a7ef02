-- Over the parcels of a capture fills and numbers rise.
use Rattle.std.proofs.Common.{◌≡◌, ℕ, zero, suc, ◌+◌, ◌≤◌, ◌<◌, List, [], ◌∷◌, length, Some, subst, arith}
use Rattle.std.specs.List.{slice_get}
use Rattle.trace_model.specs.Parcel.{Parcel}
use Rattle.capture.specs.Pages.{Page, intact, damaged, parcel_at, parcels_from, behind}
use Rattle.capture.proofs.Numbers.{none_some, some_parcel}
use Rattle.capture.proofs.Disjoint.{above}

-- no parcel's fill is below the first that is given
fill_above : (cpu fill next : ℕ) (pages : List Page) (k : ℕ) (p : Parcel)
    → slice_get (parcels_from cpu fill next pages) k ≡ Some p
    → fill ≤ p.fill
fill_above cpu fill next [] k p at = absurd (none_some at)
fill_above cpu fill next (damaged cause ∷ pages) k p at = let rest = fill_above cpu (suc fill) next pages k p at in
    omega arith
fill_above cpu fill next (intact read ∷ pages) zero p at =
    subst (λ (q : Parcel). fill ≤ q.fill) (some_parcel (parcel_at cpu fill next read) p at) (omega arith)
fill_above cpu fill next (intact read ∷ pages) (suc k) p at =
    let rest = fill_above cpu (suc fill) (behind next (intact read)) pages k p at in omega arith

-- The fill of a parcel is above that of another, and so are its numbers, with those that it misses.
abbrev pub IsAbove : Parcel → Parcel → Type 0
IsAbove a b = (a.fill < b.fill) × (a.first + length a.records + b.missed ≤ b.first)

pub rising : (cpu fill next : ℕ) (pages : List Page) (j k : ℕ) (a b : Parcel) → j < k
    → slice_get (parcels_from cpu fill next pages) j ≡ Some a → slice_get (parcels_from cpu fill next pages) k ≡ Some b
    → IsAbove a b
rising cpu fill next [] j k a b less at_j at_k = absurd (none_some at_j)
rising cpu fill next (damaged cause ∷ pages) j k a b less at_j at_k =
    rising cpu (suc fill) next pages j k a b less at_j at_k
rising cpu fill next (intact read ∷ pages) j zero a b less at_j at_k = absurd (omega arith)
rising cpu fill next (intact read ∷ pages) zero (suc k) a b less at_j at_k =
    let high = above cpu (suc fill) (behind next (intact read)) pages k b at_k in
    let later = fill_above cpu (suc fill) (behind next (intact read)) pages k b at_k in
    subst (λ (p : Parcel). IsAbove p b) (some_parcel (parcel_at cpu fill next read) a at_j) (omega arith, omega arith)
rising cpu fill next (intact read ∷ pages) (suc j) (suc k) a b less at_j at_k =
    rising cpu (suc fill) (behind next (intact read)) pages j k a b (omega arith) at_j at_k
