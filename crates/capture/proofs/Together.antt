-- The parcels of several CPUs' captures agree.
use Rattle.std.proofs.Common.{◌≡◌, ◌∙◌, ◌⊎◌, inl, inr, ⊎_elim, ℕ, zero, suc, ◌≤◌, List, [], ◌∷◌, ◌++◌, Some, sym, ap}
use Rattle.std.proofs.Common.{arith}
use Rattle.std.specs.List.{slice_get}
use Rattle.trace_model.specs.Record.{Record}
use Rattle.trace_model.specs.Parcel.{Parcel}
use Rattle.trace_model.specs.Collection.{Has, Misses, Agree}
use Rattle.capture.specs.Pages.{Page, intact, damaged, parcel_at, parcels_from, behind}
use Rattle.capture.specs.Rings.{parcels_of_captures}
use Rattle.capture.proofs.Numbers.{none_some, some_parcel}
use Rattle.capture.proofs.Disjoint.{agree}

get_either : (xs ys : List Parcel) (k : ℕ) (p : Parcel) → slice_get (xs ++ ys) k ≡ Some p
    → (slice_get xs k ≡ Some p) ⊎ ((j : ℕ) × (slice_get ys j ≡ Some p))
get_either [] ys k p at = inr (k, at)
get_either (x ∷ xs) ys zero p at = inl at
get_either (x ∷ xs) ys (suc k) p at = get_either xs ys k p at

pub has_either : (xs ys : List Parcel) (c n : ℕ) (r : Record) → Has (xs ++ ys) c n r → Has xs c n r ⊎ Has ys c n r
has_either xs ys c n r has = ⊎_elim
    (λ at. inl (record { index = has.index; parcel = has.parcel; at = at; pair = has.pair }))
    (λ found. inr (record { index = found.0; parcel = has.parcel; at = found.1; pair = has.pair }))
    (get_either xs ys has.index has.parcel has.at)

pub misses_either : (xs ys : List Parcel) (c n : ℕ) → Misses (xs ++ ys) c n → Misses xs c n ⊎ Misses ys c n
misses_either xs ys c n m = ⊎_elim
    (λ at. inl (record { index = m.index; parcel = m.parcel; at = at; missing = m.missing }))
    (λ found. inr (record { index = found.0; parcel = m.parcel; at = found.1; missing = m.missing }))
    (get_either xs ys m.index m.parcel m.at)

agree_both : (xs ys : List Parcel) → Agree xs → Agree ys
    → ((i j : ℕ) (p q : Parcel) → slice_get xs i ≡ Some p → slice_get ys j ≡ Some q → p.cpu ≡ q.cpu → ⊥)
    → Agree (xs ++ ys)
agree_both xs ys one two apart = record {
  one_record = λ c n r other has too. ⊎_elim
      (λ (a : Has xs c n r). ⊎_elim
      (λ (b : Has xs c n other). one.one_record c n r other a b)
      (λ (b : Has ys c n other).
      absurd (apart a.index b.index a.parcel b.parcel a.at b.at (sym a.pair.cpu_is ∙ b.pair.cpu_is)))
      (has_either xs ys c n other too))
      (λ (a : Has ys c n r). ⊎_elim
      (λ (b : Has xs c n other).
      absurd (apart b.index a.index b.parcel a.parcel b.at a.at (sym b.pair.cpu_is ∙ a.pair.cpu_is)))
      (λ (b : Has ys c n other). two.one_record c n r other a b)
      (has_either xs ys c n other too))
      (has_either xs ys c n r has);
  not_missing = λ c n r has misses. ⊎_elim
      (λ (a : Has xs c n r). ⊎_elim
      (λ (b : Misses xs c n). one.not_missing c n r a b)
      (λ (b : Misses ys c n). apart a.index b.index a.parcel b.parcel a.at b.at (sym a.pair.cpu_is ∙ b.missing.cpu_is))
      (misses_either xs ys c n misses))
      (λ (a : Has ys c n r). ⊎_elim
      (λ (b : Misses xs c n). apart b.index a.index b.parcel a.parcel b.at a.at (sym b.missing.cpu_is ∙ a.pair.cpu_is))
      (λ (b : Misses ys c n). two.not_missing c n r a b)
      (misses_either xs ys c n misses))
      (has_either xs ys c n r has);
}

pub cpu_of : (cpu fill next : ℕ) (pages : List Page) (k : ℕ) (p : Parcel)
    → slice_get (parcels_from cpu fill next pages) k ≡ Some p → p.cpu ≡ cpu
cpu_of cpu fill next [] k p at = absurd (none_some at)
cpu_of cpu fill next (damaged cause ∷ pages) k p at = cpu_of cpu (suc fill) next pages k p at
cpu_of cpu fill next (intact read ∷ pages) zero p at =
    sym (ap (λ (q : Parcel). q.cpu) (some_parcel (parcel_at cpu fill next read) p at))
cpu_of cpu fill next (intact read ∷ pages) (suc k) p at = cpu_of cpu (suc fill) (behind next (intact read)) pages k p at

pub cpus_above : (cpu : ℕ) (captures : List (List Page)) (k : ℕ) (p : Parcel)
    → slice_get (parcels_of_captures cpu captures) k ≡ Some p → cpu ≤ p.cpu
cpus_above cpu [] k p at = absurd (none_some at)
cpus_above cpu (pages ∷ captures) k p at = ⊎_elim
    (λ here. let is = cpu_of cpu 0 0 pages k p here in omega (arith, is))
    (λ found. let rest = cpus_above (suc cpu) captures found.0 p found.1 in omega (arith, rest))
    (get_either (parcels_from cpu 0 0 pages) (parcels_of_captures (suc cpu) captures) k p at)

no_parcels : Agree []
no_parcels = record {
  one_record = λ c n r other has too. absurd (none_some has.at);
  not_missing = λ c n r has misses. none_some has.at;
}

pub agree_all : (cpu : ℕ) (captures : List (List Page)) → Agree (parcels_of_captures cpu captures)
agree_all cpu [] = no_parcels
agree_all cpu (pages ∷ captures) =
    agree_both (parcels_from cpu 0 0 pages) (parcels_of_captures (suc cpu) captures) (agree cpu 0 0 pages)
    (agree_all (suc cpu) captures)
    (λ i j p q at_i at_j same.
    let is = cpu_of cpu 0 0 pages i p at_i in
    let high = cpus_above (suc cpu) captures j q at_j in omega (arith, is, high, same))
