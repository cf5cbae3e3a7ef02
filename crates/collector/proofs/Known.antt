-- What is known stays, and what is below bounds may be dropped.
use Rattle.std.proofs.Common.{◌≡◌, ℕ, zero, suc, ◌+◌, ◌<◌, ◌≤◌, Bool, true, false, cond, not, List, [], ◌∷◌, ◌++◌}
use Rattle.std.proofs.Common.{append-nil, length, ⊎_elim, inl, inr, refl, ap, subst, arith}
use Rattle.std.proofs.lemmas.Bool.Decides.{nat_tests}
use Rattle.std.proofs.lemmas.Option.{none-some, slice_get_within}
use Rattle.trace_model.specs.Record.{Record}
use Rattle.trace_model.specs.Parcel.{Parcel}
use Rattle.trace_model.specs.Collection.{Has, Misses, Agree, IsBelow}
use Rattle.trace_model.proofs.collections.Elements.{some_is}
use Rattle.trace_model.proofs.collections.Joined.{joined_left, joined_right}
use Rattle.collector.specs.Known.{IsKnown, IsFinal, ends_below, AllEndBelow, without_ended, IsSameFrom}
use Rattle.collector.proofs.SideBySide.{has_either, misses_either}

-- ---- what is known

pub known_above : (ps qs : List Parcel) (cpu n : ℕ) → IsBelow ps qs → IsKnown ps cpu n → IsKnown qs cpu n
known_above ps qs cpu n below known = ⊎_elim
    (λ (r, h). inl (r, below.has cpu n r h))
    (λ m. inr (below.misses cpu n m))
    known

pub known_stays : (ps qs : List Parcel) (cpu n : ℕ) → IsKnown ps cpu n → IsKnown (ps ++ qs) cpu n
known_stays ps qs cpu n known = known_above ps (ps ++ qs) cpu n (joined_left ps qs) known

pub record_stays : (ps qs : List Parcel) (cpu n : ℕ) (r : Record) → Agree (ps ++ qs) → IsKnown ps cpu n
    → Has (ps ++ qs) cpu n r → Has ps cpu n r
record_stays ps qs cpu n r agree known there = ⊎_elim
    (λ (own, h). subst (Has ps cpu n) (agree.one_record cpu n own r ((joined_left ps qs).has cpu n own h) there) h)
    (λ m. absurd (agree.not_missing cpu n r there ((joined_left ps qs).misses cpu n m)))
    known

pub missing_stays : (ps qs : List Parcel) (cpu n : ℕ) → Agree (ps ++ qs) → IsKnown ps cpu n → Misses (ps ++ qs) cpu n
    → Misses ps cpu n
missing_stays ps qs cpu n agree known there = ⊎_elim
    (λ (own, h). absurd (agree.not_missing cpu n own ((joined_left ps qs).has cpu n own h) there))
    (λ m. m)
    known

pub final_stays : (ps qs : List Parcel) (cpu bound : ℕ) → IsFinal ps cpu bound → IsFinal (ps ++ qs) cpu bound
final_stays ps qs cpu bound final n below = known_stays ps qs cpu n (final n below)

pub final_joined : (ps qs : List Parcel) (cpu bound : ℕ) → IsFinal qs cpu bound → IsFinal (ps ++ qs) cpu bound
final_joined ps qs cpu bound final n below = known_above qs (ps ++ qs) cpu n (joined_right ps qs) (final n below)

pub records_below : (ps qs : List Parcel) (cpu bound n : ℕ) (r : Record) → Agree (ps ++ qs) → IsFinal ps cpu bound
    → n < bound → Has (ps ++ qs) cpu n r → Has ps cpu n r
records_below ps qs cpu bound n r agree final below = record_stays ps qs cpu n r agree (final n below)

pub missing_below : (ps qs : List Parcel) (cpu bound n : ℕ) → Agree (ps ++ qs) → IsFinal ps cpu bound → n < bound
    → Misses (ps ++ qs) cpu n → Misses ps cpu n
missing_below ps qs cpu bound n agree final below = missing_stays ps qs cpu n agree (final n below)

-- ---- the same from bounds on

pub from_itself : (bounds : ℕ → ℕ) (ps : List Parcel) → IsSameFrom bounds ps ps
from_itself bounds ps = record {
  has = λ cpu n r from. (λ h. h, λ h. h);
  misses = λ cpu n from. (λ m. m, λ m. m);
}

either_has : (ps ks qs ls : List Parcel) (cpu n : ℕ) (r : Record) → (Has ps cpu n r → Has ks cpu n r)
    → (Has qs cpu n r → Has ls cpu n r) → Has (ps ++ qs) cpu n r → Has (ks ++ ls) cpu n r
either_has ps ks qs ls cpu n r a b h = ⊎_elim
    (λ own. (joined_left ks ls).has cpu n r (a own))
    (λ other. (joined_right ks ls).has cpu n r (b other))
    (has_either ps qs cpu n r h)

either_misses : (ps ks qs ls : List Parcel) (cpu n : ℕ) → (Misses ps cpu n → Misses ks cpu n)
    → (Misses qs cpu n → Misses ls cpu n) → Misses (ps ++ qs) cpu n → Misses (ks ++ ls) cpu n
either_misses ps ks qs ls cpu n a b m = ⊎_elim
    (λ own. (joined_left ks ls).misses cpu n (a own))
    (λ other. (joined_right ks ls).misses cpu n (b other))
    (misses_either ps qs cpu n m)

pub joined_from : (ps ks qs ls : List Parcel) (bounds : ℕ → ℕ) → IsSameFrom bounds ps ks → IsSameFrom bounds qs ls
    → IsSameFrom bounds (ps ++ qs) (ks ++ ls)
joined_from ps ks qs ls bounds a b = record {
  has = λ cpu n r from. (
    either_has ps ks qs ls cpu n r (a.has cpu n r from).0 (b.has cpu n r from).0,
    either_has ks ps ls qs cpu n r (a.has cpu n r from).1 (b.has cpu n r from).1,
  );
  misses = λ cpu n from. (
    either_misses ps ks qs ls cpu n (a.misses cpu n from).0 (b.misses cpu n from).0,
    either_misses ks ps ls qs cpu n (a.misses cpu n from).1 (b.misses cpu n from).1,
  );
}

pub raised_from : (ps ks : List Parcel) (low high : ℕ → ℕ) → ((cpu : ℕ) → low cpu ≤ high cpu) → IsSameFrom low ps ks
    → IsSameFrom high ps ks
raised_from ps ks low high above same = record {
  has = λ cpu n r from. same.has cpu n r (let up = above cpu in omega arith);
  misses = λ cpu n from. same.misses cpu n (let up = above cpu in omega arith);
}

-- ---- dropped

ends_by : (bounds : ℕ → ℕ) (p : Parcel) → ends_below bounds p ≡ true → p.first + length p.records ≤ bounds p.cpu
ends_by bounds p e = grind (arith, nat_tests)

no_record : (bounds : ℕ → ℕ) (ps : List Parcel) (cpu n : ℕ) (r : Record) → AllEndBelow bounds ps → bounds cpu ≤ n
    → Has ps cpu n r → ⊥
no_record bounds ps cpu n r ended from h =
    let within = slice_get_within h.parcel.records h.pair.index r h.pair.record_is in
    let up = ends_by bounds h.parcel (ended h.index h.parcel h.at) in
    let same : bounds cpu ≡ bounds h.parcel.cpu = ap bounds h.pair.cpu_is in
    let is = h.pair.number_is in
    omega arith

not_missing : (bounds : ℕ → ℕ) (ps : List Parcel) (cpu n : ℕ) → AllEndBelow bounds ps → bounds cpu ≤ n
    → Misses ps cpu n → ⊥
not_missing bounds ps cpu n ended from m =
    let up = ends_by bounds m.parcel (ended m.index m.parcel m.at) in
    let same : bounds cpu ≡ bounds m.parcel.cpu = ap bounds m.missing.cpu_is in
    let high = m.missing.high in
    omega arith

-- from the bounds on they have and miss nothing
nothing_from : (bounds : ℕ → ℕ) (ps : List Parcel) → AllEndBelow bounds ps → IsSameFrom bounds ps []
nothing_from bounds ps ended = record {
  has = λ cpu n r from. (λ h. absurd (no_record bounds ps cpu n r ended from h), λ h. absurd (none-some h.parcel h.at));
  misses = λ cpu n from.
      (λ m. absurd (not_missing bounds ps cpu n ended from m), λ m. absurd (none-some m.parcel m.at));
}

pub dropped_from : (ps ds qs : List Parcel) (bounds : ℕ → ℕ) → AllEndBelow bounds ds
    → IsSameFrom bounds ((ps ++ ds) ++ qs) (ps ++ qs)
dropped_from ps ds qs bounds ended = joined_from (ps ++ ds) ps qs qs bounds
    (subst (IsSameFrom bounds (ps ++ ds)) (append-nil ps)
    (joined_from ps ps ds [] bounds (from_itself bounds ps) (nothing_from bounds ds ended)))
    (from_itself bounds qs)

one_ended : (bounds : ℕ → ℕ) (p : Parcel) → ends_below bounds p ≡ true → AllEndBelow bounds (p ∷ [])
one_ended bounds p e zero q at = subst (λ (x : Parcel). ends_below bounds x ≡ true) (some_is p q at) e
one_ended bounds p e (suc k) q at = absurd (none-some q at)

pub filtered_from : (ps : List Parcel) (bounds : ℕ → ℕ) → IsSameFrom bounds ps (without_ended bounds ps)
filtered_from [] bounds = from_itself bounds []
filtered_from (p ∷ ps) bounds = one (filtered_from ps bounds) (ends_below bounds p) refl
  where
    rest : List Parcel
    rest = without_ended bounds ps

    one : IsSameFrom bounds ps rest → (ended : Bool) → ends_below bounds p ≡ ended
        → IsSameFrom bounds (p ∷ ps) (cond (not ended) (p ∷ rest) rest)
    one same true e = joined_from (p ∷ []) [] ps rest bounds (nothing_from bounds (p ∷ []) (one_ended bounds p e)) same
    one same false e = joined_from (p ∷ []) (p ∷ []) ps rest bounds (from_itself bounds (p ∷ [])) same
