-- What a stretch states of its own numbers, and the numbers of sound parcels.
use Rattle.std.proofs.Common.{◌≡◌, ◌⊎◌, inl, inr, ⊎_elim, ℕ, zero, suc, ◌+◌, ◌-◌, ◌^◌, ◌<◌, Bool, true, false, eqb, leb}
use Rattle.std.proofs.Common.{ltb, ◌&&◌, ◌||◌, List, [], ◌∷◌, Option, Some, None, refl, sym, ap, subst, arith}
use Rattle.std.specs.List.{slice_get}
use Rattle.std.proofs.lemmas.Bool.Decides.{nat_tests}
use Rattle.std.proofs.lemmas.Option.{none-some, slice_get_within}
use Rattle.trace_model.specs.Record.{Record}
use Rattle.trace_model.specs.Parcel.{Parcel, IsMissingOf}
use Rattle.trace_model.specs.Collection.{Has, Misses, Agree}
use Rattle.trace_model.proofs.collections.Elements.{some_is}
use Rattle.collector.specs.declared.ranges.Content.{Content}
use Rattle.collector.specs.declared.ranges.Content.TheVariants.{Kept, Missing}
use Rattle.collector.specs.Sound.{AreSound}
use Rattle.collector.specs.Shown.{IsContentAt}
use Rattle.collector.specs.Runs.{is_missed}

pub shown_no_record : (ps : List Parcel) (cpu n : ℕ) (o : Option Content) → Agree ps → ((i : ℕ) → o ≡ Some (Kept i) → ⊥)
    → IsContentAt ps cpu n o → (r : Record) → Has ps cpu n r → ⊥
shown_no_record ps cpu n (Some (Kept i)) agree not shown r h = not i refl
shown_no_record ps cpu n (Some Missing) agree not shown r h = agree.not_missing cpu n r h shown
shown_no_record ps cpu n None agree not shown r h = shown.no_record r h

-- ---- numbers fit

pub missing_fits : (ps : List Parcel) → AreSound ps → (cpu n : ℕ) → Misses ps cpu n → n < 2 ^ 64 - 1
missing_fits ps sound cpu n m =
    let is = sound m.index m.parcel m.at in
    let a = is.numbers_fit in
    let b = m.missing.high in
    omega arith

pub record_fits : (ps : List Parcel) → AreSound ps → (cpu n : ℕ) (r : Record) → Has ps cpu n r → n < 2 ^ 64 - 1
record_fits ps sound cpu n r h =
    let is = sound h.index h.parcel h.at in
    let a = is.numbers_fit in
    let b = h.pair.number_is in
    let c = slice_get_within h.parcel.records h.pair.index r h.pair.record_is in
    omega arith

-- ---- whether a number is missing, computed

or_left : (a b : Bool) → a ≡ true → (a || b) ≡ true
or_left a b e = ap (λ (x : Bool). x || b) e

pub or_right : (a b : Bool) → b ≡ true → (a || b) ≡ true
or_right true b e = refl
or_right false b e = e

or_cases : (a b : Bool) → (a || b) ≡ true → (a ≡ true) ⊎ (b ≡ true)
or_cases true b e = inl refl
or_cases false b e = inr e

missed_here : (p : Parcel) (cpu n : ℕ) → IsMissingOf p cpu n
    → (eqb cpu p.cpu && (leb p.first (n + p.missed) && ltb n p.first)) ≡ true
missed_here p cpu n m =
    let a = m.cpu_is in
    let b = m.low in
    let c = m.high in
    grind (arith, nat_tests)

missing_here : (p : Parcel) (cpu n : ℕ) → (eqb cpu p.cpu && (leb p.first (n + p.missed) && ltb n p.first)) ≡ true
    → IsMissingOf p cpu n
missing_here p cpu n e =
    record { cpu_is = grind (arith, nat_tests); low = grind (arith, nat_tests); high = grind (arith, nat_tests) }

missed_at : (ps : List Parcel) (cpu n k : ℕ) (p : Parcel) → slice_get ps k ≡ Some p → IsMissingOf p cpu n
    → is_missed ps cpu n ≡ true
missed_at [] cpu n k p at m = absurd (none-some p at)
missed_at (q ∷ ps) cpu n zero p at m =
    or_left _ (is_missed ps cpu n)
    (missed_here q cpu n (subst (λ (x : Parcel). IsMissingOf x cpu n) (sym (some_is q p at)) m))
missed_at (q ∷ ps) cpu n (suc k) p at m =
    or_right (eqb cpu q.cpu && (leb q.first (n + q.missed) && ltb n q.first)) (is_missed ps cpu n)
    (missed_at ps cpu n k p at m)

pub is_missed_true : (ps : List Parcel) (cpu n : ℕ) → Misses ps cpu n → is_missed ps cpu n ≡ true
is_missed_true ps cpu n m = missed_at ps cpu n m.index m.parcel m.at m.missing

pub misses_of_true : (ps : List Parcel) (cpu n : ℕ) → is_missed ps cpu n ≡ true → Misses ps cpu n
misses_of_true [] cpu n e = absurd (cc)
misses_of_true (p ∷ ps) cpu n e = ⊎_elim
    (λ (here : (eqb cpu p.cpu && (leb p.first (n + p.missed) && ltb n p.first)) ≡ true).
    record { index = 0; parcel = p; at = refl; missing = missing_here p cpu n here })
    (λ (behind : is_missed ps cpu n ≡ true). let m = misses_of_true ps cpu n behind in
    record { index = suc m.index; parcel = m.parcel; at = m.at; missing = m.missing })
    (or_cases (eqb cpu p.cpu && (leb p.first (n + p.missed) && ltb n p.first)) (is_missed ps cpu n) e)

pub false_unless : (b : Bool) → (b ≡ true → ⊥) → b ≡ false
false_unless true not = absurd (not refl)
false_unless false not = refl

pub is_missed_false : (ps : List Parcel) (cpu n : ℕ) → (Misses ps cpu n → ⊥) → is_missed ps cpu n ≡ false
is_missed_false ps cpu n not = false_unless (is_missed ps cpu n) (λ e. not (misses_of_true ps cpu n e))
