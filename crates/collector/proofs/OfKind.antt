-- Whether a number of a CPU is of a kind: computed, and as what is stated of it.
use Rattle.std.proofs.Common.{◌≡◌, ◌⊎◌, ⊎_elim, inl, inr, ℕ, ◌<◌, Bool, true, false, not, ◌||◌, is_some, ◌-◌, ◌^◌, List}
use Rattle.std.proofs.Common.{Option, Some, None, refl, sym, ap, ◌∙◌, arith}
use Rattle.std.proofs.lemmas.Bool.{false≢true}
use Rattle.trace_model.specs.Record.{Record}
use Rattle.trace_model.specs.Parcel.{Parcel}
use Rattle.trace_model.specs.Collection.{Agree}
use Rattle.collector.specs.declared.kinds.Kind.{Kind}
use Rattle.collector.specs.declared.kinds.Kind.TheVariants.{Missing as MissingKind, Unknown as UnknownKind}
use Rattle.collector.specs.declared.ranges.Content.{Content}
use Rattle.collector.specs.declared.ranges.Content.TheVariants.{Kept, Missing}
use Rattle.collector.specs.Sound.{AreSound}
use Rattle.collector.specs.Shown.{IsUnknown, IsContentAt}
use Rattle.collector.specs.Known.{IsKnown}
use Rattle.collector.specs.Listed.{first_record}
use Rattle.collector.specs.Runs.{IsOfKind, is_missed, is_unknown, is_of_kind, states_kind}
use Rattle.collector.proofs.Indexing.{in_taken, known_of}
use Rattle.collector.proofs.Stretches.{record_fits, missing_fits, or_right, false_unless, is_missed_true}
use Rattle.collector.proofs.Stretches.{misses_of_true, is_missed_false}
use Rattle.collector.proofs.RecordsLeft.{first_has, some_first, has_none}

-- ---- unknown, computed

unknown_true : (ps : List Parcel) (cpu n : ℕ) → IsUnknown ps cpu n → is_unknown ps cpu n ≡ true
unknown_true ps cpu n u =
    let none = has_none ps cpu n u.no_record in
    let present = is_missed_false ps cpu n u.not_missing in
    λ i. not (is_some (none i) || present i)

unknown_of_true : (ps : List Parcel) (cpu n : ℕ) → is_unknown ps cpu n ≡ true → IsUnknown ps cpu n
unknown_of_true ps cpu n e = record {
  no_record = λ r h.
      let found = some_first ps cpu n h.index h.parcel r h.at h.pair in
      false≢true (sym (ap (λ (o : Option Record). not (is_some o || is_missed ps cpu n)) found.1) ∙ e);
  not_missing = λ m.
      false≢true (sym (ap not (or_right (is_some (first_record ps cpu n)) (is_missed ps cpu n)
      (is_missed_true ps cpu n m))) ∙ e);
}

known_by : (ps : List Parcel) (cpu n : ℕ) (o : Option Record) (missed : Bool) → first_record ps cpu n ≡ o
    → is_missed ps cpu n ≡ missed → (IsKnown ps cpu n) ⊎ (IsUnknown ps cpu n)
known_by ps cpu n (Some r) missed e f = inl (inl (r, first_has ps cpu n r e))
known_by ps cpu n None true e f = inl (inr (misses_of_true ps cpu n f))
known_by ps cpu n None false e f = inr (unknown_of_true ps cpu n (λ i. not (is_some (e i) || f i)))

pub known_or_unknown : (ps : List Parcel) (cpu n : ℕ) → (IsKnown ps cpu n) ⊎ (IsUnknown ps cpu n)
known_or_unknown ps cpu n = known_by ps cpu n (first_record ps cpu n) (is_missed ps cpu n) refl refl

pub known_unless : (ps : List Parcel) (cpu n : ℕ) → (IsUnknown ps cpu n → ⊥) → IsKnown ps cpu n
known_unless ps cpu n not = ⊎_elim (λ known. known) (λ unknown. absurd (not unknown)) (known_or_unknown ps cpu n)

-- what is known can be stated
pub known_fits : (ps : List Parcel) → AreSound ps → (cpu n : ℕ) → IsKnown ps cpu n → n < 2 ^ 64 - 1
known_fits ps sound cpu n known = ⊎_elim
    (λ (r, h). record_fits ps sound cpu n r h)
    (λ m. missing_fits ps sound cpu n m)
    known

-- no parcel has or misses the last number
pub last_unknown : (ps : List Parcel) (cpu : ℕ) → AreSound ps → IsUnknown ps cpu (2 ^ 64 - 1)
last_unknown ps cpu sound = record {
  no_record = λ r h. let fits = record_fits ps sound cpu (2 ^ 64 - 1) r h in omega arith;
  not_missing = λ m. let fits = missing_fits ps sound cpu (2 ^ 64 - 1) m in omega arith;
}

-- ---- of a kind, computed

pub is_of_true : (kind : Kind) (ps : List Parcel) (cpu n : ℕ) → IsOfKind kind ps cpu n → is_of_kind kind ps cpu n ≡ true
is_of_true MissingKind ps cpu n h = is_missed_true ps cpu n h
is_of_true UnknownKind ps cpu n h = unknown_true ps cpu n h

pub of_is_true : (kind : Kind) (ps : List Parcel) (cpu n : ℕ) → is_of_kind kind ps cpu n ≡ true → IsOfKind kind ps cpu n
of_is_true MissingKind ps cpu n e = misses_of_true ps cpu n e
of_is_true UnknownKind ps cpu n e = unknown_of_true ps cpu n e

pub is_of_false : (kind : Kind) (ps : List Parcel) (cpu n : ℕ) → (IsOfKind kind ps cpu n → ⊥)
    → is_of_kind kind ps cpu n ≡ false
is_of_false kind ps cpu n other = false_unless (is_of_kind kind ps cpu n) (λ e. other (of_is_true kind ps cpu n e))

-- ---- as what is stated

pub stated_of : (kind : Kind) (ps : List Parcel) (cpu n : ℕ) (o : Option Content) → states_kind kind o ≡ true
    → IsContentAt ps cpu n o → IsOfKind kind ps cpu n
stated_of MissingKind ps cpu n None e shown = absurd (false≢true e)
stated_of MissingKind ps cpu n (Some (Kept i)) e shown = absurd (false≢true e)
stated_of MissingKind ps cpu n (Some Missing) e shown = shown
stated_of UnknownKind ps cpu n None e shown = shown
stated_of UnknownKind ps cpu n (Some content) e shown = absurd (false≢true e)

known_not_unknown : (ps : List Parcel) (cpu n : ℕ) → IsKnown ps cpu n → IsUnknown ps cpu n → ⊥
known_not_unknown ps cpu n known unknown = ⊎_elim (λ (r, h). unknown.no_record r h) (λ m. unknown.not_missing m) known

pub stated_not_of : (kind : Kind) (ps : List Parcel) (cpu n : ℕ) (o : Option Content) → Agree ps
    → states_kind kind o ≡ false → IsContentAt ps cpu n o → IsOfKind kind ps cpu n → ⊥
stated_not_of MissingKind ps cpu n None agree e shown m = shown.not_missing m
stated_not_of MissingKind ps cpu n (Some (Kept i)) agree e shown m =
    let h = in_taken ps i cpu n shown in agree.not_missing cpu n h.0 h.1 m
stated_not_of MissingKind ps cpu n (Some Missing) agree e shown m = false≢true (sym e)
stated_not_of UnknownKind ps cpu n None agree e shown unknown = false≢true (sym e)
stated_not_of UnknownKind ps cpu n (Some content) agree e shown unknown =
    known_not_unknown ps cpu n (known_of ps cpu n content shown) unknown
