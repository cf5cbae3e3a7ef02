-- The records of one parcel, one by one.
use Rattle.std.proofs.Common.{◌≡◌, ◌⊎◌, inl, inr, ⊎_elim, ℕ, zero, suc, ◌+◌, ◌-◌, ◌≤◌, Bool, true, false, ◌&&◌, eqb}
use Rattle.std.proofs.Common.{eqb-true, eq-eqb, List, [], ◌∷◌, drop, Option, Some, None, refl, sym, ap, ◌∙◌, arith}
use Rattle.std.specs.List.{slice_get, enumerate_from}
use Rattle.std.specs.Str.{bytes_eq}
use Rattle.std.proofs.lemmas.Slice.Eq.{bytes_eq-Decides}
use Rattle.std.specs.Option.{option_map, option_eq}
use Rattle.std.specs.Iterator.{YieldsFirstBy}
use Rattle.trace_model.specs.Record.{Record}
use Rattle.trace_model.specs.Parcel.{Parcel}
use Rattle.collector.specs.Entries.{record_of, numbered}
use Rattle.page_borrow.specs.declared.entries.Entry.{Entry}
use Rattle.page_borrow.specs.Entries.{numbered_record}
use Rattle.page_borrow.specs.contracts.entries.EntryPartialEq.TheImpl.{eq-value}

-- what is left after k records: none, or the next one and what is left after it
pub drop_at : {A : Type 0} (xs : List A) (k : ℕ) → ((drop k xs ≡ []) × (slice_get xs k ≡ None) × (drop (suc k) xs ≡ []))
    ⊎ ((x : A) × (drop k xs ≡ x ∷ drop (suc k) xs) × (slice_get xs k ≡ Some x))
drop_at [] zero = inl (refl, refl, refl)
drop_at [] (suc k) = inl (refl, refl, refl)
drop_at (x ∷ xs) zero = inr (x, refl, refl)
drop_at (x ∷ xs) (suc k) = drop_at xs k

-- what `==` of entries says
entry_test : (a b : Entry)
    → eq-value.it a b ≡ (eqb a.number.0 b.number.0 && (eqb a.moment.0 b.moment.0 && bytes_eq a.bytes.now b.bytes.now))
entry_test a b = refl

both : (p q : Bool) → (p && q) ≡ true → (p ≡ true) × (q ≡ true)
both true q e = (refl, e)
both false q e = cc

same_reported : (a b : Entry) → eq-value.it a b ≡ true → numbered_record a ≡ numbered_record b
same_reported a b e =
    let first =
    both (eqb a.number.0 b.number.0) (eqb a.moment.0 b.moment.0 && bytes_eq a.bytes.now b.bytes.now)
    (sym (entry_test a b) ∙ e) in
    let second = both (eqb a.moment.0 b.moment.0) (bytes_eq a.bytes.now b.bytes.now) first.1 in
    let number = eqb-true a.number.0 b.number.0 first.0 in
    let moment = eqb-true a.moment.0 b.moment.0 second.0 in
    let bytes = (bytes_eq-Decides a.bytes.now b.bytes.now).0 second.1 in
    λ i. (number i, record { moment = moment i; bytes = bytes i })

reported_same : (a b : Entry) → numbered_record a ≡ numbered_record b → eq-value.it a b ≡ true
reported_same a b e =
    let number = eq-eqb a.number.0 b.number.0 (ap (λ (p : ℕ × Record). p.0) e) in
    let moment = eq-eqb a.moment.0 b.moment.0 (ap (λ (p : ℕ × Record). p.1.moment) e) in
    let bytes = (bytes_eq-Decides a.bytes.now b.bytes.now).1 (ap (λ (p : ℕ × Record). p.1.bytes) e) in
    entry_test a b ∙ rw (number, moment, bytes) refl

-- what `==` of what two calls of `next` gave says
pub entries_same : (r s : Option Entry) → option_eq eq-value.it r s ≡ true
    → option_map numbered_record r ≡ option_map numbered_record s
entries_same None None e = refl
entries_same None (Some b) e = cc
entries_same (Some a) None e = cc
entries_same (Some a) (Some b) e = ap Some (same_reported a b e)

pub entries_differ : (r s : Option Entry) → option_eq eq-value.it r s ≡ false
    → option_map numbered_record r ≡ option_map numbered_record s → ⊥
entries_differ None None e same = cc
entries_differ None (Some b) e same = cc
entries_differ (Some a) None e same = cc
entries_differ (Some a) (Some b) e same =
    let h = reported_same a b (let t : numbered_record a ≡ numbered_record b = cc in t) in cc

-- one call of `next`
pub next_is : (n k : ℕ) (rs : List Record) (s t : List (ℕ × Record)) (r : Option Entry)
    → s ≡ enumerate_from n (drop k rs) → YieldsFirstBy numbered_record (λ (left : List (ℕ × Record)). left) s r t
    → (option_map numbered_record r ≡ option_map (numbered n) (slice_get rs k))
    × (t ≡ enumerate_from (n + 1) (drop (suc k) rs))
next_is n k rs s t None left step = ⊎_elim
    (λ none. (sym (ap (option_map (numbered n)) none.1), step.1 ∙ sym (ap (enumerate_from (n + 1)) none.2)))
    (λ some.
    absurd (cons_not_none (n, some.0) (enumerate_from (n + 1) (drop (suc k) rs))
    (sym (ap (enumerate_from n) some.1) ∙ sym left ∙ step.0)))
    (drop_at rs k)
  where
    cons_not_none : {A : Type 0} (x : A) (xs : List A) → x ∷ xs ≡ [] → ⊥
    cons_not_none x xs e = cc
next_is n k rs s t (Some entry) left step = ⊎_elim
    (λ none. absurd (cons_not_none (numbered_record entry) t (sym step ∙ left ∙ ap (enumerate_from n) none.0)))
    (λ some.
    let e : numbered_record entry ∷ t ≡ (n, some.0) ∷ enumerate_from (n + 1) (drop (suc k) rs) =
    sym step ∙ left ∙ ap (enumerate_from n) some.1 in
    (ap Some (let h : numbered_record entry ≡ (n, some.0) = cc in h) ∙ sym (ap (option_map (numbered n)) some.2), cc))
    (drop_at rs k)
  where
    cons_not_none : {A : Type 0} (x : A) (xs : List A) → x ∷ xs ≡ [] → ⊥
    cons_not_none x xs e = cc

numbered_same : (n : ℕ) (a b : Option Record) → option_map (numbered n) a ≡ option_map (numbered n) b → a ≡ b
numbered_same n None None e = refl
numbered_same n None (Some b) e = cc
numbered_same n (Some a) None e = cc
numbered_same n (Some a) (Some b) e =
    ap Some (let h : numbered n a ≡ numbered n b = cc in ap (λ (p : ℕ × Record). p.1) h)

-- two parcels' records under one number, by what two calls of `next` gave
module _ (p q : Parcel) (n : ℕ) (s t u v : List (ℕ × Record)) (r o : Option Entry)
    (left : s ≡ enumerate_from n (drop (n - p.first) p.records))
    (step : YieldsFirstBy numbered_record (λ (left : List (ℕ × Record)). left) s r t)
    (left' : u ≡ enumerate_from n (drop (n - q.first) q.records))
    (step' : YieldsFirstBy numbered_record (λ (left : List (ℕ × Record)). left) u o v) where
  own : option_map numbered_record r ≡ option_map (numbered n) (record_of p n)
  own = (next_is n (n - p.first) p.records s t r left step).0

  others : option_map numbered_record o ≡ option_map (numbered n) (record_of q n)
  others = (next_is n (n - q.first) q.records u v o left' step').0

  pub same_here : option_eq eq-value.it r o ≡ true → record_of p n ≡ record_of q n
  same_here e = numbered_same n (record_of p n) (record_of q n) (sym own ∙ entries_same r o e ∙ others)

  pub differ_here : option_eq eq-value.it r o ≡ false → record_of p n ≡ record_of q n → ⊥
  differ_here e same = entries_differ r o e (own ∙ ap (option_map (numbered n)) same ∙ sym others)

-- what is left after one call of `next`
pub left_behind : (p : Parcel) (n : ℕ) (s t : List (ℕ × Record)) (r : Option Entry) → p.first ≤ n
    → s ≡ enumerate_from n (drop (n - p.first) p.records)
    → YieldsFirstBy numbered_record (λ (left : List (ℕ × Record)). left) s r t
    → t ≡ enumerate_from (n + 1) (drop (n + 1 - p.first) p.records)
left_behind p n s t r from left step =
    let e : suc (n - p.first) ≡ n + 1 - p.first = omega arith in
    (next_is n (n - p.first) p.records s t r left step).1 ∙ ap (λ (k : ℕ). enumerate_from (n + 1) (drop k p.records)) e
