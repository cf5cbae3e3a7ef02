-- The records of a CPU that are left from a number on.
use Rattle.std.proofs.Common.{◌≡◌, ℕ, zero, suc, ◌+◌, ◌-◌, ◌^◌, ◌<◌, ◌≤◌, Bool, true, false, cond, eqb, leb, ◌&&◌, List}
use Rattle.std.proofs.Common.{[], ◌∷◌, drop, Option, Some, None, refl, sym, ap, ◌∙◌, subst, arith}
use Rattle.std.specs.List.{slice_get, enumerate_from}
use Rattle.std.proofs.lemmas.Bool.Decides.{nat_tests}
use Rattle.std.proofs.lemmas.Option.{none-some}
use Rattle.trace_model.specs.Record.{Record}
use Rattle.trace_model.specs.Parcel.{Parcel, IsPairOf}
use Rattle.trace_model.specs.Collection.{Has, Agree}
use Rattle.trace_model.proofs.collections.Elements.{some_is}
use Rattle.collector.specs.Sound.{AreSound}
use Rattle.collector.specs.Index.{IsIn}
use Rattle.collector.specs.Listed.{AreRecordsOf, AreRecordsFrom, first_there, record_under, first_record, records_left}
use Rattle.collector.specs.Listed.{GoOn, GoOnIfAny}
use Rattle.collector.proofs.Indexing.{record_at}
use Rattle.collector.proofs.Lists.{same_listed, Finds, listed_are, listed_skip, listed_none, listed_first}
use Rattle.collector.proofs.Stretches.{record_fits}

-- ---- the record under a number, computed

under_here : (p : Parcel) (cpu n : ℕ) (r : Record) → IsPairOf p cpu n r → record_under p cpu n ≡ Some r
under_here p cpu n r h =
    let a = h.cpu_is in
    let b = h.number_is in
    let test : (eqb cpu p.cpu && leb p.first n) ≡ true = grind (arith, nat_tests) in
    let e : n - p.first ≡ h.index = omega arith in
    ap (λ (t : Bool). cond t (slice_get p.records (n - p.first)) None) test ∙ ap (slice_get p.records) e ∙ h.record_is

here_under : (p : Parcel) (cpu n : ℕ) (r : Record) → record_under p cpu n ≡ Some r → IsPairOf p cpu n r
here_under p cpu n r e = by_test (eqb cpu p.cpu && leb p.first n) refl
  where
    by_test : (t : Bool) → (eqb cpu p.cpu && leb p.first n) ≡ t → IsPairOf p cpu n r
    by_test false is =
        absurd (none-some r (sym (ap (λ (t : Bool). cond t (slice_get p.records (n - p.first)) None) is) ∙ e))
    by_test true is =
        let up : p.first ≤ n = grind (arith, nat_tests) in
        record {
          index = n - p.first;
          cpu_is = grind (arith, nat_tests);
          number_is = omega arith;
          record_is = sym (ap (λ (t : Bool). cond t (slice_get p.records (n - p.first)) None) is) ∙ e;
        }

first_step : (p : Parcel) (ps : List Parcel) (cpu n : ℕ) (r : Record)
    → (first_record ps cpu n ≡ Some r → Has ps cpu n r)
    → (o : Option Record) → record_under p cpu n ≡ o → first_there o (first_record ps cpu n) ≡ Some r
    → Has (p ∷ ps) cpu n r
first_step p ps cpu n r behind None is e =
    let h = behind e in
    record { index = suc h.index; parcel = h.parcel; at = h.at; pair = h.pair }
first_step p ps cpu n r behind (Some s) is e =
    record { index = 0; parcel = p; at = refl; pair = here_under p cpu n r (is ∙ e) }

pub first_has : (ps : List Parcel) (cpu n : ℕ) (r : Record) → first_record ps cpu n ≡ Some r → Has ps cpu n r
first_has [] cpu n r e = absurd (none-some r e)
first_has (p ∷ ps) cpu n r e = first_step p ps cpu n r (first_has ps cpu n r) (record_under p cpu n) refl e

found_here : (o other : Option Record) (r : Record) → o ≡ Some r → (s : Record) × (first_there o other ≡ Some s)
found_here o other r e = (r, ap (λ (o : Option Record). first_there o other) e)

found_behind : (o other : Option Record) → ((s : Record) × (other ≡ Some s))
    → (s : Record) × (first_there o other ≡ Some s)
found_behind None other found = found
found_behind (Some s) other found = (s, refl)

pub some_first : (ps : List Parcel) (cpu n k : ℕ) (p : Parcel) (r : Record) → slice_get ps k ≡ Some p
    → IsPairOf p cpu n r → (s : Record) × (first_record ps cpu n ≡ Some s)
some_first [] cpu n k p r at pair = absurd (none-some p at)
some_first (q ∷ ps) cpu n zero p r at pair = found_here (record_under q cpu n) (first_record ps cpu n) r
    (under_here q cpu n r (subst (λ (x : Parcel). IsPairOf x cpu n r) (sym (some_is q p at)) pair))
some_first (q ∷ ps) cpu n (suc k) p r at pair =
    found_behind (record_under q cpu n) (first_record ps cpu n) (some_first ps cpu n k p r at pair)

pub has_first : (ps : List Parcel) → Agree ps → (cpu n : ℕ) (r : Record) → Has ps cpu n r
    → first_record ps cpu n ≡ Some r
has_first ps agree cpu n r h =
    let found = some_first ps cpu n h.index h.parcel r h.at h.pair in
    found.1 ∙ ap Some (agree.one_record cpu n found.0 r (first_has ps cpu n found.0 found.1) h)

none_unless : (o : Option Record) → ((r : Record) → o ≡ Some r → ⊥) → o ≡ None
none_unless None not = refl
none_unless (Some r) not = absurd (not r refl)

pub has_none : (ps : List Parcel) (cpu n : ℕ) → ((r : Record) → Has ps cpu n r → ⊥) → first_record ps cpu n ≡ None
has_none ps cpu n not = none_unless (first_record ps cpu n) (λ r e. not r (first_has ps cpu n r e))

-- ---- the records that are left

pub no_record_left : (ps : List Parcel) (cpu n : ℕ)
    → ((m : ℕ) (r : Record) → n ≤ m → m < 2 ^ 64 - 1 → Has ps cpu m r → ⊥) → records_left ps cpu n ≡ []
no_record_left ps cpu n none =
    listed_none (first_record ps cpu) (2 ^ 64 - 1) n (λ m from below. has_none ps cpu m (λ r h. none m r from below h))

pub records_skip : (ps : List Parcel) (cpu n m : ℕ) → n ≤ m → m ≤ 2 ^ 64 - 1
    → ((q : ℕ) (r : Record) → n ≤ q → q < m → Has ps cpu q r → ⊥) → records_left ps cpu n ≡ records_left ps cpu m
records_skip ps cpu n m up fits none =
    listed_skip (first_record ps cpu) (2 ^ 64 - 1) n m up fits
    (λ q from below. has_none ps cpu q (λ r h. none q r from below h))

pub first_record_left : (ps : List Parcel) (cpu n : ℕ) (r : Record) → n < 2 ^ 64 - 1 → first_record ps cpu n ≡ Some r
    → records_left ps cpu n ≡ (n, r) ∷ records_left ps cpu (n + 1)
first_record_left ps cpu n r below is = listed_first (first_record ps cpu) (2 ^ 64 - 1) n r below is

-- they are the records from that number on
pub records_are_left : (ps : List Parcel) (cpu from : ℕ) → Agree ps → AreSound ps → from < 2 ^ 64
    → AreRecordsFrom ps cpu from (records_left ps cpu from)
records_are_left ps cpu from agree sound fits =
    same_listed {P = Finds (first_record ps cpu) from (2 ^ 64 - 1)} (records_left ps cpu from)
    (λ m r f. record { has = first_has ps cpu m r f.found; up = f.from })
    (λ m r h.
    record { from = h.up; below = record_fits ps sound cpu m r h.has; found = has_first ps agree cpu m r h.has })
    (listed_are (first_record ps cpu) (2 ^ 64 - 1) (2 ^ 64 - 1 - from) from (omega arith))

-- from the first number on they are all of them
pub all_records_from : (ps : List Parcel) (cpu : ℕ) (list : List (ℕ × Record)) → AreRecordsFrom ps cpu 0 list
    → AreRecordsOf ps cpu list
all_records_from ps cpu list l = same_listed list (λ m r h. h.has) (λ m r h. record { has = h; up = omega arith }) l

-- ---- the entries of a parcel

numbered_at : (n k : ℕ) (rs : List Record) (r : Record) → slice_get rs k ≡ Some r
    → slice_get (enumerate_from n rs) k ≡ Some (n + k, r)
numbered_at n k [] r at = absurd (none-some r at)
numbered_at n zero (x ∷ rs) r at = let e : n ≡ n + 0 = omega arith in λ i. Some (e i, some_is x r at i)
numbered_at n (suc k) (x ∷ rs) r at = let e : n + 1 + k ≡ n + suc k = omega arith in
    numbered_at (n + 1) k rs r at ∙ ap (λ m. Some (m, r)) e

behind_at : (j k : ℕ) (rs : List Record) → slice_get (drop j rs) k ≡ slice_get rs (j + k)
behind_at zero k rs = ap (slice_get rs) (let e : k ≡ 0 + k = omega arith in e)
behind_at (suc j) k [] = refl
behind_at (suc j) k (x ∷ rs) =
    behind_at j k rs ∙ ap (slice_get (x ∷ rs)) (let e : suc (j + k) ≡ suc j + k = omega arith in e)

-- the entries from a number on continue with the records up to the end, if the parcel has all numbers up to there
pub go_on : (ps : List Parcel) → Agree ps → (cpu i n end : ℕ) (p : Parcel) → slice_get ps i ≡ Some p
    → ((m : ℕ) → n ≤ m → m < end → IsIn ps i cpu m)
    → GoOn ps cpu (enumerate_from n (drop (n - p.first) p.records)) n end
go_on ps agree cpu i n end p at all k below =
    let first = all n (omega arith) (omega arith) in
    let start : p.first ≤ n =
    subst (λ (q : Parcel). q.first ≤ n) (some_is first.parcel p (sym first.at ∙ at)) first.from in
    let is = all (n + k) (omega arith) below in
    let found = record_at is.parcel cpu (n + k) is.cpu_is is.from is.below in
    let pair : IsPairOf p cpu (n + k) found.0 =
    subst (λ (q : Parcel). IsPairOf q cpu (n + k) found.0) (some_is is.parcel p (sym is.at ∙ at)) found.1 in
    let number = pair.number_is in
    let e : n - p.first + k ≡ pair.index = omega arith in (
      found.0,
      numbered_at n k (drop (n - p.first) p.records) found.0
          (behind_at (n - p.first) k p.records ∙ ap (slice_get p.records) e ∙ pair.record_is),
      has_first ps agree cpu (n + k) found.0 record { index = i; parcel = p; at = at; pair = pair },
    )

-- an entry that is taken is the record of the number, and the others continue after it
pub record Taken (ps : List Parcel) (cpu : ℕ) (rest : List (ℕ × Record)) (n end : ℕ) (x : ℕ × Record) : Type 0 where
  pub r : Record
  pub is : x ≡ (n, r)
  pub found : first_record ps cpu n ≡ Some r
  pub rest_goes_on : GoOn ps cpu rest (n + 1) end

pub take_one : (ps : List Parcel) (cpu : ℕ) (entries rest : List (ℕ × Record)) (n end : ℕ) (x : ℕ × Record) → n < end
    → GoOn ps cpu entries n end → entries ≡ x ∷ rest → Taken ps cpu rest n end x
take_one ps cpu entries rest n end x below goes is =
    let first = goes 0 (omega arith) in
    let e : n + 0 ≡ n = omega arith in
    record {
      r = first.0;
      is = some_is x (n, first.0) (sym (ap (λ es. slice_get es 0) is) ∙ first.1 ∙ ap (λ m. Some (m, first.0)) e);
      found = sym (ap (first_record ps cpu) e) ∙ first.2;
      rest_goes_on = λ k more.
          let next = goes (suc k) (omega arith) in
          let f : n + suc k ≡ n + 1 + k = omega arith in (
            next.0,
            sym (ap (λ es. slice_get es (suc k)) is) ∙ next.1 ∙ ap (λ m. Some (m, next.0)) f,
            sym (ap (first_record ps cpu) f) ∙ next.2,
          );
    }

-- ---- a step of the walk

-- the entries are there, go on with the number, and what is left from it on is what was left
pub record IsReady (ps : List Parcel) (cpu : ℕ) (left : List (ℕ × Record)) (entries : Option (List (ℕ × Record)))
    (number end : ℕ) : Type 0 where
  pub below : number < end
  pub goes : GoOnIfAny ps cpu entries number end
  pub same : left ≡ records_left ps cpu number

-- what a taken entry was, and where the walk is after it
pub record IsStep (ps : List Parcel) (cpu : ℕ) (left rest : List (ℕ × Record)) (number end : ℕ) (x : ℕ × Record) : Type
    0 where
  pub first : left ≡ x ∷ records_left ps cpu (number + 1)
  pub goes : GoOnIfAny ps cpu (Some rest) (number + 1) end

stepped : (ps : List Parcel) (cpu : ℕ) (left entries rest : List (ℕ × Record)) (number end : ℕ) (x : ℕ × Record)
    → IsReady ps cpu left (Some entries) number end → entries ≡ x ∷ rest → IsStep ps cpu left rest number end x
stepped ps cpu left entries rest number end x ready is =
    let fits = ready.goes.0 in
    let below = ready.below in
    let taken = take_one ps cpu entries rest number end x ready.below ready.goes.1 is in
    record {
      first =
          ready.same ∙ first_record_left ps cpu number taken.r (omega arith) taken.found
          ∙ ap (λ (y : ℕ × Record). y ∷ records_left ps cpu (number + 1)) (sym taken.is);
      goes = (fits, taken.rest_goes_on);
    }

pub step_taken : (ps : List Parcel) (cpu : ℕ) (left : List (ℕ × Record)) (o : Option (List (ℕ × Record)))
    (entries rest : List (ℕ × Record)) (number end : ℕ) (x : ℕ × Record)
    → IsReady ps cpu left o number end → o ≡ Some entries → entries ≡ x ∷ rest → IsStep ps cpu left rest number end x
step_taken ps cpu left o entries rest number end x ready there is =
    stepped ps cpu left entries rest number end x
    (subst (λ (o : Option (List (ℕ × Record))). IsReady ps cpu left o number end) there ready) is
