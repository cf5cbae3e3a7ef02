-- A parcel beside those that are kept: whether it fits, and whether it adds something, number by number.
use Rattle.std.proofs.Common.{◌≡◌, ◌≢◌, ◌⊎◌, inl, inr, ⊎_elim, ℕ, ◌+◌, ◌-◌, ◌<◌, ◌≤◌, Bool, true, false, MatchBool}
use Rattle.std.proofs.Common.{List, [], ◌∷◌, ◌++◌, length, Some, refl, sym, ap, ◌∙◌, subst, arith}
use Rattle.std.specs.List.{slice_get}
use Rattle.std.proofs.lemmas.Bool.{cases_lt, cases_eq}
use Rattle.std.proofs.lemmas.Option.{none-some, slice_get_within}
use Rattle.trace_model.specs.Record.{Record}
use Rattle.trace_model.specs.Parcel.{Parcel, IsPairOf, IsMissingOf}
use Rattle.trace_model.specs.Collection.{Has, Misses, Agree, IsBelow, IsSame}
use Rattle.trace_model.proofs.collections.Elements.{some_is}
use Rattle.trace_model.proofs.collections.Joined.{joined_left, joined_right, joined_below}
use Rattle.trace_model.proofs.collections.Collections.{below_itself}
use Rattle.collector.specs.Index.{IsIn}
use Rattle.collector.specs.Shown.{IsUnknown}
use Rattle.collector.specs.Entries.{record_of}
use Rattle.collector.specs.Adding.{FitsAt, IsThere, IsLookedAt}
use Rattle.collector.specs.Faults.{IsClashAt, IsTakenAndMissingAt, IsBeforeNumber, AgreeBefore, IsAddFault}
use Rattle.collector.specs.declared.fault.AddFault.{AddFault}
use Rattle.collector.specs.declared.fault.AddFault.TheVariants.{Clash, TakenAndMissing, NoMemory}
use Rattle.collector.proofs.Walks.{one_of_both}
use Rattle.collector.proofs.Places.{get_pushed}
use Rattle.collector.proofs.Indexing.{same_record, record_at, in_taken}

-- ---- who has it

pub has_either : (ps : List Parcel) (p : Parcel) (cpu n : ℕ) (r : Record) → Has (ps ++ p ∷ []) cpu n r
    → (Has ps cpu n r) ⊎ (IsPairOf p cpu n r)
has_either ps p cpu n r h = ⊎_elim
    (λ (there : slice_get ps h.index ≡ Some h.parcel).
    inl record { index = h.index; parcel = h.parcel; at = there; pair = h.pair })
    (λ (own : (h.index ≡ length ps) × (h.parcel ≡ p)). inr (subst (λ (q : Parcel). IsPairOf q cpu n r) own.1 h.pair))
    (get_pushed ps p h.index h.parcel h.at)

pub misses_either : (ps : List Parcel) (p : Parcel) (cpu n : ℕ) → Misses (ps ++ p ∷ []) cpu n
    → (Misses ps cpu n) ⊎ (IsMissingOf p cpu n)
misses_either ps p cpu n m = ⊎_elim
    (λ (there : slice_get ps m.index ≡ Some m.parcel).
    inl record { index = m.index; parcel = m.parcel; at = there; missing = m.missing })
    (λ (own : (m.index ≡ length ps) × (m.parcel ≡ p)).
    inr (subst (λ (q : Parcel). IsMissingOf q cpu n) own.1 m.missing))
    (get_pushed ps p m.index m.parcel m.at)

pub has_own : (p : Parcel) (cpu n : ℕ) (r : Record) → IsPairOf p cpu n r → Has (p ∷ []) cpu n r
has_own p cpu n r pair = record { index = 0; parcel = p; at = refl; pair = pair }

pub misses_own : (p : Parcel) (cpu n : ℕ) → IsMissingOf p cpu n → Misses (p ∷ []) cpu n
misses_own p cpu n missing = record { index = 0; parcel = p; at = refl; missing = missing }

pub own_has : (p : Parcel) (cpu n : ℕ) (r : Record) → Has (p ∷ []) cpu n r → IsPairOf p cpu n r
own_has p cpu n r h = ⊎_elim (λ none. absurd (none-some none.parcel none.at)) (λ pair. pair) (has_either [] p cpu n r h)

pub own_misses : (p : Parcel) (cpu n : ℕ) → Misses (p ∷ []) cpu n → IsMissingOf p cpu n
own_misses p cpu n m =
    ⊎_elim (λ none. absurd (none-some none.parcel none.at)) (λ missing. missing) (misses_either [] p cpu n m)

pair_from : (p : Parcel) (cpu n : ℕ) (r : Record) → IsPairOf p cpu n r → p.first ≤ n
pair_from p cpu n r pair = let is = pair.number_is in omega arith

pair_below : (p : Parcel) (cpu n : ℕ) (r : Record) → IsPairOf p cpu n r → n < p.first + length p.records
pair_below p cpu n r pair = let is = pair.number_is in
    let within = slice_get_within p.records pair.index r pair.record_is in
    omega arith

-- ---- a parcel that fits

one_of : (ps : List Parcel) (p : Parcel) (c n : ℕ) → Agree ps → FitsAt ps p c n → (r other : Record)
    → Has (ps ++ p ∷ []) c n r → Has (ps ++ p ∷ []) c n other → r ≡ other
one_of ps p c n agree fits r other h g = one_of_both (Has ps c n) (IsPairOf p c n) r other
    (has_either ps p c n r h) (has_either ps p c n other g)
    (agree.one_record c n r other) (fits.one_record r other) (fits.one_record other r) (same_record p c n r other)

not_both : (ps : List Parcel) (p : Parcel) (c n : ℕ) → Agree ps → FitsAt ps p c n → (r : Record)
    → Has (ps ++ p ∷ []) c n r → Misses (ps ++ p ∷ []) c n → ⊥
not_both ps p c n agree fits r h m = ⊎_elim
    (λ (a : Has ps c n r). ⊎_elim
    (λ (b : Misses ps c n). agree.not_missing c n r a b)
    (λ (b : IsMissingOf p c n). fits.not_missing r a b)
    (misses_either ps p c n m))
    (λ (a : IsPairOf p c n r). ⊎_elim
    (λ (b : Misses ps c n). fits.not_taken r b a)
    (λ (b : IsMissingOf p c n). let from = pair_from p c n r a in let high = b.high in absurd (omega arith))
    (misses_either ps p c n m))
    (has_either ps p c n r h)

-- if the parcel has nothing
apart_fits : (ps : List Parcel) (p : Parcel) (c n : ℕ) → ((r : Record) → IsPairOf p c n r → ⊥) → (IsMissingOf p c n → ⊥)
    → FitsAt ps p c n
apart_fits ps p c n no_pair not_missing = record {
  one_record = λ r other h pair. absurd (no_pair other pair);
  not_missing = λ r h m. not_missing m;
  not_taken = λ r m pair. no_pair r pair;
}

-- before all that it has
front_fits : (ps : List Parcel) (p : Parcel) (c n : ℕ) → n + p.missed < p.first → FitsAt ps p c n
front_fits ps p c n front = apart_fits ps p c n
    (λ r pair. let from = pair_from p c n r pair in omega arith)
    (λ m. let low = m.low in omega arith)

all_fit : (ps : List Parcel) (p : Parcel)
    → ((n : ℕ) → p.first - p.missed ≤ n → n < p.first → FitsAt ps p p.cpu n)
    → ((n : ℕ) → p.first ≤ n → n < p.first + length p.records → FitsAt ps p p.cpu n)
    → (c n : ℕ) → FitsAt ps p c n
all_fit ps p missing records c n = ⊎_elim
    (λ (e : c ≡ p.cpu). subst (λ (q : ℕ). FitsAt ps p q n) (sym e) (⊎_elim
    (λ (lt : n < p.first). ⊎_elim
    (λ (front : n < p.first - p.missed). front_fits ps p p.cpu n (omega arith))
    (λ (ge : p.first - p.missed ≤ n). missing n ge lt)
    (cases_lt n (p.first - p.missed)))
    (λ (from : p.first ≤ n). ⊎_elim
    (λ (below : n < p.first + length p.records). records n from below)
    (λ (behind : p.first + length p.records ≤ n). apart_fits ps p p.cpu n
    (λ r pair. let below = pair_below p p.cpu n r pair in omega arith)
    (λ m. let high = m.high in omega arith))
    (cases_lt n (p.first + length p.records)))
    (cases_lt n p.first)))
    (λ (ne : c ≢ p.cpu). apart_fits ps p c n (λ r pair. ne pair.cpu_is) (λ m. ne m.cpu_is))
    (cases_eq c p.cpu)

pub fits_agree : (ps : List Parcel) (p : Parcel) → Agree ps
    → ((n : ℕ) → p.first - p.missed ≤ n → n < p.first → FitsAt ps p p.cpu n)
    → ((n : ℕ) → p.first ≤ n → n < p.first + length p.records → FitsAt ps p p.cpu n)
    → Agree (ps ++ p ∷ [])
fits_agree ps p agree missing records = record {
  one_record = λ c n r other h g. one_of ps p c n agree (all_fit ps p missing records c n) r other h g;
  not_missing = λ c n r h m. not_both ps p c n agree (all_fit ps p missing records c n) r h m;
}

-- ---- the least number at odds

front_agrees : (ps : List Parcel) (p : Parcel) (n : ℕ) → Agree ps
    → ((m : ℕ) → p.first - p.missed ≤ m → m < n → FitsAt ps p p.cpu m) → AgreeBefore (ps ++ p ∷ []) p.cpu n
front_agrees ps p n agree fits = record {
  no_clash =
      λ c m front clash.
      clash.differ
      (one_of ps p c m agree (fits_front c m front) clash.one clash.other clash.has clash.has_other);
  none_taken_and_missing =
      λ c m front both. not_both ps p c m agree (fits_front c m front) both.one both.has both.misses;
}
  where
    fits_front : (c m : ℕ) → IsBeforeNumber c m p.cpu n → FitsAt ps p c m
    fits_front c m front = ⊎_elim
        (λ (lt : c < p.cpu).
        apart_fits ps p c m (λ r pair. let e = pair.cpu_is in omega arith) (λ m. let e = m.cpu_is in omega arith))
        (λ (same : (c ≡ p.cpu) × (m < n)). subst (λ (q : ℕ). FitsAt ps p q m) (sym same.0) (⊎_elim
        (λ (lt : m < p.first - p.missed). front_fits ps p p.cpu m (omega arith))
        (λ (ge : p.first - p.missed ≤ m). fits m ge same.1)
        (cases_lt m (p.first - p.missed))))
        front

pub missing_is_taken : (ps : List Parcel) (p : Parcel) (i cpu n : ℕ) → cpu ≡ p.cpu → Agree ps → IsIn ps i cpu n
    → p.first - p.missed ≤ n → n < p.first → ((m : ℕ) → p.first - p.missed ≤ m → m < n → FitsAt ps p p.cpu m)
    → IsTakenAndMissingAt (ps ++ p ∷ []) cpu n × AgreeBefore (ps ++ p ∷ []) cpu n
missing_is_taken ps p i cpu n e agree x low high fits =
    let found = in_taken ps i cpu n x in (
      record {
        one = found.0;
        has = (joined_left ps (p ∷ [])).has cpu n found.0 found.1;
        misses =
            (joined_right ps (p ∷ [])).misses cpu n
            (misses_own p cpu n record { cpu_is = e; low = omega arith; high = high });
      },
      subst (λ (q : ℕ). AgreeBefore (ps ++ p ∷ []) q n) (sym e) (front_agrees ps p n agree fits),
    )

pub record_is_missing : (ps : List Parcel) (p : Parcel) (cpu n : ℕ) → cpu ≡ p.cpu → Agree ps → Misses ps cpu n
    → p.first ≤ n → n < p.first + length p.records → ((m : ℕ) → p.first - p.missed ≤ m → m < n → FitsAt ps p p.cpu m)
    → IsTakenAndMissingAt (ps ++ p ∷ []) cpu n × AgreeBefore (ps ++ p ∷ []) cpu n
record_is_missing ps p cpu n e agree m from below fits =
    let found = record_at p cpu n e from below in (
      record {
        one = found.0;
        has = (joined_right ps (p ∷ [])).has cpu n found.0 (has_own p cpu n found.0 found.1);
        misses = (joined_left ps (p ∷ [])).misses cpu n m;
      },
      subst (λ (q : ℕ). AgreeBefore (ps ++ p ∷ []) q n) (sym e) (front_agrees ps p n agree fits),
    )

pair_of : (p : Parcel) (cpu n : ℕ) (r : Record) → IsPairOf p cpu n r → record_of p n ≡ Some r
pair_of p cpu n r pair = let is = pair.number_is in
    ap (slice_get p.records) (let e : n - p.first ≡ pair.index = omega arith in e) ∙ pair.record_is

pub records_clash : (ps : List Parcel) (p q : Parcel) (i cpu n : ℕ) → cpu ≡ p.cpu → Agree ps → IsIn ps i cpu n
    → slice_get ps i ≡ Some q
    → p.first ≤ n → n < p.first + length p.records → record_of p n ≢ record_of q n
    → ((m : ℕ) → p.first - p.missed ≤ m → m < n → FitsAt ps p p.cpu m)
    → IsClashAt (ps ++ p ∷ []) cpu n × AgreeBefore (ps ++ p ∷ []) cpu n
records_clash ps p q i cpu n e agree x at from below differ fits =
    let own = record_at p cpu n e from below in
    let kept = record_at x.parcel cpu n x.cpu_is x.from x.below in
    let same : x.parcel ≡ q = some_is x.parcel q (sym x.at ∙ at) in (
      record {
        one = kept.0;
        other = own.0;
        has =
            (joined_left ps (p ∷ [])).has cpu n kept.0
            record { index = i; parcel = x.parcel; at = x.at; pair = kept.1 };
        has_other = (joined_right ps (p ∷ [])).has cpu n own.0 (has_own p cpu n own.0 own.1);
        differ =
            λ r.
            differ
            (pair_of p cpu n own.0 own.1 ∙ ap Some (sym r) ∙ sym (pair_of x.parcel cpu n kept.0 kept.1)
            ∙ ap (λ (z : Parcel). record_of z n) same);
      },
      subst (λ (z : ℕ). AgreeBefore (ps ++ p ∷ []) z n) (sym e) (front_agrees ps p n agree fits),
    )

-- ---- one stretch further

further : (ps : List Parcel) (p : Parcel) (from at end : ℕ) (grows : Bool) → IsLookedAt ps p from at grows
    → ((n : ℕ) → at ≤ n → n < end → FitsAt ps p p.cpu n) → ((n : ℕ) → at ≤ n → n < end → IsThere ps p p.cpu n)
    → IsLookedAt ps p from end grows
further ps p from at end true seen fits there = record {
  fits = λ n a b. ⊎_elim (λ (lt : n < at). seen.fits n a lt) (λ (ge : at ≤ n). fits n ge b) (cases_lt n at);
  there = seen.there;
}
further ps p from at end false seen fits there = record {
  fits = λ n a b. ⊎_elim (λ (lt : n < at). seen.fits n a lt) (λ (ge : at ≤ n). fits n ge b) (cases_lt n at);
  there = λ n a b. ⊎_elim (λ (lt : n < at). seen.there n a lt) (λ (ge : at ≤ n). there n ge b) (cases_lt n at);
}

grown : (ps : List Parcel) (p : Parcel) (from at end : ℕ) (grows : Bool) → IsLookedAt ps p from at grows
    → ((n : ℕ) → at ≤ n → n < end → FitsAt ps p p.cpu n) → (n : ℕ) → (IsThere ps p p.cpu n → ⊥)
    → IsLookedAt ps p from end true
grown ps p from at end grows seen fits new new_is = record {
  fits = λ n a b. ⊎_elim (λ (lt : n < at). seen.fits n a lt) (λ (ge : at ≤ n). fits n ge b) (cases_lt n at);
  there = (new, new_is);
}

pub missing_known : (ps : List Parcel) (p : Parcel) (cpu at end : ℕ) (grows : Bool) → cpu ≡ p.cpu → Agree ps
    → end ≤ p.first
    → IsLookedAt ps p (p.first - p.missed) at grows → ((n : ℕ) → at ≤ n → n < end → Misses ps cpu n)
    → IsLookedAt ps p (p.first - p.missed) end grows
missing_known ps p cpu at end grows e agree up seen misses =
    let here : (n : ℕ) → at ≤ n → n < end → Misses ps p.cpu n =
    λ n a b. subst (λ (q : ℕ). Misses ps q n) e (misses n a b) in
    further ps p (p.first - p.missed) at end grows seen
    (λ n a b. record {
      one_record = λ r other h pair. let from = pair_from p p.cpu n other pair in absurd (omega arith);
      not_missing = λ r h m. agree.not_missing p.cpu n r h (here n a b);
      not_taken = λ r m pair. let from = pair_from p p.cpu n r pair in omega arith;
    })
    (λ n a b.
    record {
      has = λ r pair. let from = pair_from p p.cpu n r pair in absurd (omega arith);
      misses = λ m. here n a b;
    })

unknown_fits : (ps : List Parcel) (p : Parcel) (n : ℕ) → IsUnknown ps p.cpu n → FitsAt ps p p.cpu n
unknown_fits ps p n u = record {
  one_record = λ r other h pair. absurd (u.no_record r h);
  not_missing = λ r h m. u.no_record r h;
  not_taken = λ r m pair. u.not_missing m;
}

pub missing_new : (ps : List Parcel) (p : Parcel) (cpu at end : ℕ) (grows : Bool) → cpu ≡ p.cpu
    → p.first - p.missed ≤ at → at < end → at < p.first → IsLookedAt ps p (p.first - p.missed) at grows
    → ((n : ℕ) → at ≤ n → n < end → IsUnknown ps cpu n) → IsLookedAt ps p (p.first - p.missed) end true
missing_new ps p cpu at end grows e low some high seen unknown =
    let here : (n : ℕ) → at ≤ n → n < end → IsUnknown ps p.cpu n =
    λ n a b. subst (λ (q : ℕ). IsUnknown ps q n) e (unknown n a b) in
    grown ps p (p.first - p.missed) at end grows seen (λ n a b. unknown_fits ps p n (here n a b)) at
    (λ there.
    (here at (omega arith) some).not_missing
    (there.misses record { cpu_is = refl; low = omega arith; high = high }))

pub records_new : (ps : List Parcel) (p : Parcel) (cpu at end : ℕ) (grows : Bool) → cpu ≡ p.cpu
    → p.first ≤ at → at < end → end ≤ p.first + length p.records → IsLookedAt ps p p.first at grows
    → ((n : ℕ) → at ≤ n → n < end → IsUnknown ps cpu n) → IsLookedAt ps p p.first end true
records_new ps p cpu at end grows e from some up seen unknown =
    let here : (n : ℕ) → at ≤ n → n < end → IsUnknown ps p.cpu n =
    λ n a b. subst (λ (q : ℕ). IsUnknown ps q n) e (unknown n a b) in
    let own = record_at p p.cpu at refl from (omega arith) in
    grown ps p p.first at end grows seen (λ n a b. unknown_fits ps p n (here n a b)) at
    (λ there. (here at (omega arith) some).no_record own.0 (there.has own.0 own.1))

pub records_known : (ps : List Parcel) (p q : Parcel) (i cpu at end : ℕ) (grows : Bool) → cpu ≡ p.cpu → Agree ps
    → slice_get ps i ≡ Some q
    → p.first ≤ at → IsLookedAt ps p p.first at grows
    → ((n : ℕ) → at ≤ n → n < end → IsIn ps i cpu n) → ((n : ℕ) → at ≤ n → n < end → record_of p n ≡ record_of q n)
    → IsLookedAt ps p p.first end grows
records_known ps p q i cpu at end grows e agree is_at from seen shown same =
    let here : (n : ℕ) → at ≤ n → n < end → (r : Record) → IsPairOf p p.cpu n r → Has ps p.cpu n r = λ n a b r pair.
    let x = shown n a b in
    let is_q : x.parcel ≡ q = some_is x.parcel q (sym x.at ∙ is_at) in
    let there : record_of x.parcel n ≡ Some r =
    ap (λ (z : Parcel). record_of z n) is_q ∙ sym (same n a b) ∙ pair_of p p.cpu n r pair in
    let up = x.from in
    record {
      index = i;
      parcel = x.parcel;
      at = x.at;
      pair =
          record {
            index = n - x.parcel.first;
            cpu_is = sym e ∙ x.cpu_is;
            number_is = omega arith;
            record_is = there;
          };
    } in
    further ps p p.first at end grows seen
    (λ n a b. record {
      one_record = λ r other h pair. agree.one_record p.cpu n r other h (here n a b other pair);
      not_missing = λ r h m. let high = m.high in omega arith;
      not_taken = λ r m pair. agree.not_missing p.cpu n r (here n a b r pair) m;
    })
    (λ n a b. record { has = here n a b; misses = λ m. let high = m.high in absurd (omega arith) })

-- ---- the whole parcel

there_below : (ps : List Parcel) (p : Parcel) → IsBelow (p ∷ []) ps → (n : ℕ) → IsThere ps p p.cpu n
there_below ps p below n = record {
  has = λ r pair. below.has p.cpu n r (has_own p p.cpu n r pair);
  misses = λ m. below.misses p.cpu n (misses_own p p.cpu n m);
}

below_there : (ps : List Parcel) (p : Parcel)
    → ((n : ℕ) → p.first - p.missed ≤ n → n < p.first → IsThere ps p p.cpu n)
    → ((n : ℕ) → p.first ≤ n → n < p.first + length p.records → IsThere ps p p.cpu n)
    → IsBelow (p ∷ []) ps
below_there ps p missing records = record {
  has = λ cpu n r h. let pair = own_has p cpu n r h in
      let here : IsPairOf p p.cpu n r = subst (λ (q : ℕ). IsPairOf p q n r) pair.cpu_is pair in
      subst (λ (q : ℕ). Has ps q n r) (sym pair.cpu_is)
      ((records n (pair_from p cpu n r pair) (pair_below p cpu n r pair)).has r here);
  misses = λ cpu n m. let own = own_misses p cpu n m in
      let here : IsMissingOf p p.cpu n = subst (λ (q : ℕ). IsMissingOf p q n) own.cpu_is own in
      let low = own.low in
      subst (λ (q : ℕ). Misses ps q n) (sym own.cpu_is) ((missing n (omega arith) own.high).misses here);
}

pub grows_first : (ps : List Parcel) (p : Parcel) (a : Bool) → a ≡ true → IsLookedAt ps p (p.first - p.missed) p.first a
    → MatchBool a (IsBelow (p ∷ []) ps → ⊥) (IsBelow (p ∷ []) ps)
grows_first ps p true e seen = λ below. seen.there.1 (there_below ps p below seen.there.0)
grows_first ps p false e seen = cc

pub grows_second : (ps : List Parcel) (p : Parcel) (a b : Bool) → a ≡ false
    → IsLookedAt ps p (p.first - p.missed) p.first a
    → IsLookedAt ps p p.first (p.first + length p.records) b
    → MatchBool b (IsBelow (p ∷ []) ps → ⊥) (IsBelow (p ∷ []) ps)
grows_second ps p true b e seen recorded = cc
grows_second ps p false true e seen recorded = λ below. recorded.there.1 (there_below ps p below recorded.there.0)
grows_second ps p false false e seen recorded = below_there ps p seen.there recorded.there

-- a parcel that is there already adds nothing
pub known_same : (ps : List Parcel) (p : Parcel) → IsBelow (p ∷ []) ps → IsSame ps (ps ++ p ∷ [])
known_same ps p below =
    record { below = joined_left ps (p ∷ []); above = joined_below ps (p ∷ []) ps (below_itself ps) below }

-- one that is at odds with those that are there isn't
pub odds_not_below : (ps : List Parcel) (p : Parcel) (fault : AddFault) → Agree ps → IsAddFault (ps ++ p ∷ []) fault
    → fault ≢ NoMemory → IsBelow (p ∷ []) ps → ⊥
odds_not_below ps p (Clash cpu number) agree is odds below = let there = (known_same ps p below).above in
    is.0.differ (agree.one_record cpu.0 number.0 is.0.one is.0.other (there.has cpu.0 number.0 is.0.one is.0.has)
    (there.has cpu.0 number.0 is.0.other is.0.has_other))
odds_not_below ps p (TakenAndMissing cpu number) agree is odds below = let there = (known_same ps p below).above in
    agree.not_missing cpu.0 number.0 is.0.one (there.has cpu.0 number.0 is.0.one is.0.has)
    (there.misses cpu.0 number.0 is.0.misses)
odds_not_below ps p NoMemory agree is odds below = odds refl

pub not_grown : (b : Bool) (X Y : Type 0) → b ≡ false → MatchBool b X Y → Y
not_grown true X Y e h = cc
not_grown false X Y e h = h
