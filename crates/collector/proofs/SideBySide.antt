-- Two collectors side by side: whether they are the same, and whether they fit together, number by number.
use Rattle.std.proofs.Common.{◌≡◌, ◌≢◌, ◌⊎◌, inl, inr, ⊎_elim, ℕ, ◌+◌, ◌-◌, ◌<◌, ◌≤◌, ◌^◌, List, ◌++◌, length, Option}
use Rattle.std.proofs.Common.{Some, None, sym, ap, ◌∙◌, subst, arith}
use Rattle.std.specs.List.{slice_get}
use Rattle.std.proofs.lemmas.Bool.{cases_lt}
use Rattle.std.proofs.lemmas.Option.{slice_get_within}
use Rattle.trace_model.specs.Record.{Record}
use Rattle.trace_model.specs.Parcel.{Parcel}
use Rattle.trace_model.specs.Collection.{Has, Misses, Agree, IsSame}
use Rattle.trace_model.specs.declared.limits.TheConstants.{MAX_CPUS}
use Rattle.trace_model.proofs.collections.Elements.{some_is, get_in_either}
use Rattle.trace_model.proofs.collections.Joined.{joined_left, joined_right}
use Rattle.collector.specs.declared.ranges.Content.{Content}
use Rattle.collector.specs.declared.ranges.Content.TheVariants.{Kept, Missing}
use Rattle.collector.specs.declared.beside.Beside.{Beside}
use Rattle.collector.specs.declared.beside.Both.{Both}
use Rattle.collector.specs.declared.beside.Beside.TheVariants.{Alike, Records, AtOdds, OneKnows}
use Rattle.collector.specs.Sound.{AreSound}
use Rattle.collector.specs.Index.{IsIn}
use Rattle.collector.specs.Entries.{record_of}
use Rattle.collector.specs.Shown.{IsUnknown, IsContentAt}
use Rattle.collector.specs.Known.{IsTaken, IsKnown}
use Rattle.collector.specs.Beside.{pair_of, IsBeside, IsSeen, IsSameAt, FitTogether}
use Rattle.collector.specs.Faults.{IsClashAt, IsTakenAndMissingAt, IsBeforeNumber, AgreeBefore}
use Rattle.collector.proofs.Walks.{one_of_both}
use Rattle.collector.proofs.Indexing.{record_at, in_taken, known_of}
use Rattle.collector.proofs.Looking.{in_within}

pub beside_of : (ps qs : List Parcel) (cpu n : ℕ) (o p : Option Content) → IsContentAt ps cpu n o
    → IsContentAt qs cpu n p → IsBeside ps qs cpu n (pair_of o p)
beside_of ps qs cpu n None None a b = inl (a, b)
beside_of ps qs cpu n None (Some content) a b = inl (a, known_of qs cpu n content b)
beside_of ps qs cpu n (Some content) None a b = inr (known_of ps cpu n content a, b)
beside_of ps qs cpu n (Some Missing) (Some Missing) a b = inr (a, b)
beside_of ps qs cpu n (Some Missing) (Some (Kept j)) a b = inr (a, in_taken qs j cpu n b)
beside_of ps qs cpu n (Some (Kept i)) (Some Missing) a b = inl (in_taken ps i cpu n a, b)
beside_of ps qs cpu n (Some (Kept i)) (Some (Kept j)) a b = (a, b)

-- ---- the same

pub both_unknown : (ps qs : List Parcel) (c n : ℕ) → IsUnknown ps c n → IsUnknown qs c n → IsSameAt ps qs c n
both_unknown ps qs c n unknown others_unknown = record {
  has = λ r. (λ h. absurd (unknown.no_record r h), λ h. absurd (others_unknown.no_record r h));
  misses = (λ m. absurd (unknown.not_missing m), λ m. absurd (others_unknown.not_missing m));
}

pub alike_same : (ps qs : List Parcel) (cpu n : ℕ) → Agree ps → Agree qs → IsBeside ps qs cpu n Alike
    → IsSameAt ps qs cpu n
alike_same ps qs cpu n agree others_agree beside = ⊎_elim
    (λ (u : IsUnknown ps cpu n × IsUnknown qs cpu n). both_unknown ps qs cpu n u.0 u.1)
    (λ (m : Misses ps cpu n × Misses qs cpu n). record {
      has = λ r. (λ h. absurd (agree.not_missing cpu n r h m.0), λ h. absurd (others_agree.not_missing cpu n r h m.1));
      misses = (λ _. m.1, λ _. m.0);
    })
    beside

pub odds_not_same : (ps qs : List Parcel) (cpu n : ℕ) → Agree ps → Agree qs → IsBeside ps qs cpu n AtOdds
    → IsSameAt ps qs cpu n → ⊥
odds_not_same ps qs cpu n agree others_agree beside same = ⊎_elim
    (λ (b : IsTaken ps cpu n × Misses qs cpu n). others_agree.not_missing cpu n b.0.0 ((same.has b.0.0).0 b.0.1) b.1)
    (λ (b : Misses ps cpu n × IsTaken qs cpu n). agree.not_missing cpu n b.1.0 ((same.has b.1.0).1 b.1.1) b.0)
    beside

pub one_not_same : (ps qs : List Parcel) (cpu n : ℕ) → IsBeside ps qs cpu n OneKnows → IsSameAt ps qs cpu n → ⊥
one_not_same ps qs cpu n beside same = ⊎_elim
    (λ (b : IsUnknown ps cpu n × IsKnown qs cpu n). ⊎_elim
    (λ (t : IsTaken qs cpu n). b.0.no_record t.0 ((same.has t.0).1 t.1))
    (λ (m : Misses qs cpu n). b.0.not_missing (same.misses.1 m))
    b.1)
    (λ (b : IsKnown ps cpu n × IsUnknown qs cpu n). ⊎_elim
    (λ (t : IsTaken ps cpu n). b.1.no_record t.0 ((same.has t.0).0 t.1))
    (λ (m : Misses ps cpu n). b.1.not_missing (same.misses.0 m))
    b.0)
    beside

-- the record that a kept parcel has
pub has_record : (ps : List Parcel) (i cpu n : ℕ) (p : Parcel) → slice_get ps i ≡ Some p → IsIn ps i cpu n
    → (r : Record) × (record_of p n ≡ Some r) × Has ps cpu n r
has_record ps i cpu n p at x =
    let found = record_at x.parcel cpu n x.cpu_is x.from x.below in
    let is = found.1.number_is in
    let same : x.parcel ≡ p = some_is x.parcel p (sym x.at ∙ at) in (
      found.0,
      ap (λ (q : Parcel). record_of q n) (sym same)
          ∙ ap (slice_get x.parcel.records) (let e : n - x.parcel.first ≡ found.1.index = omega arith in e)
          ∙ found.1.record_is,
      record { index = i; parcel = x.parcel; at = x.at; pair = found.1 },
    )

module _ (ps qs : List Parcel) (i j cpu n : ℕ) (p q : Parcel) (agree : Agree ps) (others_agree : Agree qs)
    (at : slice_get ps i ≡ Some p) (at' : slice_get qs j ≡ Some q) (beside : IsBeside ps qs cpu n (Records i j)) where
  one : (r : Record) × (record_of p n ≡ Some r) × Has ps cpu n r
  one = has_record ps i cpu n p at beside.0

  that : (r : Record) × (record_of q n ≡ Some r) × Has qs cpu n r
  that = has_record qs j cpu n q at' beside.1

  equal : record_of p n ≡ record_of q n → one.0 ≡ that.0
  equal same = some_is one.0 that.0 (sym one.1 ∙ same ∙ that.1)

  pub records_same : record_of p n ≡ record_of q n → IsSameAt ps qs cpu n
  records_same same = record {
    has = λ r. (
      (λ h. subst (Has qs cpu n) (sym (equal same) ∙ agree.one_record cpu n one.0 r one.2 h) that.2),
      (λ h. subst (Has ps cpu n) (equal same ∙ others_agree.one_record cpu n that.0 r that.2 h) one.2),
    );
    misses = (
      λ m. absurd (agree.not_missing cpu n one.0 one.2 m),
      λ m. absurd (others_agree.not_missing cpu n that.0 that.2 m),
    );
  }

  pub records_fit : record_of p n ≡ record_of q n → FitTogether ps qs cpu n
  records_fit same = record {
    one_record =
        λ r other h g.
        agree.one_record cpu n r one.0 h one.2 ∙ equal same
        ∙ others_agree.one_record cpu n that.0 other that.2 g;
    not_missing = λ r h m. others_agree.not_missing cpu n that.0 that.2 m;
    not_taken = λ r m h. agree.not_missing cpu n one.0 one.2 m;
  }

  differ : record_of p n ≢ record_of q n → one.0 ≢ that.0
  differ apart e = apart (one.1 ∙ ap Some e ∙ sym that.1)

  pub records_not_same : record_of p n ≢ record_of q n → IsSameAt ps qs cpu n → ⊥
  records_not_same apart same = differ apart (agree.one_record cpu n one.0 that.0 one.2 ((same.has that.0).1 that.2))

  pub records_clash : record_of p n ≢ record_of q n → IsClashAt (ps ++ qs) cpu n
  records_clash apart = record {
    one = one.0;
    other = that.0;
    has = (joined_left ps qs).has cpu n one.0 one.2;
    has_other = (joined_right ps qs).has cpu n that.0 that.2;
    differ = differ apart;
  }

-- what holds of all numbers at which both have records in the same parcels
module _ (ps qs : List Parcel) (cpu at : ℕ) (both : Both) (seen : IsSeen ps qs cpu at both) where
  seen_as : (beside : Beside) → both.beside ≡ beside → (n : ℕ) → at ≤ n → n < both.end → IsBeside ps qs cpu n beside
  seen_as beside is n from below = subst (IsBeside ps qs cpu n) is (seen.shown n from below)

  pub own_within : (i j : ℕ) → both.beside ≡ Records i j → at < both.end → i < length ps
  own_within i j is some = in_within ps i cpu at (seen_as (Records i j) is at (omega arith) some).0

  module _ (i j : ℕ) (p q : Parcel) (is : both.beside ≡ Records i j) (own : slice_get ps i ≡ Some p)
      (others : slice_get qs j ≡ Some q)
      (n : ℕ) (from : at ≤ n) (below : n < both.end) where
    pub fit_seen : record_of p n ≡ record_of q n → FitTogether ps qs cpu n
    fit_seen =
        records_fit ps qs i j cpu n p q seen.agree seen.others_agree own others (seen_as (Records i j) is n from below)

    pub clash_seen : record_of p n ≢ record_of q n → IsClashAt (ps ++ qs) cpu n
    clash_seen =
        records_clash ps qs i j cpu n p q seen.agree seen.others_agree own others
        (seen_as (Records i j) is n from below)

    pub same_seen : record_of p n ≡ record_of q n → IsSameAt ps qs cpu n
    same_seen =
        records_same ps qs i j cpu n p q seen.agree seen.others_agree own others (seen_as (Records i j) is n from below)

    pub not_same_seen : record_of p n ≢ record_of q n → IsSameAt ps qs cpu n → ⊥
    not_same_seen =
        records_not_same ps qs i j cpu n p q seen.agree seen.others_agree own others
        (seen_as (Records i j) is n from below)

-- ---- fitting together

pub alike_fit : (ps qs : List Parcel) (cpu n : ℕ) → Agree ps → Agree qs → IsBeside ps qs cpu n Alike
    → FitTogether ps qs cpu n
alike_fit ps qs cpu n agree others_agree beside = ⊎_elim
    (λ (u : IsUnknown ps cpu n × IsUnknown qs cpu n). record {
      one_record = λ r other h g. absurd (u.0.no_record r h);
      not_missing = λ r h m. u.0.no_record r h;
      not_taken = λ r m h. u.0.not_missing m;
    })
    (λ (b : Misses ps cpu n × Misses qs cpu n). record {
      one_record = λ r other h g. absurd (agree.not_missing cpu n r h b.0);
      not_missing = λ r h m. agree.not_missing cpu n r h b.0;
      not_taken = λ r m h. others_agree.not_missing cpu n r h b.1;
    })
    beside

-- what isn't known there fits
pub unknown_fits : (ps qs : List Parcel) (cpu n : ℕ) → IsUnknown qs cpu n → FitTogether ps qs cpu n
unknown_fits ps qs cpu n unknown = record {
  one_record = λ r other h g. absurd (unknown.no_record other g);
  not_missing = λ r h m. unknown.not_missing m;
  not_taken = λ r m h. unknown.no_record r h;
}

-- after the numbers that were compared in both, up to the next number of which something is known there
pub fit_up_to : (ps qs : List Parcel) (cpu at end next : ℕ) → ((n : ℕ) → n < at → FitTogether ps qs cpu n)
    → ((n : ℕ) → at ≤ n → n < end → FitTogether ps qs cpu n) → ((n : ℕ) → end ≤ n → n < next → IsUnknown qs cpu n)
    → (n : ℕ) → n < next → FitTogether ps qs cpu n
fit_up_to ps qs cpu at end next before here unknown n lt = ⊎_elim
    (λ (seen : n < at). before n seen)
    (λ (ge : at ≤ n). ⊎_elim
    (λ (within : n < end). here n ge within)
    (λ (behind : end ≤ n). unknown_fits ps qs cpu n (unknown n behind lt))
    (cases_lt n end))
    (cases_lt n at)

pub one_fit : (ps qs : List Parcel) (cpu n : ℕ) → IsBeside ps qs cpu n OneKnows → FitTogether ps qs cpu n
one_fit ps qs cpu n beside = ⊎_elim
    (λ (b : IsUnknown ps cpu n × IsKnown qs cpu n). record {
      one_record = λ r other h g. absurd (b.0.no_record r h);
      not_missing = λ r h m. b.0.no_record r h;
      not_taken = λ r m h. b.0.not_missing m;
    })
    (λ (b : IsKnown ps cpu n × IsUnknown qs cpu n). unknown_fits ps qs cpu n b.1)
    beside

pub odds_taken : (ps qs : List Parcel) (cpu n : ℕ) → IsBeside ps qs cpu n AtOdds → IsTakenAndMissingAt (ps ++ qs) cpu n
odds_taken ps qs cpu n beside = ⊎_elim
    (λ (b : IsTaken ps cpu n × Misses qs cpu n). record {
      one = b.0.0;
      has = (joined_left ps qs).has cpu n b.0.0 b.0.1;
      misses = (joined_right ps qs).misses cpu n b.1;
    })
    (λ (b : Misses ps cpu n × IsTaken qs cpu n). record {
      one = b.1.0;
      has = (joined_right ps qs).has cpu n b.1.0 b.1.1;
      misses = (joined_left ps qs).misses cpu n b.0;
    })
    beside

-- ---- of two lists

pub has_either : (ps qs : List Parcel) (cpu n : ℕ) (r : Record) → Has (ps ++ qs) cpu n r
    → (Has ps cpu n r) ⊎ (Has qs cpu n r)
has_either ps qs cpu n r h = ⊎_elim
    (λ (j, there). inl record { index = j; parcel = h.parcel; at = there; pair = h.pair })
    (λ (j, there). inr record { index = j; parcel = h.parcel; at = there; pair = h.pair })
    (get_in_either ps qs h.index h.parcel h.at)

pub misses_either : (ps qs : List Parcel) (cpu n : ℕ) → Misses (ps ++ qs) cpu n → (Misses ps cpu n) ⊎ (Misses qs cpu n)
misses_either ps qs cpu n m = ⊎_elim
    (λ (j, there). inl record { index = j; parcel = m.parcel; at = there; missing = m.missing })
    (λ (j, there). inr record { index = j; parcel = m.parcel; at = there; missing = m.missing })
    (get_in_either ps qs m.index m.parcel m.at)

fit_one : (ps qs : List Parcel) (c n : ℕ) → Agree ps → Agree qs → FitTogether ps qs c n → (r other : Record)
    → Has (ps ++ qs) c n r → Has (ps ++ qs) c n other → r ≡ other
fit_one ps qs c n agree others_agree fit r other h g = one_of_both (Has ps c n) (Has qs c n) r other
    (has_either ps qs c n r h) (has_either ps qs c n other g)
    (agree.one_record c n r other) (fit.one_record r other) (fit.one_record other r)
    (others_agree.one_record c n r other)

fit_not_both : (ps qs : List Parcel) (c n : ℕ) → Agree ps → Agree qs → FitTogether ps qs c n → (r : Record)
    → Has (ps ++ qs) c n r → Misses (ps ++ qs) c n → ⊥
fit_not_both ps qs c n agree others_agree fit r h m = ⊎_elim
    (λ (a : Has ps c n r). ⊎_elim
    (λ (b : Misses ps c n). agree.not_missing c n r a b)
    (λ (b : Misses qs c n). fit.not_missing r a b)
    (misses_either ps qs c n m))
    (λ (a : Has qs c n r). ⊎_elim
    (λ (b : Misses ps c n). fit.not_taken r b a)
    (λ (b : Misses qs c n). others_agree.not_missing c n r a b)
    (misses_either ps qs c n m))
    (has_either ps qs c n r h)

-- ---- numbers that no parcel can have

pub has_bounds : (ps : List Parcel) (c n : ℕ) (r : Record) → AreSound ps → Has ps c n r
    → (c < MAX_CPUS) × (n + 1 < 2 ^ 64)
has_bounds ps c n r sound h =
    let is = sound h.index h.parcel h.at in
    let cpu = h.pair.cpu_is in
    let number = h.pair.number_is in
    let within = slice_get_within h.parcel.records h.pair.index r h.pair.record_is in
    let known = is.cpu_known in
    let fits = is.numbers_fit in
    (subst (λ (q : ℕ). q < MAX_CPUS) (sym cpu) known, omega arith)

pub misses_bounds : (ps : List Parcel) (c n : ℕ) → AreSound ps → Misses ps c n → (c < MAX_CPUS) × (n + 1 < 2 ^ 64)
misses_bounds ps c n sound m =
    let is = sound m.index m.parcel m.at in
    let cpu = m.missing.cpu_is in
    let high = m.missing.high in
    let known = is.cpu_known in
    let fits = is.numbers_fit in
    (subst (λ (q : ℕ). q < MAX_CPUS) (sym cpu) known, omega arith)

pub same_of : (ps qs : List Parcel) → ((c n : ℕ) → IsSameAt ps qs c n) → IsSame ps qs
same_of ps qs same = record {
  below = record { has = λ c n r h. ((same c n).has r).0 h; misses = λ c n m. (same c n).misses.0 m };
  above = record { has = λ c n r h. ((same c n).has r).1 h; misses = λ c n m. (same c n).misses.1 m };
}

pub same_at : (ps qs : List Parcel) → IsSame ps qs → (c n : ℕ) → IsSameAt ps qs c n
same_at ps qs same c n = record {
  has = λ r. (same.below.has c n r, same.above.has c n r);
  misses = (same.below.misses c n, same.above.misses c n);
}

unbound_fit : (ps qs : List Parcel) (c n : ℕ) → AreSound ps → ((c < MAX_CPUS) × (n + 1 < 2 ^ 64) → ⊥)
    → FitTogether ps qs c n
unbound_fit ps qs c n sound out = record {
  one_record = λ r other h g. absurd (out (has_bounds ps c n r sound h));
  not_missing = λ r h m. out (has_bounds ps c n r sound h);
  not_taken = λ r m h. out (misses_bounds ps c n sound m);
}

pub fit_agree : (ps qs : List Parcel) → Agree ps → Agree qs → ((c n : ℕ) → FitTogether ps qs c n) → Agree (ps ++ qs)
fit_agree ps qs agree others_agree fits = record {
  one_record = λ c n r other h g. fit_one ps qs c n agree others_agree (fits c n) r other h g;
  not_missing = λ c n r h m. fit_not_both ps qs c n agree others_agree (fits c n) r h m;
}

pub front_fits : (ps qs : List Parcel) (cpu n : ℕ) → AreSound ps → Agree ps → Agree qs
    → ((c m : ℕ) → c < cpu → m < 2 ^ 64 - 1 → FitTogether ps qs c m) → ((m : ℕ) → m < n → FitTogether ps qs cpu m)
    → AgreeBefore (ps ++ qs) cpu n
front_fits ps qs cpu n sound agree others_agree before here = record {
  no_clash =
      λ c m front clash.
      clash.differ
      (fit_one ps qs c m agree others_agree (fit c m front) clash.one clash.other clash.has clash.has_other);
  none_taken_and_missing =
      λ c m front both. fit_not_both ps qs c m agree others_agree (fit c m front) both.one both.has both.misses;
}
  where
    fit : (c m : ℕ) → IsBeforeNumber c m cpu n → FitTogether ps qs c m
    fit c m front = ⊎_elim
        (λ (lt : c < cpu). ⊎_elim
        (λ (small : m < 2 ^ 64 - 1). before c m lt small)
        (λ (large : 2 ^ 64 - 1 ≤ m). unbound_fit ps qs c m sound (λ b. let small = b.1 in omega arith))
        (cases_lt m (2 ^ 64 - 1)))
        (λ (same : (c ≡ cpu) × (m < n)). subst (λ (q : ℕ). FitTogether ps qs q m) (sym same.0) (here m same.1))
        front
