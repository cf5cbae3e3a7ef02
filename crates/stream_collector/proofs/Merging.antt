-- Two streams that are put together.
use Rattle.std.proofs.Common.{◌≡◌, ◌⊎◌, ◌↔◌, ℕ, ◌<◌, ◌≤◌, max, Bool, true, false, cond, not, List, [], ◌∷◌, ◌++◌}
use Rattle.std.proofs.Common.{Option}
use Rattle.std.proofs.Common.{IsSome, Some, None, ⊎_elim, inl, inr, refl, sym, ap, ◌∙◌, subst, arith}
use Rattle.std.proofs.lemmas.Bool.{cases_lt}
use Rattle.trace_model.specs.Parcel.{Parcel}
use Rattle.trace_model.specs.Collection.{Misses, Agree, IsBelow, IsSame, IsLeastUpperBound}
use Rattle.trace_model.proofs.collections.Joined.{joined_left, joined_right, joined_below}
use Rattle.trace_model.proofs.collections.Collections.{below_itself, below_both, below_below, below_joined}
use Rattle.trace_model.proofs.collections.Collections.{same_itself, same_joined}
use Rattle.collector.specs.Known.{IsKnown, IsSameFrom, ends_below, without_ended}
use Rattle.collector.specs.Faults.{IsAddFault, IsClashAt, IsTakenAndMissingAt, AgreeBefore}
use Rattle.collector.specs.declared.fault.AddFault.{AddFault}
use Rattle.collector.specs.declared.fault.AddFault.TheVariants.{Clash, TakenAndMissing, NoMemory}
use Rattle.collector.proofs.Known.{filtered_from, known_above}
use Rattle.collector.proofs.SideBySide.{has_either, misses_either}
use Rattle.stream_collector.specs.declared.marks.Marks.{Marks}
use Rattle.stream_collector.specs.Marks.{SaySomething, AllSaySomething}
use Rattle.stream_collector.specs.Stream.{Stream, bound_of, end_of, HaveNoRecord}
use Rattle.stream_collector.specs.Marking.{IsNotOpen, by_bound, by_parcels, by_given_up, AreWithinEnds, IsStanding}
use Rattle.stream_collector.specs.Merging.{either_end, joined_marks, IsMerge, HaveOneEnd, HaveFittingEnds, IsJoinFault}
use Rattle.stream_collector.specs.Merging.{IsEndsFault, IsReachFault, IsPartFault, IsMergeFault}
use Rattle.stream_collector.specs.declared.fault.MergeFault.{MergeFault}
use Rattle.stream_collector.specs.declared.fault.MergeFault.TheVariants.{OtherEnd, BeyondEnd, Clash as ClashHere}
use Rattle.stream_collector.specs.declared.fault.MergeFault.TheVariants.{TakenAndMissing as TakenHere}
use Rattle.stream_collector.specs.declared.fault.MergeFault.TheVariants.{NoMemory as MemoryHere}
use Rattle.stream_collector.proofs.WithinEnds.{known_either}

-- ---- what is at odds, in parcels that have and miss the same

clash_above : (ps qs : List Parcel) (c n : ℕ) → IsBelow ps qs → IsClashAt ps c n → IsClashAt qs c n
clash_above ps qs c n below x = record {
  one = x.one;
  other = x.other;
  has = below.has c n x.one x.has;
  has_other = below.has c n x.other x.has_other;
  differ = x.differ;
}

taken_above : (ps qs : List Parcel) (c n : ℕ) → IsBelow ps qs → IsTakenAndMissingAt ps c n → IsTakenAndMissingAt qs c n
taken_above ps qs c n below x =
    record { one = x.one; has = below.has c n x.one x.has; misses = below.misses c n x.misses }

before_below : (ps qs : List Parcel) (c n : ℕ) → IsBelow qs ps → AgreeBefore ps c n → AgreeBefore qs c n
before_below ps qs c n below a = record {
  no_clash = λ d m front clash. a.no_clash d m front (clash_above qs ps d m below clash);
  none_taken_and_missing = λ d m front taken. a.none_taken_and_missing d m front (taken_above qs ps d m below taken);
}

pub join_fault : (ps qs : List Parcel) → IsSame ps qs → (fault : AddFault) → IsAddFault ps fault → IsJoinFault qs fault
join_fault ps qs same (Clash cpu number) f =
    (clash_above ps qs cpu.0 number.0 same.below f.0, before_below ps qs cpu.0 number.0 same.above f.1)
join_fault ps qs same (TakenAndMissing cpu number) f =
    (taken_above ps qs cpu.0 number.0 same.below f.0, before_below ps qs cpu.0 number.0 same.above f.1)
join_fault ps qs same NoMemory f = tt

-- parcels that agree have no fault but want of memory
pub no_fault : (ps qs : List Parcel) → Agree ps → (fault : AddFault) → IsAddFault ps fault → IsJoinFault qs fault
no_fault ps qs agree (Clash cpu number) f =
    absurd (f.0.differ (agree.one_record cpu.0 number.0 f.0.one f.0.other f.0.has f.0.has_other))
no_fault ps qs agree (TakenAndMissing cpu number) f =
    absurd (agree.not_missing cpu.0 number.0 f.0.one f.0.has f.0.misses)
no_fault ps qs agree NoMemory f = tt

-- ---- joins

pub join_same : (ps qs join : List Parcel) → IsLeastUpperBound ps qs join → IsSame join (ps ++ qs)
join_same ps qs join j = below_both join (ps ++ qs) (j.least (ps ++ qs) (joined_left ps qs) (joined_right ps qs))
    (joined_below ps qs join j.left j.right)

-- the join of an empty one with one, and then with another
pub both_same : (new own joined others : List Parcel) → new ≡ [] → IsLeastUpperBound new own joined
    → IsSame (joined ++ others) (own ++ others)
both_same new own joined others is join = same_joined joined others own others
    (subst (λ (ps : List Parcel). IsSame joined (ps ++ own)) is (join_same new own joined join)) (same_itself others)

-- what ends below bounds is left out of parcels that are the same as others
pub kept_from : (bounds : ℕ → ℕ) (all kept others : List Parcel) → IsSame all others
    → IsSame kept (without_ended bounds all) → IsSameFrom bounds others kept
kept_from bounds all kept others same kept_same =
    let filtered = filtered_from all bounds in
    record {
      has = λ c n r from. (
        λ h. kept_same.above.has c n r ((filtered.has c n r from).0 (same.above.has c n r h)),
        λ h. same.below.has c n r ((filtered.has c n r from).1 (kept_same.below.has c n r h)),
      );
      misses = λ c n from. (
        λ m. kept_same.above.misses c n ((filtered.misses c n from).0 (same.above.misses c n m)),
        λ m. same.below.misses c n ((filtered.misses c n from).1 (kept_same.below.misses c n m)),
      );
    }

pub without_below : (bounds : ℕ → ℕ) (ps : List Parcel) → IsBelow (without_ended bounds ps) ps
without_below bounds [] = below_itself []
without_below bounds (p ∷ ps) = one (without_below bounds ps) (ends_below bounds p)
  where
    rest : List Parcel
    rest = without_ended bounds ps

    one : IsBelow rest ps → (ended : Bool) → IsBelow (cond (not ended) (p ∷ rest) rest) (p ∷ ps)
    one below true = below_below rest ps (p ∷ ps) below (joined_right (p ∷ []) ps)
    one below false = below_joined (p ∷ []) rest (p ∷ []) ps (below_itself (p ∷ [])) below

pub kept_below : (bounds : ℕ → ℕ) (all kept others : List Parcel) → IsSame all others
    → IsSame kept (without_ended bounds all) → IsBelow kept others
kept_below bounds all kept others same kept_same =
    below_below kept all others
    (below_below kept (without_ended bounds all) all kept_same.below (without_below bounds all))
    same.below

-- ---- marks

pub joined_none : (own other : Marks) → (SaySomething other → ⊥) → joined_marks own other ≡ own
joined_none own other silent =
    let low : max own.bound other.bound ≡ own.bound = ⊎_elim
    (λ (some : 0 < other.bound). absurd (silent (inl some)))
    (λ (none : other.bound ≤ 0). omega arith)
    (cases_lt 0 other.bound) in
    let ends : either_end own.end other.end ≡ own.end =
    at own.end other.end (λ (some : IsSome other.end). silent (inr some)) in
    λ i. record { bound = low i; end = ends i }
  where
    at : (a b : Option ℕ) → (IsSome b → ⊥) → either_end a b ≡ a
    at None None none = refl
    at None (Some y) none = absurd (none refl)
    at (Some x) b none = refl

pub joined_says : (own other : Marks) → SaySomething other → SaySomething (joined_marks own other)
joined_says own other says = ⊎_elim
    (λ (some : 0 < other.bound). inl (omega arith))
    (λ (some : IsSome other.end). inr (at own.end other.end some))
    says
  where
    at : (a b : Option ℕ) → IsSome b → IsSome (either_end a b)
    at None b is = is
    at (Some x) b is = refl

-- ---- all of it

end_either : (a b : Option ℕ) (end : ℕ) → either_end a b ≡ Some end → (a ≡ Some end) ⊎ (b ≡ Some end)
end_either None b end is = inr is
end_either (Some x) b end is = inl is

end_back : (a b : Option ℕ) (end : ℕ) → ((x y : ℕ) → a ≡ Some x → b ≡ Some y → x ≡ y)
    → (a ≡ Some end) ⊎ (b ≡ Some end) → either_end a b ≡ Some end
end_back None b end one either = ⊎_elim (λ is. cc) (λ is. is) either
end_back (Some x) b end one either = ⊎_elim (λ is. is) (λ is. ap Some (one x end refl is)) either

-- joined marks are the higher bound, and the end that either has
pub ends_joined : (own other new : Marks) → ((x y : ℕ) → own.end ≡ Some x → other.end ≡ Some y → x ≡ y)
    → new ≡ joined_marks own other
    → (end : ℕ) → (new.end ≡ Some end ↔ ((own.end ≡ Some end) ⊎ (other.end ≡ Some end)))
ends_joined own other new one is end = (
  λ e. end_either own.end other.end end (sym (ap (λ (m : Marks). m.end) is) ∙ e),
  λ either. ap (λ (m : Marks). m.end) is ∙ end_back own.end other.end end one either,
)

module _ (s o new : Stream) (merged : IsMerge s o new) where
  reached_either : (c n : ℕ) → IsNotOpen new c n → IsNotOpen s c n ⊎ IsNotOpen o c n
  reached_either c n (by_bound lt) =
      let is = merged.bounds c in
      ⊎_elim
      (λ (low : n < bound_of s c). inl (by_bound low))
      (λ (high : bound_of s c ≤ n). inr (by_bound (omega arith)))
      (cases_lt n (bound_of s c))
  reached_either c n (by_parcels k) = ⊎_elim
      (λ (own : IsKnown s.parcels c n). inl (by_parcels own))
      (λ (others : IsKnown o.parcels c n). inr (by_parcels others))
      (known_either s.parcels o.parcels c n
      (known_above new.parcels (s.parcels ++ o.parcels) c n merged.nothing_else k))
  reached_either c n (by_given_up m) = ⊎_elim
      (λ (own : Misses s.given_up c n). inl (by_given_up own))
      (λ (others : Misses o.given_up c n). inr (by_given_up others))
      ((merged.given_up c n).0 m)

  pub merged_within : AreWithinEnds s → AreWithinEnds o → HaveFittingEnds s o → AreWithinEnds new
  merged_within own others fit c end n is r = ⊎_elim
      (λ (e : end_of s c ≡ Some end). ⊎_elim
      (λ (by_own : IsNotOpen s c n). own c end n e by_own)
      (λ (by_other : IsNotOpen o c n). fit.within c end n e by_other)
      (reached_either c n r))
      (λ (e : end_of o c ≡ Some end). ⊎_elim
      (λ (by_own : IsNotOpen s c n). fit.others_within c end n e by_own)
      (λ (by_other : IsNotOpen o c n). others c end n e by_other)
      (reached_either c n r))
      ((merged.ends c end).0 is)

  pub merged_standing : IsStanding s → IsStanding o → HaveFittingEnds s o → HaveNoRecord new.given_up
      → AllSaySomething new.marks → IsStanding new
  merged_standing own others fit none says =
      record { no_record = none; says = says; within = merged_within own.within others.within fit }

-- what is given up by either
pub given_up_either : (ps qs new : List Parcel) → IsSame new (ps ++ qs) → (c n : ℕ)
    → (Misses new c n ↔ (Misses ps c n ⊎ Misses qs c n))
given_up_either ps qs new same c n = (
  λ m. misses_either ps qs c n (same.below.misses c n m),
  λ either. same.above.misses c n (⊎_elim
      (λ own. (joined_left ps qs).misses c n own)
      (λ others. (joined_right ps qs).misses c n others)
      either),
)

pub no_record_either : (ps qs new : List Parcel) → HaveNoRecord ps → HaveNoRecord qs → IsSame new (ps ++ qs)
    → HaveNoRecord new
no_record_either ps qs new own others same c n r h = ⊎_elim
    (λ a. own c n r a)
    (λ b. others c n r b)
    (has_either ps qs c n r (same.below.has c n r h))

-- ---- faults

pub ends_fault : (s o : Stream) (fault : MergeFault) → IsEndsFault s o fault → IsMergeFault s o fault
ends_fault s o (OtherEnd cpu end others) f = f
ends_fault s o (BeyondEnd cpu number) f = absurd f
ends_fault s o (ClashHere cpu number) f = absurd f
ends_fault s o (TakenHere cpu number) f = absurd f
ends_fault s o MemoryHere f = absurd f

pub reach_fault : (s o : Stream) (fault : MergeFault) → HaveOneEnd s o → IsReachFault s o fault ⊎ IsReachFault o s fault
    → IsMergeFault s o fault
reach_fault s o (OtherEnd cpu end others) one f = ⊎_elim (λ a. absurd a) (λ b. absurd b) f
reach_fault s o (BeyondEnd cpu number) one f = (one, f)
reach_fault s o (ClashHere cpu number) one f = ⊎_elim (λ a. absurd a) (λ b. absurd b) f
reach_fault s o (TakenHere cpu number) one f = ⊎_elim (λ a. absurd a) (λ b. absurd b) f
reach_fault s o MemoryHere one f = ⊎_elim (λ a. absurd a) (λ b. absurd b) f

pub part_fault : (s o : Stream) (fault : MergeFault) → HaveFittingEnds s o
    → IsPartFault (s.parcels ++ o.parcels) fault → IsMergeFault s o fault
part_fault s o (OtherEnd cpu end others) fit f = absurd f
part_fault s o (BeyondEnd cpu number) fit f = absurd f
part_fault s o (ClashHere cpu number) fit f = (fit, f)
part_fault s o (TakenHere cpu number) fit f = (fit, f)
part_fault s o MemoryHere fit f = fit
