-- Fleets that are put together, and fleets that are the same.
use Rattle.std.proofs.Common.{◌≡◌, ◌↔◌, ◌⊎◌, inl, inr, ⊎_elim, ℕ, ◌<◌, ◌≤◌, Bool, true, false, cond, List, [], ◌∷◌}
use Rattle.std.proofs.Common.{◌++◌, map, Option, Some, None, IsSome, Result, Ok, Err, OnOk, OnErr, Ordering, Less}
use Rattle.std.proofs.Common.{Equal, Greater, refl, sym}
use Rattle.std.proofs.Common.{ap, ◌∙◌, subst, arith}
use Rattle.std.specs.Borrow.{Bor}
use Rattle.std.specs.List.{slice_get}
use Rattle.std.specs.BTreeMap.{is_at}
use Rattle.std.specs.Ordering.{nat_cmp, is_eq}
use Rattle.std.proofs.lemmas.Bool.{cases_lt}
use Rattle.std.proofs.lemmas.List.{map-append}
use Rattle.std.proofs.lemmas.Map.Entries.{place_from_lookup}
use Rattle.std.proofs.lemmas.Map.Lookups.{exact_unsigned}
use Rattle.std.proofs.lemmas.Option.{none-some}
use Rattle.trace_model.specs.Parcel.{Parcel, IsPairOf, IsMissingOf}
use Rattle.trace_model.specs.Record.{Record}
use Rattle.trace_model.specs.Collection.{Has, Misses}
use Rattle.trace_model.proofs.collections.Collections.{below_itself}
use Rattle.trace_model.proofs.collections.Elements.{some_is, get_in_either}
use Rattle.trace_model.proofs.collections.Joined.{joined_left, joined_right}
use Rattle.collector.specs.Known.{IsTaken}
use Rattle.collector.proofs.Known.{from_itself}
use Rattle.parcel_streams.specs.declared.piece.StreamId.{StreamId}
use Rattle.parcel_streams.specs.declared.piece.Mark.TheVariants.{End, Forgotten, Undelivered}
use Rattle.parcel_streams.specs.Pieces.{Packed, parcel_piece, mark_piece}
use Rattle.stream_collector.specs.Marks.{bounds_of}
use Rattle.stream_collector.specs.Merging.{IsMerge, FitTogether}
use Rattle.stream_collector.specs.Same.{IsSameStream}
use Rattle.stream_collector.specs.Stream.{Stream, bound_of, end_of, HasRecord, IsMissing, IsNotKnown}
use Rattle.collector.specs.Shown.{IsUnknown}
use Rattle.fleet_collector.specs.Fleet.{known_of, stream_at, empty_stream, or_empty, entry_seen, HasKnownCpus}
use Rattle.fleet_collector.specs.Merging.{IsMergeAt, AreMerges, OfEachThere, IsSameFleet}
use Rattle.fleet_collector.specs.Told.{IsPieceOf, TellEnd, TellForgotten, TellParcel, TellOfNumber, TellRecord}
use Rattle.fleet_collector.specs.Told.{TellMissing, IsBoundTold, IsStreamOf}
use Rattle.fleet_collector.proofs.Changed.{IsPut}
use Rattle.fleet_collector.proofs.Telling.{only, told_in_either, from_bound, none_forgets}

-- ---- streams of a fleet

is_equal : (o : Ordering) → is_eq o ≡ true → o ≡ Equal
is_equal Less e = cc
is_equal Equal e = refl
is_equal Greater e = cc

same_id : (id q : ℕ) → is_at (nat_cmp id) q ≡ true → id ≡ q
same_id id q e = exact_unsigned id q (is_equal (nat_cmp id q) e)

-- where a stream is that is there
pub place_of : (fleet : List (ℕ × Stream)) (id : ℕ) (known : Stream) → known_of fleet id ≡ Some known
    → (k : ℕ) × (slice_get fleet k ≡ Some (id, known))
place_of fleet id known e =
    let place = place_from_lookup (is_at (nat_cmp id)) fleet known e in
    let same : id ≡ place.1 = same_id id place.1 place.3 in
    (place.0, place.2 ∙ ap (λ q. Some (q, known)) (sym same))

-- what holds of each stream that is there holds of this one, unless nothing is known of it
pub of_known : (holds : ℕ → Type 0) (fleet : List (ℕ × Stream)) (id : ℕ) → OfEachThere holds fleet
    → holds id ⊎ (known_of fleet id ≡ None)
of_known holds fleet id each = at (known_of fleet id) refl
  where
    at : (o : Option Stream) → known_of fleet id ≡ o → holds id ⊎ (known_of fleet id ≡ None)
    at None e = inr e
    at (Some known) e = let place = place_of fleet id known e in inl (each place.0 (id, known) place.1)

-- one stream more of which it holds
pub each_more : (holds : ℕ → Type 0) (before : List (StreamId × Bor Stream)) (item : StreamId × Bor Stream)
    → OfEachThere holds (map entry_seen before) → holds item.0.0
    → OfEachThere holds (map entry_seen (before ++ item ∷ []))
each_more holds before item each here k entry at =
    let there : slice_get (map entry_seen before ++ entry_seen item ∷ []) k ≡ Some entry =
    subst (λ (es : List (ℕ × Stream)). slice_get es k ≡ Some entry) (map-append entry_seen before (item ∷ [])) at in
    ⊎_elim
    (λ (front : (j : ℕ) × (slice_get (map entry_seen before) j ≡ Some entry)). each front.0 entry front.1)
    (λ (back : (j : ℕ) × (slice_get (entry_seen item ∷ []) j ≡ Some entry)).
    subst (λ (e : ℕ × Stream). holds e.0) (only (entry_seen item) back.0 entry back.1) here)
    (get_in_either (map entry_seen before) (entry_seen item ∷ []) k entry there)

-- ---- a merge that is put there

pub merges_put : (one other old new : List (ℕ × Stream)) (id : ℕ) (both : Stream) → IsPut old new id both
    → AreMerges one other old → IsMergeAt one other id both → AreMerges one other new
merges_put one other old new id both put merges here q stream at = on (is_at (nat_cmp id) q) refl (put q)
  where
    on : (b : Bool) → is_at (nat_cmp id) q ≡ b → known_of new q ≡ cond b (Some both) (known_of old q)
        → IsMergeAt one other q stream
    on true is e = subst (λ (k : ℕ). IsMergeAt one other k stream) (same_id id q is)
        (subst (λ (s : Stream). IsMergeAt one other id s) (some_is both stream (sym e ∙ at)) here)
    on false is e = merges q stream (sym e ∙ at)

-- if a map takes it, it is put there, and if memory is refused, all stays
pub merges_inserted : {T E P Q : Type 0} (result : Result T E) (one other old new : List (ℕ × Stream)) (id : ℕ)
    (both : Stream) → OnOk result P → (P → IsPut old new id both) → OnErr result Q → (Q → new ≡ old)
    → AreMerges one other old → IsMergeAt one other id both → AreMerges one other new
merges_inserted (Ok t) one other old new id both ok put err same merges here =
    merges_put one other old new id both (put ok) merges here
merges_inserted (Err e) one other old new id both ok put err same merges here =
    subst (λ (f : List (ℕ × Stream)). AreMerges one other f) (sym (same err)) merges

-- what both know, by what the stream is in each
pub merge_of : (one other : List (ℕ × Stream)) (id : ℕ) (ours theirs both : Stream) → ours ≡ stream_at one id
    → theirs ≡ stream_at other id → IsMerge ours theirs both → FitTogether ours theirs
    → IsMergeAt one other id both
merge_of one other id ours theirs both a b merge fit = record {
  merge = subst (λ (s : Stream). IsMerge s (stream_at other id) both) a
      (subst (λ (o : Stream). IsMerge ours o both) b merge);
  fit = subst (λ (s : Stream). FitTogether s (stream_at other id)) a
      (subst (λ (o : Stream). FitTogether ours o) b fit);
}

-- ---- the CPUs of a merge

some_more : {X : Type 0} (o : Option X) → IsSome o → (x : X) × (o ≡ Some x)
some_more None some = let no : ⊥ = cc in absurd no
some_more (Some x) some = (x, refl)

some_is_some : {X : Type 0} (o : Option X) (x : X) → o ≡ Some x → IsSome o
some_is_some None x e = absurd (none-some x e)
some_is_some (Some y) x e = refl

pub merged_cpus : (s o new : Stream) → IsMerge s o new → HasKnownCpus s → HasKnownCpus o → HasKnownCpus new
merged_cpus s o new merge own others = record {
  known = λ cpu n known. ⊎_elim
      (λ (taken : IsTaken new.parcels cpu n).
      let h = merge.nothing_else.has cpu n taken.0 taken.1 in
      ⊎_elim
      (λ (front : (k : ℕ) × (slice_get s.parcels k ≡ Some h.parcel)). own.known cpu n (inl (
        taken.0,
        record
            { index = front.0; parcel = h.parcel; at = front.1; pair = h.pair },
      )))
      (λ (back : (k : ℕ) × (slice_get o.parcels k ≡ Some h.parcel)). others.known cpu n (inl (
        taken.0,
        record
            { index = back.0; parcel = h.parcel; at = back.1; pair = h.pair },
      )))
      (get_in_either s.parcels o.parcels h.index h.parcel h.at))
      (λ (m : Misses new.parcels cpu n).
      let h = merge.nothing_else.misses cpu n m in
      ⊎_elim
      (λ (front : (k : ℕ) × (slice_get s.parcels k ≡ Some h.parcel)). own.known cpu n (inr record
      { index = front.0; parcel = h.parcel; at = front.1; missing = h.missing }))
      (λ (back : (k : ℕ) × (slice_get o.parcels k ≡ Some h.parcel)). others.known cpu n (inr record
      { index = back.0; parcel = h.parcel; at = back.1; missing = h.missing }))
      (get_in_either s.parcels o.parcels h.index h.parcel h.at))
      known;
  given_up = λ cpu n m. ⊎_elim
      (λ (front : Misses s.given_up cpu n). own.given_up cpu n front)
      (λ (back : Misses o.given_up cpu n). others.given_up cpu n back)
      ((merge.given_up cpu n).0 m);
  marked = λ cpu says. ⊎_elim
      (λ (bound : 0 < bound_of new cpu).
      let is = merge.bounds cpu in
      ⊎_elim
      (λ (low : bound_of s cpu < bound_of o cpu). others.marked cpu (inl (omega arith)))
      (λ (high : bound_of o cpu ≤ bound_of s cpu). own.marked cpu (inl (omega arith)))
      (cases_lt (bound_of s cpu) (bound_of o cpu)))
      (λ (end : IsSome (end_of new cpu)).
      let e = some_more (end_of new cpu) end in
      ⊎_elim
      (λ (front : end_of s cpu ≡ Some e.0). own.marked cpu (inr (some_is_some (end_of s cpu) e.0 front)))
      (λ (back : end_of o cpu ≡ Some e.0). others.marked cpu (inr (some_is_some (end_of o cpu) e.0 back)))
      ((merge.ends cpu e.0).0 e.1))
      says;
}

-- ---- nothing and nothing

pub nothing_merged : IsMerge empty_stream empty_stream empty_stream
nothing_merged = record {
  bounds = λ cpu. refl;
  ends = λ cpu end. (
    λ e. inl e,
    λ either. ⊎_elim
        (λ (e : end_of empty_stream cpu ≡ Some end). e)
        (λ (e : end_of empty_stream cpu ≡ Some end). e)
        either,
  );
  given_up = λ cpu n. (
    λ m. inl m,
    λ either. ⊎_elim
        (λ (m : Misses [] cpu n). m)
        (λ (m : Misses [] cpu n). m)
        either,
  );
  kept = from_itself (bounds_of []) [];
  nothing_else = below_itself [];
}

pub nothing_fits : FitTogether empty_stream empty_stream
nothing_fits = record {
  ends = record {
    one_end = λ cpu end others e f. absurd (none-some end e);
    within = λ cpu end n e reached. absurd (none-some end e);
    others_within = λ cpu end n e reached. absurd (none-some end e);
  };
  agree = record {
    one_record = λ cpu n r other h k. absurd (none-some h.parcel h.at);
    not_missing = λ cpu n r h m. absurd (none-some h.parcel h.at);
  };
}

-- ---- all merges are there

pub merged_at : (one other joined : List (ℕ × Stream)) → AreMerges one other joined
    → OfEachThere (λ id. IsSome (known_of joined id)) one → OfEachThere (λ id. IsSome (known_of joined id)) other
    → (id : ℕ) → IsMergeAt one other id (stream_at joined id)
merged_at one other joined merges own others id = at (known_of joined id) refl
  where
    at : (o : Option Stream) → known_of joined id ≡ o → IsMergeAt one other id (or_empty o)
    at (Some known) e = merges id known e
    at None e =
        let none : (fleet : List (ℕ × Stream)) → OfEachThere (λ q. IsSome (known_of joined q)) fleet
        → stream_at fleet id ≡ empty_stream =
        λ fleet each. ⊎_elim
        (λ (some : IsSome (known_of joined id)). let x = some_more (known_of joined id) some in
        absurd (none-some x.0 (sym e ∙ x.1)))
        (λ (is : known_of fleet id ≡ None). ap or_empty is)
        (of_known (λ q. IsSome (known_of joined q)) fleet id each) in
        let a : stream_at one id ≡ empty_stream = none one own in
        let b : stream_at other id ≡ empty_stream = none other others in
        record {
          merge = subst (λ (s : Stream). IsMerge s (stream_at other id) empty_stream) (sym a)
              (subst (λ (o : Stream). IsMerge empty_stream o empty_stream) (sym b) nothing_merged);
          fit = subst (λ (s : Stream). FitTogether s (stream_at other id)) (sym a)
              (subst (λ (o : Stream). FitTogether empty_stream o) (sym b) nothing_fits);
        }

-- ---- what the pieces of both state

module _ (pieces others : List Packed) (id : ℕ) where
  parcel_left : (p : Parcel) → TellParcel pieces id p → TellParcel (pieces ++ others) id p
  parcel_left p t = record {
    time = t.time;
    contents = t.contents;
    told = (told_in_either pieces others (parcel_piece id p t.time t.contents)).1 (inl t.told);
  }

  parcel_right : (p : Parcel) → TellParcel others id p → TellParcel (pieces ++ others) id p
  parcel_right p t = record {
    time = t.time;
    contents = t.contents;
    told = (told_in_either pieces others (parcel_piece id p t.time t.contents)).1 (inr t.told);
  }

  parcel_of_either : (p : Parcel) → TellParcel (pieces ++ others) id p → TellParcel pieces id p ⊎ TellParcel others id p
  parcel_of_either p t = ⊎_elim
      (λ (front : IsPieceOf pieces (parcel_piece id p t.time t.contents)). inl record
      { time = t.time; contents = t.contents; told = front })
      (λ (back : IsPieceOf others (parcel_piece id p t.time t.contents)). inr record
      { time = t.time; contents = t.contents; told = back })
      ((told_in_either pieces others (parcel_piece id p t.time t.contents)).0 t.told)

  module _ (s o new : Stream) (was : IsStreamOf pieces id s) (too : IsStreamOf others id o)
      (merge : IsMerge s o new) where
    bounds : (cpu : ℕ) → IsBoundTold (pieces ++ others) id cpu (bound_of new cpu)
    bounds cpu =
        let is = merge.bounds cpu in
        let own = was.bounds cpu in
        let other = too.bounds cpu in
        record {
          highest = λ b told. ⊎_elim
              (λ (front : TellForgotten pieces id cpu b). let up = own.highest b front in omega arith)
              (λ (back : TellForgotten others id cpu b). let up = other.highest b back in omega arith)
              ((told_in_either pieces others (mark_piece id cpu (Forgotten b))).0 told);
          told = ⊎_elim
              (λ (low : bound_of s cpu < bound_of o cpu).
              let same : bound_of o cpu ≡ bound_of new cpu = omega arith in
              ⊎_elim
              (λ (none : bound_of o cpu ≡ 0). absurd (omega arith))
              (λ (told : TellForgotten others id cpu (bound_of o cpu)). inr
              (subst (λ (b : ℕ). TellForgotten (pieces ++ others) id cpu b) same
              ((told_in_either pieces others (mark_piece id cpu (Forgotten (bound_of o cpu)))).1 (inr told))))
              other.told)
              (λ (high : bound_of o cpu ≤ bound_of s cpu).
              let same : bound_of s cpu ≡ bound_of new cpu = omega arith in
              ⊎_elim
              (λ (none : bound_of s cpu ≡ 0). let zero : bound_of new cpu ≡ 0 = omega arith in inl zero)
              (λ (told : TellForgotten pieces id cpu (bound_of s cpu)). inr
              (subst (λ (b : ℕ). TellForgotten (pieces ++ others) id cpu b) same
              ((told_in_either pieces others (mark_piece id cpu (Forgotten (bound_of s cpu)))).1 (inl told))))
              own.told)
              (cases_lt (bound_of s cpu) (bound_of o cpu));
        }

    number_left : (says : Parcel → Type 0) (cpu n : ℕ) → bound_of new cpu ≤ n → TellOfNumber says pieces id cpu n
        → TellOfNumber says (pieces ++ others) id cpu n
    number_left says cpu n from t = record {
      parcel = t.parcel;
      told = parcel_left t.parcel t.told;
      says_it = t.says_it;
      kept = none_forgets (pieces ++ others) id cpu (bound_of new cpu) n (bounds cpu) from;
    }

    number_right : (says : Parcel → Type 0) (cpu n : ℕ) → bound_of new cpu ≤ n → TellOfNumber says others id cpu n
        → TellOfNumber says (pieces ++ others) id cpu n
    number_right says cpu n from t = record {
      parcel = t.parcel;
      told = parcel_right t.parcel t.told;
      says_it = t.says_it;
      kept = none_forgets (pieces ++ others) id cpu (bound_of new cpu) n (bounds cpu) from;
    }

    number_of_either : (says : Parcel → Type 0) (cpu n : ℕ) → TellOfNumber says (pieces ++ others) id cpu n
        → TellOfNumber says pieces id cpu n ⊎ TellOfNumber says others id cpu n
    number_of_either says cpu n t = ⊎_elim
        (λ (front : TellParcel pieces id t.parcel). inl record {
          parcel = t.parcel;
          told = front;
          says_it = t.says_it;
          kept = λ b told. t.kept b ((told_in_either pieces others (mark_piece id cpu (Forgotten b))).1 (inl told));
        })
        (λ (back : TellParcel others id t.parcel). inr record {
          parcel = t.parcel;
          told = back;
          says_it = t.says_it;
          kept = λ b told. t.kept b ((told_in_either pieces others (mark_piece id cpu (Forgotten b))).1 (inr told));
        })
        (parcel_of_either t.parcel t.told)

    low : (cpu n : ℕ) → bound_of new cpu ≤ n → (bound_of s cpu ≤ n) × (bound_of o cpu ≤ n)
    low cpu n from = let is = merge.bounds cpu in
        let a : bound_of s cpu ≤ n = omega arith in let b : bound_of o cpu ≤ n = omega arith in (a, b)

    has_either : (cpu n : ℕ) (r : Record) → Has (s.parcels ++ o.parcels) cpu n r
        → Has s.parcels cpu n r ⊎ Has o.parcels cpu n r
    has_either cpu n r h = ⊎_elim
        (λ (front : (k : ℕ) × (slice_get s.parcels k ≡ Some h.parcel)). inl record
        { index = front.0; parcel = h.parcel; at = front.1; pair = h.pair })
        (λ (back : (k : ℕ) × (slice_get o.parcels k ≡ Some h.parcel)). inr record
        { index = back.0; parcel = h.parcel; at = back.1; pair = h.pair })
        (get_in_either s.parcels o.parcels h.index h.parcel h.at)

    misses_either : (cpu n : ℕ) → Misses (s.parcels ++ o.parcels) cpu n → Misses s.parcels cpu n ⊎
        Misses o.parcels cpu n
    misses_either cpu n m = ⊎_elim
        (λ (front : (k : ℕ) × (slice_get s.parcels k ≡ Some m.parcel)). inl record
        { index = front.0; parcel = m.parcel; at = front.1; missing = m.missing })
        (λ (back : (k : ℕ) × (slice_get o.parcels k ≡ Some m.parcel)). inr record
        { index = back.0; parcel = m.parcel; at = back.1; missing = m.missing })
        (get_in_either s.parcels o.parcels m.index m.parcel m.at)

    pub joined_told : IsStreamOf (pieces ++ others) id new
    joined_told = record {
      bounds = bounds;
      ends = λ cpu count. (
        λ e. ⊎_elim
            (λ (front : end_of s cpu ≡ Some count).
            (told_in_either pieces others (mark_piece id cpu (End count))).1 (inl ((was.ends cpu count).0 front)))
            (λ (back : end_of o cpu ≡ Some count).
            (told_in_either pieces others (mark_piece id cpu (End count))).1 (inr ((too.ends cpu count).0 back)))
            ((merge.ends cpu count).0 e),
        λ told. ⊎_elim
            (λ (front : TellEnd pieces id cpu count). (merge.ends cpu count).1 (inl ((was.ends cpu count).1 front)))
            (λ (back : TellEnd others id cpu count). (merge.ends cpu count).1 (inr ((too.ends cpu count).1 back)))
            ((told_in_either pieces others (mark_piece id cpu (End count))).0 told),
      );
      records = λ cpu n r. (
        λ h. let from = low cpu n h.from in
            ⊎_elim
            (λ (front : Has s.parcels cpu n r). number_left (λ q. IsPairOf q cpu n r) cpu n h.from
            ((was.records cpu n r).0 record { from = from.0; has = front }))
            (λ (back : Has o.parcels cpu n r). number_right (λ q. IsPairOf q cpu n r) cpu n h.from
            ((too.records cpu n r).0 record { from = from.1; has = back }))
            (has_either cpu n r ((merge.kept.has cpu n r h.from).1 h.has)),
        λ t. let from = from_bound (pieces ++ others) id cpu (bound_of new cpu) n (bounds cpu) t.kept in
            ⊎_elim
            (λ (front : TellRecord pieces id cpu n r). let h = (was.records cpu n r).1 front in record {
              from = from;
              has = (merge.kept.has cpu n r from).0 ((joined_left s.parcels o.parcels).has cpu n r h.has);
            })
            (λ (back : TellRecord others id cpu n r). let h = (too.records cpu n r).1 back in record {
              from = from;
              has = (merge.kept.has cpu n r from).0 ((joined_right s.parcels o.parcels).has cpu n r h.has);
            })
            (number_of_either (λ q. IsPairOf q cpu n r) cpu n t),
      );
      missing = λ cpu n. (
        λ h. let from = low cpu n h.from in
            ⊎_elim
            (λ (front : Misses s.parcels cpu n). number_left (λ q. IsMissingOf q cpu n) cpu n h.from
            ((was.missing cpu n).0 record { from = from.0; misses = front }))
            (λ (back : Misses o.parcels cpu n). number_right (λ q. IsMissingOf q cpu n) cpu n h.from
            ((too.missing cpu n).0 record { from = from.1; misses = back }))
            (misses_either cpu n ((merge.kept.misses cpu n h.from).1 h.misses)),
        λ t. let from = from_bound (pieces ++ others) id cpu (bound_of new cpu) n (bounds cpu) t.kept in
            ⊎_elim
            (λ (front : TellMissing pieces id cpu n). let h = (was.missing cpu n).1 front in record {
              from = from;
              misses = (merge.kept.misses cpu n from).0 ((joined_left s.parcels o.parcels).misses cpu n h.misses);
            })
            (λ (back : TellMissing others id cpu n). let h = (too.missing cpu n).1 back in record {
              from = from;
              misses = (merge.kept.misses cpu n from).0 ((joined_right s.parcels o.parcels).misses cpu n h.misses);
            })
            (number_of_either (λ q. IsMissingOf q cpu n) cpu n t),
      );
      given_up = λ cpu n. (
        λ m. ⊎_elim
            (λ (front : Misses s.given_up cpu n). let t = (was.given_up cpu n).0 front in record {
              first = t.first;
              end = t.end;
              told = (told_in_either pieces others (mark_piece id cpu (Undelivered t.first t.end))).1 (inl t.told);
              from = t.from;
              below = t.below;
            })
            (λ (back : Misses o.given_up cpu n). let t = (too.given_up cpu n).0 back in record {
              first = t.first;
              end = t.end;
              told = (told_in_either pieces others (mark_piece id cpu (Undelivered t.first t.end))).1 (inr t.told);
              from = t.from;
              below = t.below;
            })
            ((merge.given_up cpu n).0 m),
        λ t. ⊎_elim
            (λ (front : IsPieceOf pieces (mark_piece id cpu (Undelivered t.first t.end))).
            (merge.given_up cpu n).1 (inl ((was.given_up cpu n).1 record
            { first = t.first; end = t.end; told = front; from = t.from; below = t.below })))
            (λ (back : IsPieceOf others (mark_piece id cpu (Undelivered t.first t.end))).
            (merge.given_up cpu n).1 (inr ((too.given_up cpu n).1 record
            { first = t.first; end = t.end; told = back; from = t.from; below = t.below })))
            ((told_in_either pieces others (mark_piece id cpu (Undelivered t.first t.end))).0 t.told),
      );
    }

-- ---- what is stated determines a fleet

option_same : (a b : Option ℕ) → ((x : ℕ) → a ≡ Some x → b ≡ Some x) → ((x : ℕ) → b ≡ Some x → a ≡ Some x) → a ≡ b
option_same (Some x) b to back = sym (to x refl)
option_same None (Some y) to back = back y refl
option_same None None to back = refl

pub told_same : (pieces : List Packed) (id : ℕ) (s o : Stream) → IsStreamOf pieces id s → IsStreamOf pieces id o
    → IsSameStream s o
told_same pieces id s o was too =
    record {
      bounds = bounds;
      ends = λ cpu. option_same (end_of s cpu) (end_of o cpu)
          (λ count e. (too.ends cpu count).1 ((was.ends cpu count).0 e))
          (λ count e. (was.ends cpu count).1 ((too.ends cpu count).0 e));
      records = λ cpu n r. records cpu n r;
      missing = λ cpu n. missing cpu n;
      undelivered = λ cpu n. (
        λ u. record {
          given_up = (too.given_up cpu n).1 ((was.given_up cpu n).0 u.given_up);
          not_known = not_known s o bounds records missing cpu n u.not_known;
        },
        λ u. record {
          given_up = (was.given_up cpu n).1 ((too.given_up cpu n).0 u.given_up);
          not_known = not_known o s (λ c. sym (bounds c))
              (λ c k r. let e = records c k r in (e.1, e.0))
              (λ c k. let e = missing c k in (e.1, e.0)) cpu n u.not_known;
        },
      );
    }
  where
    one_way : (cpu a b : ℕ) → IsBoundTold pieces id cpu a → IsBoundTold pieces id cpu b → a ≤ b
    one_way cpu a b p q = ⊎_elim
        (λ (none : a ≡ 0). let le : a ≤ b = omega arith in le)
        (λ (told : TellForgotten pieces id cpu a). q.highest a told)
        p.told

    bounds : (cpu : ℕ) → bound_of s cpu ≡ bound_of o cpu
    bounds cpu =
        let p = was.bounds cpu in
        let q = too.bounds cpu in
        let up = one_way cpu (bound_of s cpu) (bound_of o cpu) p q in
        let down = one_way cpu (bound_of o cpu) (bound_of s cpu) q p in
        let same : bound_of s cpu ≡ bound_of o cpu = omega arith in same

    records : (cpu n : ℕ) (r : Record) → (HasRecord s cpu n r ↔ HasRecord o cpu n r)
    records cpu n r = (
      λ h. (too.records cpu n r).1 ((was.records cpu n r).0 h),
      λ h. (was.records cpu n r).1 ((too.records cpu n r).0 h),
    )

    missing : (cpu n : ℕ) → (IsMissing s cpu n ↔ IsMissing o cpu n)
    missing cpu n = (
      λ h. (too.missing cpu n).1 ((was.missing cpu n).0 h),
      λ h. (was.missing cpu n).1 ((too.missing cpu n).0 h),
    )

    not_known : (a b : Stream) → ((cpu : ℕ) → bound_of a cpu ≡ bound_of b cpu)
        → ((cpu n : ℕ) (r : Record) → (HasRecord a cpu n r ↔ HasRecord b cpu n r))
        → ((cpu n : ℕ) → (IsMissing a cpu n ↔ IsMissing b cpu n))
        → (cpu n : ℕ) → IsNotKnown a cpu n → IsNotKnown b cpu n
    not_known a b same has misses cpu n either =
        let is = same cpu in
        ⊎_elim
        (λ (lt : n < bound_of b cpu). inl lt)
        (λ (from : bound_of b cpu ≤ n). inr (⊎_elim
        (λ (lt : n < bound_of a cpu). absurd (omega arith))
        (λ (u : IsUnknown a.parcels cpu n). record {
          no_record = λ r h. let own = (has cpu n r).1 record { from = from; has = h } in u.no_record r own.has;
          not_missing = λ m. let own = (misses cpu n).1 record { from = from; misses = m } in
              u.not_missing own.misses;
        })
        either))
        (cases_lt n (bound_of b cpu))

-- ---- the same

same_nothing : IsSameStream empty_stream empty_stream
same_nothing = record {
  bounds = λ cpu. refl;
  ends = λ cpu. refl;
  records = λ cpu n r. (λ h. h, λ h. h);
  missing = λ cpu n. (λ h. h, λ h. h);
  undelivered = λ cpu n. (λ h. h, λ h. h);
}

pub same_at_all : (one other : List (ℕ × Stream))
    → OfEachThere (λ id. IsSameStream (stream_at one id) (stream_at other id)) one
    → OfEachThere (λ id. IsSameStream (stream_at one id) (stream_at other id)) other
    → IsSameFleet one other
same_at_all one other own others id = ⊎_elim
    (λ (same : IsSameStream (stream_at one id) (stream_at other id)). same)
    (λ (none : known_of one id ≡ None). ⊎_elim
    (λ (same : IsSameStream (stream_at one id) (stream_at other id)). same)
    (λ (neither : known_of other id ≡ None).
    subst (λ (s : Stream). IsSameStream s (stream_at other id)) (sym (ap or_empty none))
    (subst (λ (s : Stream). IsSameStream empty_stream s) (sym (ap or_empty neither)) same_nothing))
    (of_known (λ q. IsSameStream (stream_at one q) (stream_at other q)) other id others))
    (of_known (λ q. IsSameStream (stream_at one q) (stream_at other q)) one id own)
