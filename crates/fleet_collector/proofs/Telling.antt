-- What one piece more states, and what the same pieces state in another order.
use Rattle.std.proofs.Common.{◌≡◌, ◌↔◌, ◌⊎◌, inl, inr, ⊎_elim, ℕ, zero, suc, ◌+◌, ◌<◌, ◌≤◌, List, [], ◌∷◌, ◌++◌, length}
use Rattle.std.proofs.Common.{Some, None, refl, sym, ap, ◌∙◌, subst, arith}
use Rattle.std.specs.List.{slice_get, Contains}
use Rattle.std.specs.List.Sorted.{IsPermutation}
use Rattle.std.proofs.lemmas.Bool.{cases_eq}
use Rattle.std.proofs.lemmas.List.Sorted.{IsPermutation-sym, Contains-permutation}
use Rattle.std.proofs.lemmas.Option.{none-some, slice_get_within, get_or_from_slice_get, slice_get-get_or}
use Rattle.trace_model.specs.Record.{Record}
use Rattle.trace_model.specs.Parcel.{Parcel, IsPairOf, IsMissingOf}
use Rattle.trace_model.specs.Collection.{Has, Misses}
use Rattle.trace_model.proofs.collections.Elements.{some_is, get_in_front, get_behind, get_in_either}
use Rattle.parcel_streams.specs.Pieces.{Packed, parcel_piece, mark_piece}
use Rattle.parcel_streams.specs.declared.piece.Mark.{Mark}
use Rattle.parcel_streams.specs.declared.piece.Mark.TheVariants.{End, Forgotten, Undelivered}
use Rattle.stream_collector.specs.declared.marks.Marks.{Marks}
use Rattle.stream_collector.specs.Stream.{Stream, bound_of, end_of, HasRecord, IsMissing}
use Rattle.stream_collector.specs.Marking.{HasEnd}
use Rattle.stream_collector.specs.GivenUp.{GivesUp, AllGivenUp, IsInRun}
use Rattle.stream_collector.specs.Forgetting.{HasBound}
use Rattle.stream_collector.proofs.StreamLaws.{records_stay, missing_stay, one_raised}
use Rattle.fleet_collector.specs.Told.{stream_of, IsPieceOf, TellEnd, TellForgotten, TellGivenUp, TellParcel}
use Rattle.fleet_collector.specs.Told.{TellOfNumber}
use Rattle.fleet_collector.specs.Told.{TellRecord}
use Rattle.fleet_collector.specs.Told.{TellMissing, IsBoundTold, IsStreamOf, IsFleetOf, HaveSamePieces, IsListingOf}
use Rattle.fleet_collector.specs.Fleet.{stream_at}
use Rattle.fleet_collector.specs.Listing.{Line, IsFleetListing}

-- ---- one piece more

pub only : {X : Type 0} (x : X) (k : ℕ) (y : X) → slice_get (x ∷ []) k ≡ Some y → x ≡ y
only x zero y at = some_is x y at
only x (suc k) y at = absurd (none-some y at)

pub told_before : (pieces : List Packed) (new piece : Packed) → IsPieceOf pieces piece → IsPieceOf
    (pieces ++ new ∷ []) piece
told_before pieces new piece s = (s.0, get_in_front pieces (new ∷ []) s.0 piece s.1)

pub told_last : (pieces : List Packed) (new : Packed) → IsPieceOf (pieces ++ new ∷ []) new
told_last pieces new = (length pieces + 0, get_behind pieces (new ∷ []) 0)

pub told_either : (pieces : List Packed) (new piece : Packed) → IsPieceOf (pieces ++ new ∷ []) piece
    → IsPieceOf pieces piece ⊎ (new ≡ piece)
told_either pieces new piece s = ⊎_elim
    (λ (front : IsPieceOf pieces piece). inl front)
    (λ (back : IsPieceOf (new ∷ []) piece). inr (only new back.0 piece back.1))
    (get_in_either pieces (new ∷ []) s.0 piece s.1)

-- ---- bounds

-- what no piece forgets is from the bound on, and the other way round
pub from_bound : (pieces : List Packed) (id cpu bound n : ℕ) → IsBoundTold pieces id cpu bound
    → ((other : ℕ) → TellForgotten pieces id cpu other → other ≤ n) → bound ≤ n
from_bound pieces id cpu bound n is kept = ⊎_elim
    (λ (none : bound ≡ 0). let le : bound ≤ n = omega arith in le)
    (λ (told : TellForgotten pieces id cpu bound). kept bound told)
    is.told

pub none_forgets : (pieces : List Packed) (id cpu bound n : ℕ) → IsBoundTold pieces id cpu bound → bound ≤ n
    → (other : ℕ) → TellForgotten pieces id cpu other → other ≤ n
none_forgets pieces id cpu bound n is from other told = let low = is.highest other told in omega arith

-- ---- pieces that state the same of one stream

-- both have the same pieces of the stream
pub record TellSame (pieces others : List Packed) (id : ℕ) : Type 0 where
  pub parcels : (p : Parcel) (time : ℕ) (contents : List ℕ)
      → (IsPieceOf pieces (parcel_piece id p time contents) ↔ IsPieceOf others (parcel_piece id p time contents))
  pub marks : (cpu : ℕ) (mark : Mark)
      → (IsPieceOf pieces (mark_piece id cpu mark) ↔ IsPieceOf others (mark_piece id cpu mark))

tell_flips : (pieces others : List Packed) (id : ℕ) → TellSame pieces others id → TellSame others pieces id
tell_flips pieces others id same = record {
  parcels = λ p time contents. let s = same.parcels p time contents in (s.1, s.0);
  marks = λ cpu mark. let s = same.marks cpu mark in (s.1, s.0);
}

parcel_same : (pieces others : List Packed) (id : ℕ) → TellSame pieces others id → (p : Parcel)
    → TellParcel pieces id p → TellParcel others id p
parcel_same pieces others id same p t =
    record { time = t.time; contents = t.contents; told = (same.parcels p t.time t.contents).0 t.told }

number_same : (says : Parcel → Type 0) (pieces others : List Packed) (id cpu n : ℕ) → TellSame pieces others id
    → TellOfNumber says pieces id cpu n → TellOfNumber says others id cpu n
number_same says pieces others id cpu n same t = record {
  parcel = t.parcel;
  told = parcel_same pieces others id same t.parcel t.told;
  says_it = t.says_it;
  kept = λ bound told. t.kept bound ((same.marks cpu (Forgotten bound)).1 told);
}

given_same : (pieces others : List Packed) (id cpu n : ℕ) → TellSame pieces others id → TellGivenUp pieces id cpu n
    → TellGivenUp others id cpu n
given_same pieces others id cpu n same t = record {
  first = t.first;
  end = t.end;
  told = (same.marks cpu (Undelivered t.first t.end)).0 t.told;
  from = t.from;
  below = t.below;
}

pub stream_same : (pieces others : List Packed) (id : ℕ) (s : Stream) → TellSame pieces others id
    → IsStreamOf pieces id s → IsStreamOf others id s
stream_same pieces others id s same was =
    let back = tell_flips pieces others id same in
    record {
      bounds = λ cpu. let b = was.bounds cpu in record {
        highest = λ other told. b.highest other ((same.marks cpu (Forgotten other)).1 told);
        told = ⊎_elim (λ (none : bound_of s cpu ≡ 0). inl none)
            (λ (told : TellForgotten pieces id cpu (bound_of s cpu)). inr
            ((same.marks cpu (Forgotten (bound_of s cpu))).0 told))
            b.told;
      };
      ends = λ cpu count. let e = was.ends cpu count in (
        λ is. (same.marks cpu (End count)).0 (e.0 is),
        λ told. e.1 ((same.marks cpu (End count)).1 told),
      );
      records = λ cpu n r. let e = was.records cpu n r in (
        λ h. number_same (λ q. IsPairOf q cpu n r) pieces others id cpu n same (e.0 h),
        λ told. e.1 (number_same (λ q. IsPairOf q cpu n r) others pieces id cpu n back told),
      );
      missing = λ cpu n. let e = was.missing cpu n in (
        λ h. number_same (λ q. IsMissingOf q cpu n) pieces others id cpu n same (e.0 h),
        λ told. e.1 (number_same (λ q. IsMissingOf q cpu n) others pieces id cpu n back told),
      );
      given_up = λ cpu n. let e = was.given_up cpu n in (
        λ m. given_same pieces others id cpu n same (e.0 m),
        λ told. e.1 (given_same others pieces id cpu n back told),
      );
    }

-- ---- a parcel more

module _ (pieces : List Packed) (id : ℕ) (p : Parcel) (time : ℕ) (contents : List ℕ) where
  parcel_last : TellParcel (pieces ++ parcel_piece id p time contents ∷ []) id p
  parcel_last = record
      { time = time; contents = contents; told = told_last pieces (parcel_piece id p time contents) }

  parcel_before : (q : Parcel) → TellParcel pieces id q → TellParcel (pieces ++ parcel_piece id p time contents ∷ []) id
      q
  parcel_before q t = record {
    time = t.time;
    contents = t.contents;
    told = told_before pieces (parcel_piece id p time contents) (parcel_piece id q t.time t.contents) t.told;
  }

  parcel_either : (q : Parcel) → TellParcel (pieces ++ parcel_piece id p time contents ∷ []) id q
      → TellParcel pieces id q ⊎ (p ≡ q)
  parcel_either q t = ⊎_elim
      (λ (front : IsPieceOf pieces (parcel_piece id q t.time t.contents)). inl record
      { time = t.time; contents = t.contents; told = front })
      (λ (e : parcel_piece id p time contents ≡ parcel_piece id q t.time t.contents).
      let is : p ≡ q = cc in inr is)
      (told_either pieces (parcel_piece id p time contents) (parcel_piece id q t.time t.contents) t.told)

  mark_before : (cpu : ℕ) (mark : Mark) → IsPieceOf pieces (mark_piece id cpu mark)
      → IsPieceOf (pieces ++ parcel_piece id p time contents ∷ []) (mark_piece id cpu mark)
  mark_before cpu mark told = told_before pieces (parcel_piece id p time contents) (mark_piece id cpu mark) told

  mark_was : (cpu : ℕ) (mark : Mark) → IsPieceOf (pieces ++ parcel_piece id p time contents ∷ [])
      (mark_piece id cpu mark)
      → IsPieceOf pieces (mark_piece id cpu mark)
  mark_was cpu mark told = ⊎_elim
      (λ (front : IsPieceOf pieces (mark_piece id cpu mark)). front)
      (λ (e : parcel_piece id p time contents ≡ mark_piece id cpu mark). let no : ⊥ = cc in absurd no)
      (told_either pieces (parcel_piece id p time contents) (mark_piece id cpu mark) told)

  module _ (says : Parcel → Type 0) (cpu n bound : ℕ) (is : IsBoundTold pieces id cpu bound) where
    number_before : TellOfNumber says pieces id cpu n
        → TellOfNumber says (pieces ++ parcel_piece id p time contents ∷ []) id cpu n
    number_before t = record {
      parcel = t.parcel;
      told = parcel_before t.parcel t.told;
      says_it = t.says_it;
      kept = λ b told. t.kept b (mark_was cpu (Forgotten b) told);
    }

    number_last : bound ≤ n → says p → TellOfNumber says (pieces ++ parcel_piece id p time contents ∷ []) id cpu n
    number_last from it = record {
      parcel = p;
      told = parcel_last;
      says_it = it;
      kept = λ b told. none_forgets pieces id cpu bound n is from b (mark_was cpu (Forgotten b) told);
    }

    number_from : TellOfNumber says (pieces ++ parcel_piece id p time contents ∷ []) id cpu n → bound ≤ n
    number_from t = from_bound pieces id cpu bound n is (λ b told. t.kept b (mark_before cpu (Forgotten b) told))

    number_either : TellOfNumber says (pieces ++ parcel_piece id p time contents ∷ []) id cpu n
        → TellOfNumber says pieces id cpu n ⊎ says p
    number_either t = ⊎_elim
        (λ (front : TellParcel pieces id t.parcel). inl record {
          parcel = t.parcel;
          told = front;
          says_it = t.says_it;
          kept = λ b told. t.kept b (mark_before cpu (Forgotten b) told);
        })
        (λ (same : p ≡ t.parcel). inr (subst says (sym same) t.says_it))
        (parcel_either t.parcel t.told)

  -- the stream has and misses, from its bounds on, what it had and missed and what the parcel has and misses
  pub parcel_told : (old new : Stream) → IsStreamOf pieces id old
      → new.marks ≡ old.marks → new.given_up ≡ old.given_up
      → ((cpu n : ℕ) (r : Record) → bound_of old cpu ≤ n
      → (Has new.parcels cpu n r ↔ (Has old.parcels cpu n r ⊎ IsPairOf p cpu n r)))
      → ((cpu n : ℕ) → bound_of old cpu ≤ n
      → (Misses new.parcels cpu n ↔ (Misses old.parcels cpu n ⊎ IsMissingOf p cpu n)))
      → IsStreamOf (pieces ++ parcel_piece id p time contents ∷ []) id new
  parcel_told old new was marks given has misses =
      let same : (cpu : ℕ) → bound_of new cpu ≡ bound_of old cpu =
      λ cpu. ap (λ (ms : List (ℕ × Marks)). bound_of record
      { parcels = old.parcels; marks = ms; given_up = old.given_up } cpu) marks in
      record {
        bounds = λ cpu. let b = was.bounds cpu in subst (λ (bound : ℕ). IsBoundTold
            (pieces ++ parcel_piece id p time contents ∷ []) id cpu bound)
            (sym (same cpu)) record {
              highest = λ other told. b.highest other (mark_was cpu (Forgotten other) told);
              told = ⊎_elim (λ (none : bound_of old cpu ≡ 0). inl none)
                  (λ (told : TellForgotten pieces id cpu (bound_of old cpu)). inr
                  (mark_before cpu (Forgotten (bound_of old cpu)) told))
                  b.told;
            };
        ends = λ cpu count. let e = was.ends cpu count in
            let is : end_of new cpu ≡ end_of old cpu =
            ap (λ (ms : List (ℕ × Marks)). end_of record
            { parcels = old.parcels; marks = ms; given_up = old.given_up } cpu) marks in (
              λ end. mark_before cpu (End count) (e.0 (sym is ∙ end)),
              λ told. is ∙ e.1 (mark_was cpu (End count) told),
            );
        records = λ cpu n r.
            let e = was.records cpu n r in
            let b = was.bounds cpu in
            let s = same cpu in (
              λ h. let from = h.from in
                  let up : bound_of old cpu ≤ n = subst (λ (k : ℕ). k ≤ n) s from in
                  ⊎_elim
                  (λ (had : Has old.parcels cpu n r). number_before (λ q. IsPairOf q cpu n r) cpu n (bound_of old cpu) b
                  (e.0 record { from = up; has = had }))
                  (λ (pair : IsPairOf p cpu n r). number_last (λ q. IsPairOf q cpu n r) cpu n (bound_of old cpu) b up
                  pair)
                  ((has cpu n r up).0 h.has),
              λ t. let up = number_from (λ q. IsPairOf q cpu n r) cpu n (bound_of old cpu) b t in
                  let from : bound_of new cpu ≤ n = subst (λ (k : ℕ). k ≤ n) (sym s) up in
                  ⊎_elim
                  (λ (before : TellRecord pieces id cpu n r). let h = e.1 before in record
                  { from = from; has = (has cpu n r up).1 (inl h.has) })
                  (λ (pair : IsPairOf p cpu n r). record { from = from; has = (has cpu n r up).1 (inr pair) })
                  (number_either (λ q. IsPairOf q cpu n r) cpu n (bound_of old cpu) b t),
            );
        missing = λ cpu n.
            let e = was.missing cpu n in
            let b = was.bounds cpu in
            let s = same cpu in (
              λ h. let from = h.from in
                  let up : bound_of old cpu ≤ n = subst (λ (k : ℕ). k ≤ n) s from in
                  ⊎_elim
                  (λ (had : Misses old.parcels cpu n). number_before (λ q. IsMissingOf q cpu n) cpu n (bound_of old cpu)
                  b
                  (e.0 record { from = up; misses = had }))
                  (λ (it : IsMissingOf p cpu n). number_last (λ q. IsMissingOf q cpu n) cpu n (bound_of old cpu) b up
                  it)
                  ((misses cpu n up).0 h.misses),
              λ t. let up = number_from (λ q. IsMissingOf q cpu n) cpu n (bound_of old cpu) b t in
                  let from : bound_of new cpu ≤ n = subst (λ (k : ℕ). k ≤ n) (sym s) up in
                  ⊎_elim
                  (λ (before : TellMissing pieces id cpu n). let h = e.1 before in record
                  { from = from; misses = (misses cpu n up).1 (inl h.misses) })
                  (λ (it : IsMissingOf p cpu n). record { from = from; misses = (misses cpu n up).1 (inr it) })
                  (number_either (λ q. IsMissingOf q cpu n) cpu n (bound_of old cpu) b t),
            );
        given_up = λ cpu n. let e = was.given_up cpu n in (
          λ m. let t = e.0 (subst (λ (ps : List Parcel). Misses ps cpu n) given m) in record {
            first = t.first;
            end = t.end;
            told = mark_before cpu (Undelivered t.first t.end) t.told;
            from = t.from;
            below = t.below;
          },
          λ t. subst (λ (ps : List Parcel). Misses ps cpu n) (sym given) (e.1 record {
            first = t.first;
            end = t.end;
            told = mark_was cpu (Undelivered t.first t.end) t.told;
            from = t.from;
            below = t.below;
          }),
        );
      }

-- ---- a mark more

module _ (pieces : List Packed) (id c : ℕ) (mark : Mark) where
  last_or_before : (cpu : ℕ) (m : Mark) → IsPieceOf (pieces ++ mark_piece id c mark ∷ []) (mark_piece id cpu m)
      → IsPieceOf pieces (mark_piece id cpu m) ⊎ ((c ≡ cpu) × (mark ≡ m))
  last_or_before cpu m told = ⊎_elim
      (λ (front : IsPieceOf pieces (mark_piece id cpu m)). inl front)
      (λ (e : mark_piece id c mark ≡ mark_piece id cpu m).
      let first : c ≡ cpu = cc in let second : mark ≡ m = cc in inr (first, second))
      (told_either pieces (mark_piece id c mark) (mark_piece id cpu m) told)

  still : (cpu : ℕ) (m : Mark) → IsPieceOf pieces (mark_piece id cpu m)
      → IsPieceOf (pieces ++ mark_piece id c mark ∷ []) (mark_piece id cpu m)
  still cpu m told = told_before pieces (mark_piece id c mark) (mark_piece id cpu m) told

  parcel_still : (q : Parcel) → TellParcel pieces id q → TellParcel (pieces ++ mark_piece id c mark ∷ []) id q
  parcel_still q t = record {
    time = t.time;
    contents = t.contents;
    told = told_before pieces (mark_piece id c mark) (parcel_piece id q t.time t.contents) t.told;
  }

  parcel_was : (q : Parcel) → TellParcel (pieces ++ mark_piece id c mark ∷ []) id q → TellParcel pieces id q
  parcel_was q t = record {
    time = t.time;
    contents = t.contents;
    told = ⊎_elim
        (λ (front : IsPieceOf pieces (parcel_piece id q t.time t.contents)). front)
        (λ (e : mark_piece id c mark ≡ parcel_piece id q t.time t.contents). let no : ⊥ = cc in absurd no)
        (told_either pieces (mark_piece id c mark) (parcel_piece id q t.time t.contents) t.told);
  }

  number_still : (says : Parcel → Type 0) (cpu n bound : ℕ)
      → IsBoundTold (pieces ++ mark_piece id c mark ∷ []) id cpu bound → bound ≤ n
      → TellOfNumber says pieces id cpu n → TellOfNumber says (pieces ++ mark_piece id c mark ∷ []) id cpu n
  number_still says cpu n bound is from t = record {
    parcel = t.parcel;
    told = parcel_still t.parcel t.told;
    says_it = t.says_it;
    kept = none_forgets (pieces ++ mark_piece id c mark ∷ []) id cpu bound n is from;
  }

  number_was : (says : Parcel → Type 0) (cpu n : ℕ)
      → TellOfNumber says (pieces ++ mark_piece id c mark ∷ []) id cpu n → TellOfNumber says pieces id cpu n
  number_was says cpu n t = record {
    parcel = t.parcel;
    told = parcel_was t.parcel t.told;
    says_it = t.says_it;
    kept = λ b told. t.kept b (still cpu (Forgotten b) told);
  }

  given_still : (cpu n : ℕ) → TellGivenUp pieces id cpu n → TellGivenUp (pieces ++ mark_piece id c mark ∷ []) id cpu n
  given_still cpu n t = record {
    first = t.first;
    end = t.end;
    told = still cpu (Undelivered t.first t.end) t.told;
    from = t.from;
    below = t.below;
  }

  -- the bounds, the ends and what is given up are those that the pieces and the mark state, and nothing else changes
  -- from
  -- the bounds on
  marked_told : (old new : Stream) → IsStreamOf pieces id old
      → ((cpu : ℕ) → IsBoundTold (pieces ++ mark_piece id c mark ∷ []) id cpu (bound_of new cpu))
      → ((cpu count : ℕ)
      → ((end_of new cpu ≡ Some count) ↔ TellEnd (pieces ++ mark_piece id c mark ∷ []) id cpu count))
      → ((cpu n : ℕ) (r : Record) → bound_of new cpu ≤ n → (HasRecord old cpu n r ↔ HasRecord new cpu n r))
      → ((cpu n : ℕ) → bound_of new cpu ≤ n → (IsMissing old cpu n ↔ IsMissing new cpu n))
      → ((cpu n : ℕ) → (Misses new.given_up cpu n ↔ TellGivenUp (pieces ++ mark_piece id c mark ∷ []) id cpu n))
      → IsStreamOf (pieces ++ mark_piece id c mark ∷ []) id new
  marked_told old new was bounds ends records missing given_up = record {
    bounds = bounds;
    ends = ends;
    records = λ cpu n r.
        let e = was.records cpu n r in
        let b = bounds cpu in (
          λ h. number_still (λ q. IsPairOf q cpu n r) cpu n (bound_of new cpu) b h.from
              (e.0 ((records cpu n r h.from).1 h)),
          λ t. let from = from_bound (pieces ++ mark_piece id c mark ∷ []) id cpu (bound_of new cpu) n b t.kept in
              (records cpu n r from).0 (e.1 (number_was (λ q. IsPairOf q cpu n r) cpu n t)),
        );
    missing = λ cpu n.
        let e = was.missing cpu n in
        let b = bounds cpu in (
          λ h. number_still (λ q. IsMissingOf q cpu n) cpu n (bound_of new cpu) b h.from
              (e.0 ((missing cpu n h.from).1 h)),
          λ t. let from = from_bound (pieces ++ mark_piece id c mark ∷ []) id cpu (bound_of new cpu) n b t.kept in
              (missing cpu n from).0 (e.1 (number_was (λ q. IsMissingOf q cpu n) cpu n t)),
        );
    given_up = given_up;
  }

  bounds_stay : (old new : Stream) → IsStreamOf pieces id old → ((b : ℕ) → mark ≡ Forgotten b → ⊥)
      → ((cpu : ℕ) → bound_of new cpu ≡ bound_of old cpu)
      → (cpu : ℕ) → IsBoundTold (pieces ++ mark_piece id c mark ∷ []) id cpu (bound_of new cpu)
  bounds_stay old new was other same cpu =
      let b = was.bounds cpu in
      subst (λ (bound : ℕ). IsBoundTold (pieces ++ mark_piece id c mark ∷ []) id cpu bound) (sym (same cpu)) record {
        highest = λ o told. ⊎_elim
            (λ (front : TellForgotten pieces id cpu o). b.highest o front)
            (λ (here : (c ≡ cpu) × (mark ≡ Forgotten o)). absurd (other o here.1))
            (last_or_before cpu (Forgotten o) told);
        told = ⊎_elim (λ (none : bound_of old cpu ≡ 0). inl none)
            (λ (told : TellForgotten pieces id cpu (bound_of old cpu)). inr
            (still cpu (Forgotten (bound_of old cpu)) told))
            b.told;
      }

  ends_stay : (old new : Stream) → IsStreamOf pieces id old → ((count : ℕ) → mark ≡ End count → ⊥)
      → ((cpu : ℕ) → end_of new cpu ≡ end_of old cpu)
      → (cpu count : ℕ) → ((end_of new cpu ≡ Some count) ↔ TellEnd (pieces ++ mark_piece id c mark ∷ []) id cpu count)
  ends_stay old new was other same cpu count = let e = was.ends cpu count in (
    λ is. still cpu (End count) (e.0 (sym (same cpu) ∙ is)),
    λ told. ⊎_elim
        (λ (front : TellEnd pieces id cpu count). same cpu ∙ e.1 front)
        (λ (here : (c ≡ cpu) × (mark ≡ End count)). absurd (other count here.1))
        (last_or_before cpu (End count) told),
  )

  given_stay : (old new : Stream) → IsStreamOf pieces id old
      → ((first end : ℕ) → mark ≡ Undelivered first end → ⊥)
      → new.given_up ≡ old.given_up
      → (cpu n : ℕ) → (Misses new.given_up cpu n ↔ TellGivenUp (pieces ++ mark_piece id c mark ∷ []) id cpu n)
  given_stay old new was other same cpu n = let e = was.given_up cpu n in (
    λ m. given_still cpu n (e.0 (subst (λ (ps : List Parcel). Misses ps cpu n) same m)),
    λ t. ⊎_elim
        (λ (front : IsPieceOf pieces (mark_piece id cpu (Undelivered t.first t.end))).
        subst (λ (ps : List Parcel). Misses ps cpu n) (sym same) (e.1 record
        { first = t.first; end = t.end; told = front; from = t.from; below = t.below }))
        (λ (here : (c ≡ cpu) × (mark ≡ Undelivered t.first t.end)). absurd (other t.first t.end here.1))
        (last_or_before cpu (Undelivered t.first t.end) t.told),
  )

-- ---- an end

pub end_told : (pieces : List Packed) (id c count : ℕ) (old new : Stream) → IsStreamOf pieces id old
    → end_of old c ≡ None → HasEnd old new c count
    → IsStreamOf (pieces ++ mark_piece id c (End count) ∷ []) id new
end_told pieces id c count old new was none ended =
    marked_told pieces id c (End count) old new was
    (bounds_stay pieces id c (End count) old new was (λ b e. cc) bound_same)
    ends
    (λ cpu n r from. (
      λ h. record { from = from; has = subst (λ (ps : List Parcel). Has ps cpu n r) (sym ended.parcels) h.has },
      λ h. record {
        from = subst (λ (k : ℕ). k ≤ n) (bound_same cpu) from;
        has = subst (λ (ps : List Parcel). Has ps cpu n r) ended.parcels h.has;
      },
    ))
    (λ cpu n from. (
      λ h. record { from = from; misses = subst (λ (ps : List Parcel). Misses ps cpu n) (sym ended.parcels) h.misses },
      λ h. record {
        from = subst (λ (k : ℕ). k ≤ n) (bound_same cpu) from;
        misses = subst (λ (ps : List Parcel). Misses ps cpu n) ended.parcels h.misses;
      },
    ))
    (given_stay pieces id c (End count) old new was (λ first end e. cc) ended.given_up)
  where
    bound_same : (cpu : ℕ) → bound_of new cpu ≡ bound_of old cpu
    bound_same cpu = ⊎_elim
        (λ (e : cpu ≡ c). ap (λ (k : ℕ). bound_of new k) e ∙ ap (λ (m : Marks). m.bound) ended.marks
        ∙ ap (λ (k : ℕ). bound_of old k) (sym e))
        (λ (apart : cpu ≡ c → ⊥). ap (λ (m : Marks). m.bound) (ended.others cpu apart))
        (cases_eq cpu c)

    end_here : end_of new c ≡ Some count
    end_here = ap (λ (m : Marks). m.end) ended.marks

    ends : (cpu n : ℕ)
        → ((end_of new cpu ≡ Some n) ↔ TellEnd (pieces ++ mark_piece id c (End count) ∷ []) id cpu n)
    ends cpu n = (
      λ is. ⊎_elim
          (λ (e : cpu ≡ c).
          let same : count ≡ n = some_is count n (sym end_here ∙ ap (λ (k : ℕ). end_of new k) (sym e) ∙ is) in
          subst (λ (k : ℕ). IsPieceOf (pieces ++ mark_piece id c (End count) ∷ []) (mark_piece id k (End n))) (sym e)
          (subst (λ (k : ℕ). IsPieceOf (pieces ++ mark_piece id c (End count) ∷ []) (mark_piece id c (End k))) same
          (told_last pieces (mark_piece id c (End count)))))
          (λ (apart : cpu ≡ c → ⊥). still pieces id c (End count) cpu (End n)
          ((was.ends cpu n).0 (sym (ap (λ (m : Marks). m.end) (ended.others cpu apart)) ∙ is)))
          (cases_eq cpu c),
      λ told. ⊎_elim
          (λ (front : TellEnd pieces id cpu n).
          let had = (was.ends cpu n).1 front in
          ⊎_elim
          (λ (e : cpu ≡ c). absurd (none-some n (sym none ∙ ap (λ (k : ℕ). end_of old k) (sym e) ∙ had)))
          (λ (apart : cpu ≡ c → ⊥). ap (λ (m : Marks). m.end) (ended.others cpu apart) ∙ had)
          (cases_eq cpu c))
          (λ (here : (c ≡ cpu) × (End count ≡ End n)).
          let same : count ≡ n = let e = here.1 in cc in
          ap (λ (k : ℕ). end_of new k) (sym here.0) ∙ end_here ∙ ap (λ (k : ℕ). Some k) same)
          (last_or_before pieces id c (End count) cpu (End n) told),
    )

-- ---- a bound

-- a higher one
pub bound_told : (pieces : List Packed) (id c bound : ℕ) (old new : Stream) → IsStreamOf pieces id old
    → bound_of old c < bound → HasBound old new c bound → new.given_up ≡ old.given_up
    → IsStreamOf (pieces ++ mark_piece id c (Forgotten bound) ∷ []) id new
bound_told pieces id c bound old new was higher raised given =
    marked_told pieces id c (Forgotten bound) old new was bounds
    (ends_stay pieces id c (Forgotten bound) old new was (λ count e. cc) end_same)
    (λ cpu n r from. records_stay old new (one_raised old new c bound up raised) cpu n r from)
    (λ cpu n from. missing_stay old new (one_raised old new c bound up raised) cpu n from)
    (given_stay pieces id c (Forgotten bound) old new was (λ first end e. cc) given)
  where
    up : bound_of old c ≤ bound
    up = omega arith

    end_same : (cpu : ℕ) → end_of new cpu ≡ end_of old cpu
    end_same cpu = ⊎_elim
        (λ (e : cpu ≡ c). ap (λ (k : ℕ). end_of new k) e ∙ ap (λ (m : Marks). m.end) raised.marks
        ∙ ap (λ (k : ℕ). end_of old k) (sym e))
        (λ (apart : cpu ≡ c → ⊥). ap (λ (m : Marks). m.end) (raised.others cpu apart))
        (cases_eq cpu c)

    here : bound_of new c ≡ bound
    here = ap (λ (m : Marks). m.bound) raised.marks

    bounds : (cpu : ℕ) → IsBoundTold (pieces ++ mark_piece id c (Forgotten bound) ∷ []) id cpu (bound_of new cpu)
    bounds cpu = ⊎_elim
        (λ (e : cpu ≡ c).
        subst (λ (k : ℕ). IsBoundTold (pieces ++ mark_piece id c (Forgotten bound) ∷ []) id k (bound_of new k)) (sym e)
        (subst (λ (b : ℕ). IsBoundTold (pieces ++ mark_piece id c (Forgotten bound) ∷ []) id c b) (sym here) record {
          highest = λ o told. ⊎_elim
              (λ (front : TellForgotten pieces id c o).
              let low = (was.bounds c).highest o front in let le : o ≤ bound = omega arith in le)
              (λ (last : (c ≡ c) × (Forgotten bound ≡ Forgotten o)).
              let same : bound ≡ o = let e = last.1 in cc in let le : o ≤ bound = omega arith in le)
              (last_or_before pieces id c (Forgotten bound) c (Forgotten o) told);
          told = inr (told_last pieces (mark_piece id c (Forgotten bound)));
        }))
        (λ (apart : cpu ≡ c → ⊥).
        let b = was.bounds cpu in
        subst (λ (x : ℕ). IsBoundTold (pieces ++ mark_piece id c (Forgotten bound) ∷ []) id cpu x)
        (sym (ap (λ (m : Marks). m.bound) (raised.others cpu apart))) record {
          highest = λ o told. ⊎_elim
              (λ (front : TellForgotten pieces id cpu o). b.highest o front)
              (λ (last : (c ≡ cpu) × (Forgotten bound ≡ Forgotten o)). absurd (apart (sym last.0)))
              (last_or_before pieces id c (Forgotten bound) cpu (Forgotten o) told);
          told = ⊎_elim (λ (none : bound_of old cpu ≡ 0). inl none)
              (λ (told : TellForgotten pieces id cpu (bound_of old cpu)). inr
              (still pieces id c (Forgotten bound) cpu (Forgotten (bound_of old cpu)) told))
              b.told;
        })
        (cases_eq cpu c)

-- one that isn't higher
pub low_bound_told : (pieces : List Packed) (id c bound : ℕ) (s : Stream) → IsStreamOf pieces id s
    → bound ≤ bound_of s c → IsStreamOf (pieces ++ mark_piece id c (Forgotten bound) ∷ []) id s
low_bound_told pieces id c bound s was low =
    marked_told pieces id c (Forgotten bound) s s was
    (λ cpu. let b = was.bounds cpu in record {
      highest = λ o told. ⊎_elim
          (λ (front : TellForgotten pieces id cpu o). b.highest o front)
          (λ (last : (c ≡ cpu) × (Forgotten bound ≡ Forgotten o)).
          let same : bound ≡ o = let e = last.1 in cc in
          subst (λ (k : ℕ). o ≤ bound_of s k) last.0 (subst (λ (k : ℕ). k ≤ bound_of s c) same low))
          (last_or_before pieces id c (Forgotten bound) cpu (Forgotten o) told);
      told = ⊎_elim (λ (none : bound_of s cpu ≡ 0). inl none)
          (λ (told : TellForgotten pieces id cpu (bound_of s cpu)). inr
          (still pieces id c (Forgotten bound) cpu (Forgotten (bound_of s cpu)) told))
          b.told;
    })
    (ends_stay pieces id c (Forgotten bound) s s was (λ count e. cc) (λ cpu. refl))
    (λ cpu n r from. (λ h. h, λ h. h))
    (λ cpu n from. (λ h. h, λ h. h))
    (given_stay pieces id c (Forgotten bound) s s was (λ first end e. cc) refl)

-- ---- numbers that were given up

pub run_told : (pieces : List Packed) (id c first end : ℕ) (old new : Stream) → IsStreamOf pieces id old
    → new.parcels ≡ old.parcels → new.marks ≡ old.marks
    → GivesUp old.given_up new.given_up c first end
    → IsStreamOf (pieces ++ mark_piece id c (Undelivered first end) ∷ []) id new
run_told pieces id c first end old new was parcels marks gives =
    marked_told pieces id c (Undelivered first end) old new was
    (bounds_stay pieces id c (Undelivered first end) old new was (λ b e. cc) bound_same)
    (ends_stay pieces id c (Undelivered first end) old new was (λ count e. cc) end_same)
    (λ cpu n r from. (
      λ h. record { from = from; has = subst (λ (ps : List Parcel). Has ps cpu n r) (sym parcels) h.has },
      λ h. record {
        from = subst (λ (k : ℕ). k ≤ n) (bound_same cpu) from;
        has = subst (λ (ps : List Parcel). Has ps cpu n r) parcels h.has;
      },
    ))
    (λ cpu n from. (
      λ h. record { from = from; misses = subst (λ (ps : List Parcel). Misses ps cpu n) (sym parcels) h.misses },
      λ h. record {
        from = subst (λ (k : ℕ). k ≤ n) (bound_same cpu) from;
        misses = subst (λ (ps : List Parcel). Misses ps cpu n) parcels h.misses;
      },
    ))
    given
  where
    bound_same : (cpu : ℕ) → bound_of new cpu ≡ bound_of old cpu
    bound_same cpu = ap (λ (ms : List (ℕ × Marks)). bound_of record
        { parcels = old.parcels; marks = ms; given_up = old.given_up } cpu) marks

    end_same : (cpu : ℕ) → end_of new cpu ≡ end_of old cpu
    end_same cpu = ap (λ (ms : List (ℕ × Marks)). end_of record
        { parcels = old.parcels; marks = ms; given_up = old.given_up } cpu) marks

    given : (cpu n : ℕ) → (Misses new.given_up cpu n ↔ TellGivenUp
        (pieces ++ mark_piece id c (Undelivered first end) ∷ []) id cpu n)
    given cpu n =
        let e = was.given_up cpu n in
        let g = gives cpu n in (
          λ m. ⊎_elim
              (λ (before : Misses old.given_up cpu n).
              given_still pieces id c (Undelivered first end) cpu n (e.0 before))
              (λ (run : IsInRun c first end cpu n).
              record {
                first = first;
                end = end;
                told = subst (λ (k : ℕ). IsPieceOf (pieces ++ mark_piece id c (Undelivered first end) ∷ [])
                    (mark_piece id k (Undelivered first end))) (sym run.cpu_is)
                    (told_last pieces (mark_piece id c (Undelivered first end)));
                from = run.from;
                below = run.below;
              })
              (g.0 m),
          λ t. ⊎_elim
              (λ (front : IsPieceOf pieces (mark_piece id cpu (Undelivered t.first t.end))). g.1 (inl (e.1 record
              { first = t.first; end = t.end; told = front; from = t.from; below = t.below })))
              (λ (last : (c ≡ cpu) × (Undelivered first end ≡ Undelivered t.first t.end)).
              let e = last.1 in
              let one : t.first ≡ first = cc in
              let other : t.end ≡ end = cc in
              g.1 (inr record {
                cpu_is = sym last.0;
                from = subst (λ (k : ℕ). k ≤ n) one t.from;
                below = subst (λ (k : ℕ). n < k) other t.below;
              }))
              (last_or_before pieces id c (Undelivered first end) cpu (Undelivered t.first t.end) t.told),
        )

-- those that were given up already
pub run_known : (given_up : List Parcel) (c first end : ℕ) → AllGivenUp given_up c first end
    → GivesUp given_up given_up c first end
run_known given_up c first end all cpu n = (
  λ m. inl m,
  λ either. ⊎_elim
      (λ (m : Misses given_up cpu n). m)
      (λ (run : IsInRun c first end cpu n).
      subst (λ (k : ℕ). Misses given_up k n) (sym run.cpu_is) (all n run.from run.below))
      either,
)

-- ---- pieces that say nothing new of a stream

-- one that is there already
pub again_same : (pieces : List Packed) (piece : Packed) (id : ℕ) → IsPieceOf pieces piece
    → TellSame pieces (pieces ++ piece ∷ []) id
again_same pieces piece id there = record {
  parcels = λ p time contents. (
    told_before pieces piece (parcel_piece id p time contents),
    λ told. ⊎_elim
        (λ (front : IsPieceOf pieces (parcel_piece id p time contents)). front)
        (λ (e : piece ≡ parcel_piece id p time contents). subst (λ (x : Packed). IsPieceOf pieces x) e there)
        (told_either pieces piece (parcel_piece id p time contents) told),
  );
  marks = λ cpu mark. (
    told_before pieces piece (mark_piece id cpu mark),
    λ told. ⊎_elim
        (λ (front : IsPieceOf pieces (mark_piece id cpu mark)). front)
        (λ (e : piece ≡ mark_piece id cpu mark). subst (λ (x : Packed). IsPieceOf pieces x) e there)
        (told_either pieces piece (mark_piece id cpu mark) told),
  );
}

-- one of another stream
pub apart_same : (pieces : List Packed) (piece : Packed) (id : ℕ) → (id ≡ stream_of piece → ⊥)
    → TellSame pieces (pieces ++ piece ∷ []) id
apart_same pieces piece id apart = record {
  parcels = λ p time contents. (
    told_before pieces piece (parcel_piece id p time contents),
    λ told. ⊎_elim
        (λ (front : IsPieceOf pieces (parcel_piece id p time contents)). front)
        (λ (e : piece ≡ parcel_piece id p time contents). absurd (apart (sym (ap stream_of e))))
        (told_either pieces piece (parcel_piece id p time contents) told),
  );
  marks = λ cpu mark. (
    told_before pieces piece (mark_piece id cpu mark),
    λ told. ⊎_elim
        (λ (front : IsPieceOf pieces (mark_piece id cpu mark)). front)
        (λ (e : piece ≡ mark_piece id cpu mark). absurd (apart (sym (ap stream_of e))))
        (told_either pieces piece (mark_piece id cpu mark) told),
  );
}

-- ---- the same pieces
pub pieces_same : (pieces others : List Packed) (id : ℕ) → HaveSamePieces pieces others → TellSame pieces others id
pieces_same pieces others id same =
    record {
      parcels = λ p time contents. same (parcel_piece id p time contents);
      marks = λ cpu mark. same
          (mark_piece id cpu mark);
    }

pub fleet_same : (pieces others : List Packed) (fleet : List (ℕ × Stream)) → HaveSamePieces pieces others
    → IsFleetOf pieces fleet → IsFleetOf others fleet
fleet_same pieces others fleet same was = record {
  streams = λ id. stream_same pieces others id (stream_at fleet id) (pieces_same pieces others id same)
      (was.streams id);
}

pub told_in_either : (pieces others : List Packed) (piece : Packed)
    → (IsPieceOf (pieces ++ others) piece ↔ (IsPieceOf pieces piece ⊎ IsPieceOf others piece))
told_in_either pieces others piece = (
  λ s. get_in_either pieces others s.0 piece s.1,
  λ either. ⊎_elim
      (λ (front : IsPieceOf pieces piece). (front.0, get_in_front pieces others front.0 piece front.1))
      (λ (back : IsPieceOf others piece). (length pieces + back.0, get_behind pieces others back.0 ∙ back.1))
      either,
)

pub swapped_same : (pieces others : List Packed) → HaveSamePieces (pieces ++ others) (others ++ pieces)
swapped_same pieces others piece = (
  λ s. (told_in_either others pieces piece).1 (⊎_elim (λ (front : IsPieceOf pieces piece). inr front)
      (λ (back : IsPieceOf others piece). inl back)
      ((told_in_either pieces others piece).0 s)),
  λ s. (told_in_either pieces others piece).1 (⊎_elim (λ (front : IsPieceOf others piece). inr front)
      (λ (back : IsPieceOf pieces piece). inl back)
      ((told_in_either others pieces piece).0 s)),
)

pub repeated_same : (pieces : List Packed) → HaveSamePieces (pieces ++ pieces) pieces
repeated_same pieces piece = (
  λ s. ⊎_elim (λ (front : IsPieceOf pieces piece). front) (λ (back : IsPieceOf pieces piece). back)
      ((told_in_either pieces pieces piece).0 s),
  λ s. (told_in_either pieces pieces piece).1 (inl s),
)

contains_it : (pieces : List Packed) (piece : Packed) → IsPieceOf pieces piece → Contains pieces piece
contains_it pieces piece s =
    (s.0, slice_get_within pieces s.0 piece s.1, get_or_from_slice_get pieces s.0 piece piece s.1)

is_there : (pieces : List Packed) (piece : Packed) → Contains pieces piece → IsPieceOf pieces piece
is_there pieces piece (k, within, is) =
    (k, subst (λ (p : Packed). slice_get pieces k ≡ Some p) is (slice_get-get_or pieces k piece within))

pub moved_same : (pieces others : List Packed) → IsPermutation pieces others → HaveSamePieces pieces others
moved_same pieces others moved piece = (
  λ s. is_there others piece (Contains-permutation pieces others piece moved (contains_it pieces piece s)),
  λ s. is_there pieces piece (Contains-permutation others pieces piece (IsPermutation-sym pieces others moved)
      (contains_it others piece s)),
)

-- no pieces state nothing
pub told_by_none : (id : ℕ) → IsStreamOf [] id (stream_at [] id)
told_by_none id = record {
  bounds = λ cpu. record {
    highest = λ other told. absurd (none_told (mark_piece id cpu (Forgotten other)) told);
    told = inl refl;
  };
  ends = λ cpu count. (
    λ is. absurd (none-some count is),
    λ told. absurd (none_told (mark_piece id cpu (End count)) told),
  );
  records = λ cpu n r. (
    λ h. let has = h.has in absurd (none-some has.parcel has.at),
    λ t. let p = t.told in absurd (none_told (parcel_piece id t.parcel p.time p.contents) p.told),
  );
  missing = λ cpu n. (
    λ h. let m = h.misses in absurd (none-some m.parcel m.at),
    λ t. let p = t.told in absurd (none_told (parcel_piece id t.parcel p.time p.contents) p.told),
  );
  given_up = λ cpu n. (
    λ m. absurd (none-some m.parcel m.at),
    λ t. absurd (none_told (mark_piece id cpu (Undelivered t.first t.end)) t.told),
  );
}
  where
    none_told : (piece : Packed) → IsPieceOf [] piece → ⊥
    none_told piece s = none-some piece s.1

-- ---- the listing

pub listing_told : (pieces : List Packed) (fleet : List (ℕ × Stream)) (lines : List Line) → IsFleetOf pieces fleet
    → IsFleetListing fleet lines → IsListingOf pieces lines
listing_told pieces fleet lines was is = record {
  ordered = is.ordered;
  of_them = λ k line at. ((was.streams line.stream).records line.cpu line.number record
      { moment = line.moment; bytes = line.bytes }).0
      (is.of_them k line at);
  whole = λ stream cpu number r told. is.whole stream cpu number r (((was.streams stream).records cpu number r).1 told);
}

pub turned : (pieces others : List Packed) → HaveSamePieces pieces others → HaveSamePieces others pieces
turned pieces others same piece = let s = same piece in (s.1, s.0)
