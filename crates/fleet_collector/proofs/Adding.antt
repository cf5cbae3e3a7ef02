-- A fleet of pieces, once a piece is added, is that of these and of this one.
use Rattle.std.proofs.Common.{◌≡◌, ◌↔◌, ◌⊎◌, inl, inr, ⊎_elim, ℕ, ◌+◌, ◌≤◌, List, [], ◌∷◌, ◌++◌, length, Some}
use Rattle.std.proofs.Common.{Ok, Err, refl, sym, ap, subst, arith}
use Rattle.std.specs.List.{slice_get}
use Rattle.std.proofs.lemmas.Bool.{cases_eq}
use Rattle.std.proofs.lemmas.Option.{slice_get_within}
use Rattle.trace_model.specs.Record.{Record}
use Rattle.trace_model.specs.Parcel.{Parcel, IsPairOf, IsMissingOf}
use Rattle.trace_model.specs.Collection.{Has, Misses, IsBelow}
use Rattle.trace_model.proofs.collections.Elements.{get_in_front, get_behind, get_in_either}
use Rattle.page_numbers.specs.Parcels.{as_parcel}
use Rattle.parcel_streams.specs.Pieces.{Packed, parcel_piece, mark_piece}
use Rattle.parcel_streams.specs.Answers.{piece_seen}
use Rattle.parcel_streams.specs.declared.piece.Mark.{Mark}
use Rattle.parcel_streams.specs.declared.piece.Mark.TheVariants.{End, Forgotten, Undelivered}
use Rattle.parcel_streams.specs.declared.piece.Piece.{Piece}
use Rattle.parcel_streams.specs.declared.piece.Piece.TheVariants.{Parcel as ParcelPiece, Mark as MarkPiece}
use Rattle.stream_collector.specs.Stream.{Stream, bound_of}
use Rattle.stream_collector.specs.Faults.{IsForgotten}
use Rattle.stream_collector.specs.declared.added.Added.{Added}
use Rattle.stream_collector.specs.declared.added.Added.TheVariants.{New, Known, Forgotten as IsNotKept}
use Rattle.stream_collector.specs.declared.added.Marked.TheVariants.{New as NewMark, Known as KnownMark}
use Rattle.stream_collector.specs.declared.fault.MarkFault.{MarkFault}
use Rattle.fleet_collector.specs.Changes.{IsChangedBy, change_of}
use Rattle.fleet_collector.specs.Fleet.{stream_at, or_empty, KeepsOthers}
use Rattle.fleet_collector.specs.Pieces.{AddsPiece, AddsMark, AddsParcel, IsMarked, HasMark, IsMarkRefusal}
use Rattle.fleet_collector.specs.Told.{stream_of, IsStreamOf, IsFleetOf}
use Rattle.fleet_collector.proofs.Telling.{only, stream_same, apart_same, again_same, parcel_told, end_told}
use Rattle.fleet_collector.proofs.Telling.{bound_told, low_bound_told, run_told, run_known}

-- the stream of the piece has what the pieces state, and the others stay
fleet_told : (pieces : List Packed) (piece : Packed) (old new : List (ℕ × Stream))
    → KeepsOthers old new (stream_of piece)
    → IsFleetOf pieces old
    → IsStreamOf (pieces ++ piece ∷ []) (stream_of piece) (stream_at new (stream_of piece))
    → IsFleetOf (pieces ++ piece ∷ []) new
fleet_told pieces piece old new others was here = record {
  streams = λ id. ⊎_elim
      (λ (e : id ≡ stream_of piece).
      subst (λ (k : ℕ). IsStreamOf (pieces ++ piece ∷ []) k (stream_at new k)) (sym e) here)
      (λ (apart : id ≡ stream_of piece → ⊥).
      subst (λ (s : Stream). IsStreamOf (pieces ++ piece ∷ []) id s) (sym (ap or_empty (others id apart)))
      (stream_same pieces (pieces ++ piece ∷ []) id (stream_at old id) (apart_same pieces piece id apart)
      (was.streams id)))
      (cases_eq id (stream_of piece));
}

-- all stays
fleet_stays : (pieces : List Packed) (piece : Packed) (old new : List (ℕ × Stream)) → new ≡ old
    → IsFleetOf pieces old
    → IsStreamOf (pieces ++ piece ∷ []) (stream_of piece) (stream_at old (stream_of piece))
    → IsFleetOf (pieces ++ piece ∷ []) new
fleet_stays pieces piece old new same was here =
    subst (λ (f : List (ℕ × Stream)). IsFleetOf (pieces ++ piece ∷ []) f) (sym same)
    (fleet_told pieces piece old old (λ other apart. refl) was here)

-- ---- a parcel

has_more : (ps : List Parcel) (p : Parcel) (cpu n : ℕ) (r : Record)
    → (Has (ps ++ p ∷ []) cpu n r ↔ (Has ps cpu n r ⊎ IsPairOf p cpu n r))
has_more ps p cpu n r = (
  λ h. ⊎_elim
      (λ (front : (k : ℕ) × (slice_get ps k ≡ Some h.parcel)). inl record
      { index = front.0; parcel = h.parcel; at = front.1; pair = h.pair })
      (λ (back : (k : ℕ) × (slice_get (p ∷ []) k ≡ Some h.parcel)). inr
      (subst (λ (q : Parcel). IsPairOf q cpu n r) (sym (only p back.0 h.parcel back.1)) h.pair))
      (get_in_either ps (p ∷ []) h.index h.parcel h.at),
  λ either. ⊎_elim
      (λ (h : Has ps cpu n r). record
      { index = h.index; parcel = h.parcel; at = get_in_front ps (p ∷ []) h.index h.parcel h.at; pair = h.pair })
      (λ (pair : IsPairOf p cpu n r). record
      { index = length ps + 0; parcel = p; at = get_behind ps (p ∷ []) 0; pair = pair })
      either,
)

misses_more : (ps : List Parcel) (p : Parcel) (cpu n : ℕ)
    → (Misses (ps ++ p ∷ []) cpu n ↔ (Misses ps cpu n ⊎ IsMissingOf p cpu n))
misses_more ps p cpu n = (
  λ m. ⊎_elim
      (λ (front : (k : ℕ) × (slice_get ps k ≡ Some m.parcel)). inl record
      { index = front.0; parcel = m.parcel; at = front.1; missing = m.missing })
      (λ (back : (k : ℕ) × (slice_get (p ∷ []) k ≡ Some m.parcel)). inr
      (subst (λ (q : Parcel). IsMissingOf q cpu n) (sym (only p back.0 m.parcel back.1)) m.missing))
      (get_in_either ps (p ∷ []) m.index m.parcel m.at),
  λ either. ⊎_elim
      (λ (m : Misses ps cpu n). record
      { index = m.index; parcel = m.parcel; at = get_in_front ps (p ∷ []) m.index m.parcel m.at; missing = m.missing })
      (λ (it : IsMissingOf p cpu n). record
      { index = length ps + 0; parcel = p; at = get_behind ps (p ∷ []) 0; missing = it })
      either,
)

-- what a parcel says is there already
has_there : (ps : List Parcel) (p : Parcel) (cpu n : ℕ) (r : Record) → IsBelow (p ∷ []) ps
    → (Has ps cpu n r ↔ (Has ps cpu n r ⊎ IsPairOf p cpu n r))
has_there ps p cpu n r below = (
  λ h. inl h,
  λ either. ⊎_elim
      (λ (h : Has ps cpu n r). h)
      (λ (pair : IsPairOf p cpu n r). below.has cpu n r record { index = 0; parcel = p; at = refl; pair = pair })
      either,
)

misses_there : (ps : List Parcel) (p : Parcel) (cpu n : ℕ) → IsBelow (p ∷ []) ps
    → (Misses ps cpu n ↔ (Misses ps cpu n ⊎ IsMissingOf p cpu n))
misses_there ps p cpu n below = (
  λ m. inl m,
  λ either. ⊎_elim
      (λ (m : Misses ps cpu n). m)
      (λ (it : IsMissingOf p cpu n). below.misses cpu n record { index = 0; parcel = p; at = refl; missing = it })
      either,
)

-- it says nothing from the bound on
module _ (s : Stream) (p : Parcel) (forgotten : IsForgotten s p) (cpu n : ℕ) (from : bound_of s cpu ≤ n) where
  no_pair : (r : Record) → IsPairOf p cpu n r → ⊥
  no_pair r pair =
      let within = slice_get_within p.records pair.index r pair.record_is in
      let number = pair.number_is in
      let ended = forgotten.ended in
      let low : bound_of s p.cpu ≤ n = subst (λ (k : ℕ). bound_of s k ≤ n) pair.cpu_is from in
      absurd (omega arith)

  not_missing : IsMissingOf p cpu n → ⊥
  not_missing it =
      let below = it.high in
      let ended = forgotten.ended in
      let low : bound_of s p.cpu ≤ n = subst (λ (k : ℕ). bound_of s k ≤ n) it.cpu_is from in
      absurd (omega arith)

  has_below : (r : Record) → (Has s.parcels cpu n r ↔ (Has s.parcels cpu n r ⊎ IsPairOf p cpu n r))
  has_below r = (
    λ h. inl h,
    λ either. ⊎_elim
        (λ (h : Has s.parcels cpu n r). h)
        (λ (pair : IsPairOf p cpu n r). absurd (no_pair r pair))
        either,
  )

  misses_below : (Misses s.parcels cpu n ↔ (Misses s.parcels cpu n ⊎ IsMissingOf p cpu n))
  misses_below = (
    λ m. inl m,
    λ either. ⊎_elim
        (λ (m : Misses s.parcels cpu n). m)
        (λ (it : IsMissingOf p cpu n). absurd (not_missing it))
        either,
  )

parcel_added : (pieces : List Packed) (old new : List (ℕ × Stream)) (stream : ℕ) (p : Parcel) (time : ℕ)
    (contents : List ℕ) (added : Added)
    → AddsParcel old new stream p added → IsFleetOf pieces old
    → IsFleetOf (pieces ++ parcel_piece stream p time contents ∷ []) new
parcel_added pieces old new stream p time contents New a was =
    let kept : stream_at new stream ≡ record (stream_at old stream)
    { parcels = (stream_at old stream).parcels ++ p ∷ [] } = ap or_empty a.kept in
    fleet_told pieces (parcel_piece stream p time contents) old new a.others was
    (subst (λ (s : Stream). IsStreamOf (pieces ++ parcel_piece stream p time contents ∷ []) stream s) (sym kept)
    (parcel_told pieces stream p time contents (stream_at old stream)
    record (stream_at old stream) { parcels = (stream_at old stream).parcels ++ p ∷ [] } (was.streams stream) refl refl
    (λ cpu n r from. has_more (stream_at old stream).parcels p cpu n r)
    (λ cpu n from. misses_more (stream_at old stream).parcels p cpu n)))
parcel_added pieces old new stream p time contents Known a was =
    fleet_stays pieces (parcel_piece stream p time contents) old new a.unchanged was
    (parcel_told pieces stream p time contents (stream_at old stream) (stream_at old stream) (was.streams stream) refl
    refl
    (λ cpu n r from. has_there (stream_at old stream).parcels p cpu n r a.there)
    (λ cpu n from. misses_there (stream_at old stream).parcels p cpu n a.there))
parcel_added pieces old new stream p time contents IsNotKept a was =
    fleet_stays pieces (parcel_piece stream p time contents) old new a.0 was
    (parcel_told pieces stream p time contents (stream_at old stream) (stream_at old stream) (was.streams stream) refl
    refl
    (λ cpu n r from. has_below (stream_at old stream) p a.1 cpu n from r)
    (λ cpu n from. misses_below (stream_at old stream) p a.1 cpu n from))

-- ---- a mark

mark_told : (pieces : List Packed) (id cpu : ℕ) (mark : Mark) (old new : Stream) → IsMarked mark cpu old new
    → IsStreamOf pieces id old → IsStreamOf (pieces ++ mark_piece id cpu mark ∷ []) id new
mark_told pieces id cpu (End count) old new m was = end_told pieces id cpu count old new was m.first m.ended
mark_told pieces id cpu (Forgotten bound) old new m was =
    bound_told pieces id cpu bound old new was m.higher m.raised m.given_up
mark_told pieces id cpu (Undelivered first end) old new m was =
    run_told pieces id cpu first end old new was m.parcels m.marks m.given_up

mark_known : (pieces : List Packed) (id cpu : ℕ) (mark : Mark) (s : Stream) → HasMark s cpu mark
    → IsStreamOf pieces id s → IsStreamOf (pieces ++ mark_piece id cpu mark ∷ []) id s
mark_known pieces id cpu (End count) s m was =
    stream_same pieces (pieces ++ mark_piece id cpu (End count) ∷ []) id s
    (again_same pieces (mark_piece id cpu (End count)) id ((was.ends cpu count).0 m)) was
mark_known pieces id cpu (Forgotten bound) s m was = low_bound_told pieces id cpu bound s was m
mark_known pieces id cpu (Undelivered first end) s m was =
    run_told pieces id cpu first end s s was refl refl (run_known s.given_up cpu first end m)

mark_added : (pieces : List Packed) (old new : List (ℕ × Stream)) (stream cpu : ℕ) (mark : Mark) (added : Added)
    → AddsMark old new stream cpu mark added → IsFleetOf pieces old
    → IsFleetOf (pieces ++ mark_piece stream cpu mark ∷ []) new
mark_added pieces old new stream cpu mark New a was =
    fleet_told pieces (mark_piece stream cpu mark) old new a.others was
    (mark_told pieces stream cpu mark (stream_at old stream) (stream_at new stream) a.marked (was.streams stream))
mark_added pieces old new stream cpu mark Known a was =
    fleet_stays pieces (mark_piece stream cpu mark) old new a.0 was
    (mark_known pieces stream cpu mark (stream_at old stream) a.1 (was.streams stream))
mark_added pieces old new stream cpu mark IsNotKept a was = absurd a

-- ---- a piece

pub piece_added : (pieces : List Packed) (old new : List (ℕ × Stream)) (piece : Piece) (added : Added)
    → AddsPiece old new piece added → IsFleetOf pieces old → IsFleetOf (pieces ++ piece_seen piece ∷ []) new
piece_added pieces old new (ParcelPiece stream parcel) added a was =
    parcel_added pieces old new stream.0 (as_parcel parcel) parcel.page.time parcel.page.bytes added a was
piece_added pieces old new (MarkPiece stream cpu mark) added a was =
    mark_added pieces old new stream.0 cpu.0 mark added a was

-- ---- what the change of a mark says

pub mark_new : (mark : Mark) (cpu : ℕ) (old new : Stream) → IsChangedBy (change_of mark) cpu old new (Ok NewMark)
    → IsMarked mark cpu old new
mark_new (End count) cpu old new a =
    record { first = a.first refl; ended = a.ended refl; nothing_beyond = a.nothing_beyond refl }
mark_new (Forgotten bound) cpu old new a = record {
  higher = a.raises.higher refl;
  raised = a.raises.raised refl;
  given_up = a.given_up refl;
  within = a.raises.within;
}
mark_new (Undelivered first end) cpu old new a = record {
  not_there = a.new_exactly refl;
  given_up = a.given_up refl;
  parcels = a.parcels;
  marks = a.marks;
  within = a.within;
}

pub mark_there : (mark : Mark) (cpu : ℕ) (old new : Stream) → IsChangedBy (change_of mark) cpu old new (Ok KnownMark)
    → HasMark old cpu mark
mark_there (End count) cpu old new a = a.known.0 refl
mark_there (Forgotten bound) cpu old new a = a.raises.known.0 refl
mark_there (Undelivered first end) cpu old new a = a.known refl

pub mark_refused : (mark : Mark) (cpu : ℕ) (old new : Stream) (fault : MarkFault)
    → IsChangedBy (change_of mark) cpu old new (Err fault) → IsMarkRefusal old cpu mark fault
mark_refused (End count) cpu old new fault a = a.fault
mark_refused (Forgotten bound) cpu old new fault a = a.fault
mark_refused (Undelivered first end) cpu old new fault a = a.fault
