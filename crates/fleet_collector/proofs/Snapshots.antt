-- What is known of a stream, put piece by piece, and what the pieces state.
use Rattle.std.proofs.Common.{◌≡◌, ◌⊎◌, inl, inr, ⊎_elim, ℕ, zero, suc, ◌+◌, ◌-◌, ◌<◌, ◌≤◌, List, [], ◌∷◌, ◌++◌}
use Rattle.std.proofs.Common.{length, take, get_or, Option, Some, None, IsSome, refl, sym, ap, ◌∙◌, subst, arith}
use Rattle.std.proofs.Common.{append-nil, append_assoc}
use Rattle.std.specs.List.{slice_get, Contains}
use Rattle.std.proofs.lemmas.Bool.{cases_lt}
use Rattle.std.proofs.lemmas.List.{map-append, take_more}
use Rattle.std.proofs.lemmas.Option.{none-some, slice_get-get_or}
use Rattle.trace_model.specs.Parcel.{Parcel}
use Rattle.trace_model.specs.Collection.{Misses}
use Rattle.trace_model.proofs.collections.Elements.{some_is}
use Rattle.time_merge.proofs.Ordered.{at_mapped, mapped_at}
use Rattle.page_numbers.specs.Parcels.{ParcelValue, as_parcel, as_parcels}
use Rattle.parcel_streams.specs.Pieces.{Packed, parcel_piece, mark_piece, bytes_of_pieces}
use Rattle.parcel_streams.specs.Answers.{piece_of_parcel}
use Rattle.parcel_streams.specs.declared.piece.Mark.TheVariants.{End, Forgotten, Undelivered}
use Rattle.parcel_streams.proofs.Streams.{joined, all_joined}
use Rattle.stream_collector.specs.Marks.{AreMarkedCpus}
use Rattle.stream_collector.specs.Stream.{Stream, bound_of, end_of}
use Rattle.fleet_collector.specs.Fleet.{empty_stream}
use Rattle.fleet_collector.specs.Snapshot.{IsSnapshot, bound_pieces, end_pieces, marks_of, marks_of_all, run_pieces}
use Rattle.fleet_collector.specs.Snapshot.{runs_of_all, parcel_pieces, ArePut, PutsMarks, PutsParcels}
use Rattle.fleet_collector.specs.Told.{IsPieceOf, TellEnd, TellForgotten, TellGivenUp, TellParcel}
use Rattle.fleet_collector.specs.Told.{stream_of, IsBoundTold, IsStreamOf}
use Rattle.fleet_collector.proofs.Telling.{only, told_in_either, from_bound, none_forgets, told_by_none}

-- ---- what is put

-- pieces after pieces
pub put_more : (before middle after : List ℕ) (xs ys : List Packed) → ArePut before middle xs → ArePut middle after ys
    → ArePut before after (xs ++ ys)
put_more before middle after xs ys p q = record {
  sound = all_joined xs ys p.sound q.sound;
  bytes = q.bytes ∙ ap (λ (b : List ℕ). b ++ bytes_of_pieces ys) p.bytes
      ∙ append_assoc before (bytes_of_pieces xs) (bytes_of_pieces ys)
      ∙ ap (λ (b : List ℕ). before ++ b) (sym (joined xs ys));
}

marks_more : (id : ℕ) (s : Stream) (cpus : List ℕ) (cpu : ℕ)
    → marks_of_all id s (cpus ++ cpu ∷ []) ≡ marks_of_all id s cpus ++ marks_of id s cpu
marks_more id s [] cpu = append-nil (marks_of id s cpu)
marks_more id s (c ∷ cpus) cpu = ap (λ (xs : List Packed). marks_of id s c ++ xs) (marks_more id s cpus cpu)
    ∙ sym (append_assoc (marks_of id s c) (marks_of_all id s cpus) (marks_of id s cpu))

runs_more : (id : ℕ) (parcels : List Parcel) (p : Parcel)
    → runs_of_all id (parcels ++ p ∷ []) ≡ runs_of_all id parcels ++ run_pieces id p.cpu p.first p.missed
runs_more id [] p = append-nil (run_pieces id p.cpu p.first p.missed)
runs_more id (q ∷ parcels) p =
    ap (λ (xs : List Packed). run_pieces id q.cpu q.first q.missed ++ xs) (runs_more id parcels p)
    ∙ sym (append_assoc (run_pieces id q.cpu q.first q.missed) (runs_of_all id parcels)
    (run_pieces id p.cpu p.first p.missed))

pub marks_put : (id : ℕ) (s : Stream) (cpus : List ℕ) (cpu : ℕ) (before middle after : List ℕ)
    → ArePut before middle (marks_of_all id s cpus) → ArePut middle after (marks_of id s cpu)
    → ArePut before after (marks_of_all id s (cpus ++ cpu ∷ []))
marks_put id s cpus cpu before middle after p q = subst (ArePut before after) (sym (marks_more id s cpus cpu))
    (put_more before middle after (marks_of_all id s cpus) (marks_of id s cpu) p q)

pub runs_put : (id : ℕ) (values : List ParcelValue) (i : ℕ) (value : ParcelValue) (before middle after : List ℕ)
    → i < length values → value ≡ get_or values i value
    → ArePut before middle (runs_of_all id (as_parcels (take i values)))
    → ArePut middle after (run_pieces id value.cpu (as_parcel value).first value.missed)
    → ArePut before after (runs_of_all id (as_parcels (take (i + 1) values)))
runs_put id values i value before middle after within is p q =
    let front = take i values in
    let more : as_parcels (take (i + 1) values) ≡ as_parcels front ++ as_parcel value ∷ [] =
    ap as_parcels (take_more values i value within
    ∙ ap (λ (v : ParcelValue). front ++ v ∷ []) (sym is)) ∙ map-append as_parcel front (value ∷ []) in
    subst (ArePut before after) (sym (ap (runs_of_all id) more ∙ runs_more id (as_parcels front) (as_parcel value)))
    (put_more before middle after (runs_of_all id (as_parcels front))
    (run_pieces id value.cpu (as_parcel value).first value.missed) p q)

pub parcels_put : (id : ℕ) (values : List ParcelValue) (i : ℕ) (value : ParcelValue) (before middle after : List ℕ)
    → i < length values → value ≡ get_or values i value
    → ArePut before middle (parcel_pieces id (take i values))
    → ArePut middle after (piece_of_parcel id value ∷ [])
    → ArePut before after (parcel_pieces id (take (i + 1) values))
parcels_put id values i value before middle after within is p q =
    let front = take i values in
    let more : parcel_pieces id (take (i + 1) values) ≡ parcel_pieces id front ++ piece_of_parcel id value ∷ [] =
    ap (parcel_pieces id) (take_more values i value within
    ∙ ap (λ (v : ParcelValue). front ++ v ∷ []) (sym is)) ∙ map-append (piece_of_parcel id) front (value ∷ []) in
    subst (ArePut before after) (sym more)
    (put_more before middle after (parcel_pieces id front) (piece_of_parcel id value ∷ []) p q)

-- ---- which pieces these are

in_bound : (id cpu bound : ℕ) (piece : Packed) → IsPieceOf (bound_pieces id cpu bound) piece
    → (0 < bound) × (mark_piece id cpu (Forgotten bound) ≡ piece)
in_bound id cpu zero piece s = absurd (none-some piece s.1)
in_bound id cpu (suc below) piece s = (omega arith, only (mark_piece id cpu (Forgotten (suc below))) s.0 piece s.1)

bound_there : (id cpu bound : ℕ) → 0 < bound
    → IsPieceOf (bound_pieces id cpu bound) (mark_piece id cpu (Forgotten bound))
bound_there id cpu zero lt = absurd (omega arith)
bound_there id cpu (suc below) lt = (0, refl)

in_end : (id cpu : ℕ) (end : Option ℕ) (piece : Packed) → IsPieceOf (end_pieces id cpu end) piece
    → (count : ℕ) × (end ≡ Some count) × (mark_piece id cpu (End count) ≡ piece)
in_end id cpu None piece s = absurd (none-some piece s.1)
in_end id cpu (Some count) piece s = (count, refl, only (mark_piece id cpu (End count)) s.0 piece s.1)

end_there : (id cpu : ℕ) (end : Option ℕ) (count : ℕ) → end ≡ Some count
    → IsPieceOf (end_pieces id cpu end) (mark_piece id cpu (End count))
end_there id cpu None count e = absurd (none-some count e)
end_there id cpu (Some c) count e =
    (0, ap (λ (n : ℕ). Some (mark_piece id cpu (End n))) (some_is c count e))

-- what a mark of a stream says
data SaysMark (id : ℕ) (s : Stream) (cpu : ℕ) (piece : Packed) : Type 0 where
  says_bound : 0 < bound_of s cpu → mark_piece id cpu (Forgotten (bound_of s cpu)) ≡ piece → SaysMark id s cpu piece
  says_end : (count : ℕ) → end_of s cpu ≡ Some count → mark_piece id cpu (End count) ≡ piece → SaysMark id s cpu piece

in_marks : (id : ℕ) (s : Stream) (cpus : List ℕ) (piece : Packed) → IsPieceOf (marks_of_all id s cpus) piece
    → (cpu : ℕ) × SaysMark id s cpu piece
in_marks id s [] piece t = absurd (none-some piece t.1)
in_marks id s (cpu ∷ cpus) piece t = ⊎_elim
    (λ (own : IsPieceOf (marks_of id s cpu) piece). ⊎_elim
    (λ (b : IsPieceOf (bound_pieces id cpu (bound_of s cpu)) piece).
    let is = in_bound id cpu (bound_of s cpu) piece b in (cpu, says_bound is.0 is.1))
    (λ (e : IsPieceOf (end_pieces id cpu (end_of s cpu)) piece).
    let is = in_end id cpu (end_of s cpu) piece e in (cpu, says_end is.0 is.1 is.2))
    ((told_in_either (bound_pieces id cpu (bound_of s cpu)) (end_pieces id cpu (end_of s cpu)) piece).0 own))
    (λ (rest : IsPieceOf (marks_of_all id s cpus) piece). in_marks id s cpus piece rest)
    ((told_in_either (marks_of id s cpu) (marks_of_all id s cpus) piece).0 t)

marks_there : (id : ℕ) (s : Stream) (cpus : List ℕ) (k cpu : ℕ) (piece : Packed) → slice_get cpus k ≡ Some cpu
    → IsPieceOf (marks_of id s cpu) piece → IsPieceOf (marks_of_all id s cpus) piece
marks_there id s [] k cpu piece at t = absurd (none-some cpu at)
marks_there id s (c ∷ cpus) zero cpu piece at t =
    (told_in_either (marks_of id s c) (marks_of_all id s cpus) piece).1
    (inl (subst (λ (x : ℕ). IsPieceOf (marks_of id s x) piece) (sym (some_is c cpu at)) t))
marks_there id s (c ∷ cpus) (suc k) cpu piece at t =
    (told_in_either (marks_of id s c) (marks_of_all id s cpus) piece).1
    (inr (marks_there id s cpus k cpu piece at t))

in_run : (id cpu first missed : ℕ) (piece : Packed) → IsPieceOf (run_pieces id cpu first missed) piece
    → (0 < missed) × (mark_piece id cpu (Undelivered (first - missed) first) ≡ piece)
in_run id cpu first zero piece s = absurd (none-some piece s.1)
in_run id cpu first (suc more) piece s =
    (omega arith, only (mark_piece id cpu (Undelivered (first - suc more) first)) s.0 piece s.1)

run_there : (id cpu first missed : ℕ) → 0 < missed
    → IsPieceOf (run_pieces id cpu first missed) (mark_piece id cpu (Undelivered (first - missed) first))
run_there id cpu first zero lt = absurd (omega arith)
run_there id cpu first (suc more) lt = (0, refl)

-- a run is of some parcel
record IsRunOf (id : ℕ) (parcels : List Parcel) (piece : Packed) : Type 0 where
  index : ℕ
  parcel : Parcel
  at : slice_get parcels index ≡ Some parcel
  some : 0 < parcel.missed
  is : mark_piece id parcel.cpu (Undelivered (parcel.first - parcel.missed) parcel.first) ≡ piece

in_runs : (id : ℕ) (parcels : List Parcel) (piece : Packed) → IsPieceOf (runs_of_all id parcels) piece
    → IsRunOf id parcels piece
in_runs id [] piece t = absurd (none-some piece t.1)
in_runs id (p ∷ parcels) piece t = ⊎_elim
    (λ (own : IsPieceOf (run_pieces id p.cpu p.first p.missed) piece).
    let is = in_run id p.cpu p.first p.missed piece own in
    record { index = 0; parcel = p; at = refl; some = is.0; is = is.1 })
    (λ (rest : IsPieceOf (runs_of_all id parcels) piece).
    let r = in_runs id parcels piece rest in
    record { index = suc r.index; parcel = r.parcel; at = r.at; some = r.some; is = r.is })
    ((told_in_either (run_pieces id p.cpu p.first p.missed) (runs_of_all id parcels) piece).0 t)

runs_there : (id : ℕ) (parcels : List Parcel) (k : ℕ) (p : Parcel) (piece : Packed) → slice_get parcels k ≡ Some p
    → IsPieceOf (run_pieces id p.cpu p.first p.missed) piece → IsPieceOf (runs_of_all id parcels) piece
runs_there id [] k p piece at t = absurd (none-some p at)
runs_there id (q ∷ parcels) zero p piece at t =
    (told_in_either (run_pieces id q.cpu q.first q.missed) (runs_of_all id parcels) piece).1
    (inl (subst (λ (x : Parcel). IsPieceOf (run_pieces id x.cpu x.first x.missed) piece) (sym (some_is q p at)) t))
runs_there id (q ∷ parcels) (suc k) p piece at t =
    (told_in_either (run_pieces id q.cpu q.first q.missed) (runs_of_all id parcels) piece).1
    (inr (runs_there id parcels k p piece at t))

-- ---- what they state

module _ (id : ℕ) (s : Stream) (cpus : List ℕ) (values : List ParcelValue) (all : AreMarkedCpus s.marks cpus)
    (are : as_parcels values ≡ s.parcels) where
  told_where : (piece : Packed)
      → IsPieceOf (marks_of_all id s cpus ++ (runs_of_all id s.given_up ++ parcel_pieces id values)) piece
      → (IsPieceOf (marks_of_all id s cpus) piece ⊎ IsPieceOf (runs_of_all id s.given_up) piece)
      ⊎ IsPieceOf (parcel_pieces id values) piece
  told_where piece t = ⊎_elim
      (λ (m : IsPieceOf (marks_of_all id s cpus) piece). inl (inl m))
      (λ (rest : IsPieceOf (runs_of_all id s.given_up ++ parcel_pieces id values) piece). ⊎_elim
      (λ (r : IsPieceOf (runs_of_all id s.given_up) piece). inl (inr r))
      (λ (p : IsPieceOf (parcel_pieces id values) piece). inr p)
      ((told_in_either (runs_of_all id s.given_up) (parcel_pieces id values) piece).0 rest))
      ((told_in_either (marks_of_all id s cpus) (runs_of_all id s.given_up ++ parcel_pieces id values) piece).0 t)

  mark_told : (piece : Packed) → IsPieceOf (marks_of_all id s cpus) piece
      → IsPieceOf (marks_of_all id s cpus ++ (runs_of_all id s.given_up ++ parcel_pieces id values)) piece
  mark_told piece m =
      (told_in_either (marks_of_all id s cpus) (runs_of_all id s.given_up ++ parcel_pieces id values) piece).1 (inl m)

  run_told : (piece : Packed) → IsPieceOf (runs_of_all id s.given_up) piece
      → IsPieceOf (marks_of_all id s cpus ++ (runs_of_all id s.given_up ++ parcel_pieces id values)) piece
  run_told piece r =
      (told_in_either (marks_of_all id s cpus) (runs_of_all id s.given_up ++ parcel_pieces id values) piece).1
      (inr ((told_in_either (runs_of_all id s.given_up) (parcel_pieces id values) piece).1 (inl r)))

  parcel_told : (piece : Packed) → IsPieceOf (parcel_pieces id values) piece
      → IsPieceOf (marks_of_all id s cpus ++ (runs_of_all id s.given_up ++ parcel_pieces id values)) piece
  parcel_told piece p =
      (told_in_either (marks_of_all id s cpus) (runs_of_all id s.given_up ++ parcel_pieces id values) piece).1
      (inr ((told_in_either (runs_of_all id s.given_up) (parcel_pieces id values) piece).1 (inr p)))

  -- a parcel of the pieces is a kept one
  value_is : (piece : Packed) → IsPieceOf (parcel_pieces id values) piece
      → (k : ℕ) × (value : ParcelValue) × (slice_get values k ≡ Some value) × (piece_of_parcel id value ≡ piece)
  value_is piece t = let found = mapped_at (piece_of_parcel id) values t.0 piece t.1 in (t.0, found.0, found.1, found.2)

  parcel_kept : (p : Parcel)
      → TellParcel (marks_of_all id s cpus ++ (runs_of_all id s.given_up ++ parcel_pieces id values)) id p
      → (k : ℕ) × (slice_get s.parcels k ≡ Some p)
  parcel_kept p t = ⊎_elim
      (λ either. absurd (⊎_elim
      (λ (m : IsPieceOf (marks_of_all id s cpus) (parcel_piece id p t.time t.contents)).
      no_mark (in_marks id s cpus (parcel_piece id p t.time t.contents) m).0
      (in_marks id s cpus (parcel_piece id p t.time t.contents) m).1)
      (λ (r : IsPieceOf (runs_of_all id s.given_up) (parcel_piece id p t.time t.contents)).
      let run = in_runs id s.given_up (parcel_piece id p t.time t.contents) r in
      let e = run.is in let no : ⊥ = cc in no)
      either))
      (λ (own : IsPieceOf (parcel_pieces id values) (parcel_piece id p t.time t.contents)).
      let v = value_is (parcel_piece id p t.time t.contents) own in
      let e = v.3 in
      let same : as_parcel v.1 ≡ p = cc in (
        v.0,
        subst (λ (ps : List Parcel). slice_get ps v.0 ≡ Some p) are
            (at_mapped as_parcel values v.0 v.1 v.2 ∙ ap (λ (q : Parcel). Some q) same),
      ))
      (told_where (parcel_piece id p t.time t.contents) t.told)
    where
      no_mark : (cpu : ℕ) → SaysMark id s cpu (parcel_piece id p t.time t.contents) → ⊥
      no_mark cpu (says_bound lt e) = let no : ⊥ = cc in no
      no_mark cpu (says_end count is e) = let no : ⊥ = cc in no

  kept_told : (p : Parcel) (k : ℕ) → slice_get s.parcels k ≡ Some p
      → TellParcel (marks_of_all id s cpus ++ (runs_of_all id s.given_up ++ parcel_pieces id values)) id p
  kept_told p k at =
      let there : slice_get (as_parcels values) k ≡ Some p =
      subst (λ (ps : List Parcel). slice_get ps k ≡ Some p) (sym are) at in
      let found = mapped_at as_parcel values k p there in
      let piece : Packed = piece_of_parcel id found.0 in
      record {
        time = found.0.page.time;
        contents = found.0.page.bytes;
        told = subst (λ (q : Parcel). IsPieceOf
            (marks_of_all id s cpus ++ (runs_of_all id s.given_up ++ parcel_pieces id values))
            (parcel_piece id q found.0.page.time found.0.page.bytes)) found.2
            (parcel_told (piece_of_parcel id found.0)
            (k, at_mapped (piece_of_parcel id) values k found.0 found.1));
      }

  -- what the marks say
  forgotten_is : (cpu b : ℕ)
      → TellForgotten (marks_of_all id s cpus ++ (runs_of_all id s.given_up ++ parcel_pieces id values)) id cpu b
      → b ≡ bound_of s cpu
  forgotten_is cpu b t = ⊎_elim
      (λ either. ⊎_elim
      (λ (m : IsPieceOf (marks_of_all id s cpus) (mark_piece id cpu (Forgotten b))).
      let found = in_marks id s cpus (mark_piece id cpu (Forgotten b)) m in said found.0 found.1)
      (λ (r : IsPieceOf (runs_of_all id s.given_up) (mark_piece id cpu (Forgotten b))).
      let run = in_runs id s.given_up (mark_piece id cpu (Forgotten b)) r in
      let e = run.is in let no : ⊥ = cc in absurd no)
      either)
      (λ (own : IsPieceOf (parcel_pieces id values) (mark_piece id cpu (Forgotten b))).
      let v = value_is (mark_piece id cpu (Forgotten b)) own in
      let e = v.3 in let no : ⊥ = cc in absurd no)
      (told_where (mark_piece id cpu (Forgotten b)) t)
    where
      said : (c : ℕ) → SaysMark id s c (mark_piece id cpu (Forgotten b)) → b ≡ bound_of s cpu
      said c (says_bound lt e) =
          let same : c ≡ cpu = cc in
          let is : bound_of s c ≡ b = cc in
          sym is ∙ ap (λ (x : ℕ). bound_of s x) same
      said c (says_end count is e) = let no : ⊥ = cc in absurd no

  end_is : (cpu count : ℕ)
      → TellEnd (marks_of_all id s cpus ++ (runs_of_all id s.given_up ++ parcel_pieces id values)) id cpu count
      → end_of s cpu ≡ Some count
  end_is cpu count t = ⊎_elim
      (λ either. ⊎_elim
      (λ (m : IsPieceOf (marks_of_all id s cpus) (mark_piece id cpu (End count))).
      let found = in_marks id s cpus (mark_piece id cpu (End count)) m in said found.0 found.1)
      (λ (r : IsPieceOf (runs_of_all id s.given_up) (mark_piece id cpu (End count))).
      let run = in_runs id s.given_up (mark_piece id cpu (End count)) r in
      let e = run.is in let no : ⊥ = cc in absurd no)
      either)
      (λ (own : IsPieceOf (parcel_pieces id values) (mark_piece id cpu (End count))).
      let v = value_is (mark_piece id cpu (End count)) own in
      let e = v.3 in let no : ⊥ = cc in absurd no)
      (told_where (mark_piece id cpu (End count)) t)
    where
      said : (c : ℕ) → SaysMark id s c (mark_piece id cpu (End count)) → end_of s cpu ≡ Some count
      said c (says_bound lt e) = let no : ⊥ = cc in absurd no
      said c (says_end n is e) =
          let same : c ≡ cpu = cc in
          let count_is : n ≡ count = cc in
          ap (λ (x : ℕ). end_of s x) (sym same) ∙ is ∙ ap (λ (x : ℕ). Some x) count_is

  given_is : (cpu n : ℕ)
      → TellGivenUp (marks_of_all id s cpus ++ (runs_of_all id s.given_up ++ parcel_pieces id values)) id cpu n
      → Misses s.given_up cpu n
  given_is cpu n t = ⊎_elim
      (λ either. ⊎_elim
      (λ (m : IsPieceOf (marks_of_all id s cpus) (mark_piece id cpu (Undelivered t.first t.end))).
      let found = in_marks id s cpus (mark_piece id cpu (Undelivered t.first t.end)) m in
      absurd (not_said found.0 found.1))
      (λ (r : IsPieceOf (runs_of_all id s.given_up) (mark_piece id cpu (Undelivered t.first t.end))).
      let run = in_runs id s.given_up (mark_piece id cpu (Undelivered t.first t.end)) r in
      let e = run.is in
      let own : run.parcel.cpu ≡ cpu = cc in
      let low : run.parcel.first - run.parcel.missed ≡ t.first = cc in
      let high : run.parcel.first ≡ t.end = cc in
      let from = t.from in
      let below = t.below in
      record {
        index = run.index;
        parcel = run.parcel;
        at = run.at;
        missing = record { cpu_is = sym own; low = omega arith; high = omega arith };
      })
      either)
      (λ (own : IsPieceOf (parcel_pieces id values) (mark_piece id cpu (Undelivered t.first t.end))).
      let v = value_is (mark_piece id cpu (Undelivered t.first t.end)) own in
      let e = v.3 in let no : ⊥ = cc in absurd no)
      (told_where (mark_piece id cpu (Undelivered t.first t.end)) t.told)
    where
      not_said : (c : ℕ) → SaysMark id s c (mark_piece id cpu (Undelivered t.first t.end)) → ⊥
      not_said c (says_bound lt e) = let no : ⊥ = cc in no
      not_said c (says_end count is e) = let no : ⊥ = cc in no

  given_there : (cpu n : ℕ) → Misses s.given_up cpu n
      → TellGivenUp (marks_of_all id s cpus ++ (runs_of_all id s.given_up ++ parcel_pieces id values)) id cpu n
  given_there cpu n m =
      let p = m.parcel in
      let low = m.missing.low in
      let high = m.missing.high in
      let run : Packed = mark_piece id p.cpu (Undelivered (p.first - p.missed) p.first) in
      record {
        first = p.first - p.missed;
        end = p.first;
        told = subst (λ (c : ℕ). IsPieceOf
            (marks_of_all id s cpus ++ (runs_of_all id s.given_up ++ parcel_pieces id values))
            (mark_piece id c (Undelivered (p.first - p.missed) p.first))) (sym m.missing.cpu_is)
            (run_told (mark_piece id p.cpu (Undelivered (p.first - p.missed) p.first))
            (runs_there id s.given_up m.index p (mark_piece id p.cpu (Undelivered (p.first - p.missed) p.first)) m.at
            (run_there id p.cpu p.first p.missed (omega arith))));
        from = omega arith;
        below = high;
      }

  mark_there : (cpu : ℕ) (piece : Packed) → Contains cpus cpu → IsPieceOf (marks_of id s cpu) piece
      → IsPieceOf (marks_of_all id s cpus ++ (runs_of_all id s.given_up ++ parcel_pieces id values)) piece
  mark_there cpu piece (k, within, is) t = mark_told piece (marks_there id s cpus k cpu piece
      (slice_get-get_or cpus k cpu within ∙ ap (λ (x : ℕ). Some x) is) t)

  bounds : (cpu : ℕ)
      → IsBoundTold (marks_of_all id s cpus ++ (runs_of_all id s.given_up ++ parcel_pieces id values)) id cpu
      (bound_of s cpu)
  bounds cpu = record {
    highest = λ b told. let is = forgotten_is cpu b told in omega arith;
    told = ⊎_elim
        (λ (some : 0 < bound_of s cpu). inr (mark_there cpu (mark_piece id cpu (Forgotten (bound_of s cpu)))
        ((all.marked cpu).1 (inl some))
        ((told_in_either (bound_pieces id cpu (bound_of s cpu)) (end_pieces id cpu (end_of s cpu))
        (mark_piece id cpu (Forgotten (bound_of s cpu)))).1 (inl (bound_there id cpu (bound_of s cpu) some)))))
        (λ (none : bound_of s cpu ≤ 0). let zero_is : bound_of s cpu ≡ 0 = omega arith in inl zero_is)
        (cases_lt 0 (bound_of s cpu));
  }

  pub snapshot_told : IsStreamOf (marks_of_all id s cpus ++ (runs_of_all id s.given_up ++ parcel_pieces id values)) id s
  snapshot_told =
      let pieces = marks_of_all id s cpus ++ (runs_of_all id s.given_up ++ parcel_pieces id values) in
      record {
        bounds = bounds;
        ends = λ cpu count. (
          λ e. mark_there cpu (mark_piece id cpu (End count)) ((all.marked cpu).1 (inr (some_end
              (end_of s cpu) count e)))
              ((told_in_either (bound_pieces id cpu (bound_of s cpu)) (end_pieces id cpu (end_of s cpu))
              (mark_piece id cpu (End count))).1 (inr (end_there id cpu (end_of s cpu) count e))),
          end_is cpu count,
        );
        records = λ cpu n r. (
          λ h. record {
            parcel = h.has.parcel;
            told = kept_told h.has.parcel h.has.index h.has.at;
            says_it = h.has.pair;
            kept = none_forgets pieces id cpu (bound_of s cpu) n (bounds cpu) h.from;
          },
          λ t. let there = parcel_kept t.parcel t.told in record {
            from = from_bound pieces id cpu (bound_of s cpu) n (bounds cpu) t.kept;
            has = record { index = there.0; parcel = t.parcel; at = there.1; pair = t.says_it };
          },
        );
        missing = λ cpu n. (
          λ h. record {
            parcel = h.misses.parcel;
            told = kept_told h.misses.parcel h.misses.index h.misses.at;
            says_it = h.misses.missing;
            kept = none_forgets pieces id cpu (bound_of s cpu) n (bounds cpu) h.from;
          },
          λ t. let there = parcel_kept t.parcel t.told in record {
            from = from_bound pieces id cpu (bound_of s cpu) n (bounds cpu) t.kept;
            misses = record { index = there.0; parcel = t.parcel; at = there.1; missing = t.says_it };
          },
        );
        given_up = λ cpu n. (given_there cpu n, given_is cpu n);
      }
    where
      some_end : (o : Option ℕ) (x : ℕ) → o ≡ Some x → IsSome o
      some_end None x e = absurd (none-some x e)
      some_end (Some y) x e = refl

  pub all_own : (piece : Packed)
      → IsPieceOf (marks_of_all id s cpus ++ (runs_of_all id s.given_up ++ parcel_pieces id values)) piece
      → stream_of piece ≡ id
  all_own piece t = ⊎_elim
      (λ either. ⊎_elim
      (λ (m : IsPieceOf (marks_of_all id s cpus) piece). let found = in_marks id s cpus piece m in said found.0 found.1)
      (λ (r : IsPieceOf (runs_of_all id s.given_up) piece). let run = in_runs id s.given_up piece r in
      sym (ap stream_of run.is))
      either)
      (λ (own : IsPieceOf (parcel_pieces id values) piece). sym (ap stream_of (value_is piece own).3))
      (told_where piece t)
    where
      said : (c : ℕ) → SaysMark id s c piece → stream_of piece ≡ id
      said c (says_bound lt e) = sym (ap stream_of e)
      said c (says_end count is e) = sym (ap stream_of e)

-- ---- the whole

pub is_snapshot : (id : ℕ) (s : Stream) (first second third bytes : List ℕ) → first ≡ [] → PutsMarks id s first second
    → ArePut second third (runs_of_all id s.given_up) → PutsParcels id s.parcels third bytes → IsSnapshot id s bytes
is_snapshot id s first second third bytes none m r p =
    let runs_and_parcels = put_more second third bytes (runs_of_all id s.given_up)
    (parcel_pieces id p.values) r p.put in
    let whole = put_more first second bytes (marks_of_all id s m.cpus)
    (runs_of_all id s.given_up ++ parcel_pieces id p.values) m.put runs_and_parcels in
    record {
      pieces = marks_of_all id s m.cpus ++ (runs_of_all id s.given_up ++ parcel_pieces id p.values);
      is_stream = record {
        sound = whole.sound;
        whole = whole.bytes ∙ ap (λ (b : List ℕ). b ++ bytes_of_pieces
            (marks_of_all id s m.cpus ++ (runs_of_all id s.given_up ++ parcel_pieces id p.values))) none;
      };
      own = all_own id s m.cpus p.values m.all p.all;
      of_stream = snapshot_told id s m.cpus p.values m.all p.all;
    }

-- of a stream that isn't there
pub none_snapshot : (id : ℕ) (s : Stream) (bytes : List ℕ) → s ≡ empty_stream → bytes ≡ [] → IsSnapshot id s bytes
none_snapshot id s bytes is none = record {
  pieces = [];
  is_stream = record { sound = tt; whole = none };
  own = λ piece t. absurd (none-some piece t.1);
  of_stream = subst (λ (x : Stream). IsStreamOf [] id x) (sym is) (told_by_none id);
}
