-- A listing that goes out while it grows.
use Rattle.std.proofs.Common.{◌≡◌, ◌↔◌, ◌⊎◌, inl, inr, ⊎_elim, ℕ, zero, suc, ◌+◌, ◌<◌, ◌≤◌, List, [], ◌∷◌, ◌++◌, length}
use Rattle.std.proofs.Common.{Some, sym, ◌∙◌, subst, append-nil, arith}
use Rattle.std.proofs.lemmas.Bool.{cases_lt}
use Rattle.trace_model.specs.Record.{Record}
use Rattle.trace_model.specs.Parcel.{Parcel}
use Rattle.trace_model.specs.Collection.{Has, Agree}
use Rattle.trace_model.specs.declared.numbers.Moment.{Moment}
use Rattle.trace_model.proofs.collections.Elements.{get_in_front, get_behind, get_in_either}
use Rattle.stream_collector.specs.Stream.{Stream, bound_of, HasRecord}
use Rattle.stream_collector.specs.Marking.{AreWithinEnds}
use Rattle.stream_collector.specs.Frontier.{IsCpuThere, by_known, IsCut, NeverFall}
use Rattle.stream_collector.proofs.Frontiers.{later_not_before}
use Rattle.stream_collector.proofs.StreamLaws.{records_stay}
use Rattle.fleet_collector.specs.Fleet.{stream_at}
use Rattle.fleet_collector.specs.Frontier.{IsFleetFrontier, AllForgottenBefore}
use Rattle.fleet_collector.specs.Lines.{IsAmong}
use Rattle.fleet_collector.specs.Listing.{Line, IsBefore, IsTimeOrdered, IsFleetListing, IsListingBefore, line_for}
use Rattle.fleet_collector.proofs.BeforeCut.{below_cut}

-- ---- lines before the moment, and lines that come later

pub listed_is_before : (fleet : List (ℕ × Stream)) (moment : ℕ) (lines : List Line) (line : Line)
    → IsListingBefore fleet moment lines → IsAmong lines line → line.moment < moment
listed_is_before fleet moment lines line is s =
    let h = is.of_them s.0 line s.1 in
    h.is_cut.before line.number record { moment = line.moment; bytes = line.bytes } h.has h.below

pub comes_later : (fleet : List (ℕ × Stream)) (frontier : Moment) (id cpu cut : ℕ) (later : List Parcel)
    → IsFleetFrontier fleet (Some frontier) → IsCpuThere (stream_at fleet id) cpu
    → IsCut (stream_at fleet id) cpu frontier.0 cut
    → Agree ((stream_at fleet id).parcels ++ later)
    → AreWithinEnds record (stream_at fleet id) { parcels = (stream_at fleet id).parcels ++ later }
    → NeverFall ((stream_at fleet id).parcels ++ later) cpu
    → (n : ℕ) (r : Record) → cut ≤ n → Has ((stream_at fleet id).parcels ++ later) cpu n r → frontier.0 ≤ r.moment
comes_later fleet frontier id cpu cut later is there =
    later_not_before (stream_at fleet id) later frontier cpu cut (is.least id cpu there)

-- ---- what was listed and forgotten, and what is listed then

module _ (old new : List (ℕ × Stream)) (moment : ℕ) (first rest : List Line) (out : IsListingBefore old moment first)
    (gone : AllForgottenBefore old new moment) (then : IsFleetListing new rest) where
  stays : (id cpu n : ℕ) (r : Record) → bound_of (stream_at new id) cpu ≤ n
      → (HasRecord (stream_at old id) cpu n r ↔ HasRecord (stream_at new id) cpu n r)
  stays id cpu n r from = let f = gone id in
      records_stay (stream_at old id) (stream_at new id) f.raised cpu n r from

  pub is_of_one : (lines : List Line) → IsFleetListing old lines → (line : Line)
      → (IsAmong lines line ↔ (IsAmong first line ⊎ IsAmong rest line))
  is_of_one lines whole line = (
    λ s.
        let h = whole.of_them s.0 line s.1 in
        let f = gone line.stream in
        ⊎_elim
        (λ (below : line.number < bound_of (stream_at new line.stream) line.cpu).
        inl (out.whole line.stream line.cpu line.number record { moment = line.moment; bytes = line.bytes } record {
          has = h;
          cut = bound_of (stream_at new line.stream) line.cpu;
          is_cut = f.cuts line.cpu;
          below = below;
        }))
        (λ (from : bound_of (stream_at new line.stream) line.cpu ≤ line.number).
        inr (then.whole line.stream line.cpu line.number record { moment = line.moment; bytes = line.bytes }
        ((stays line.stream line.cpu line.number record { moment = line.moment; bytes = line.bytes } from).0 h)))
        (cases_lt line.number (bound_of (stream_at new line.stream) line.cpu)),
    λ either. ⊎_elim
        (λ (s : IsAmong first line).
        let h = out.of_them s.0 line s.1 in
        whole.whole line.stream line.cpu line.number record { moment = line.moment; bytes = line.bytes } h.has)
        (λ (s : IsAmong rest line).
        let h = then.of_them s.0 line s.1 in
        whole.whole line.stream line.cpu line.number record { moment = line.moment; bytes = line.bytes }
        ((stays line.stream line.cpu line.number record { moment = line.moment; bytes = line.bytes } h.from).1 h))
        either,
  )

  pub is_once : (line : Line) → IsAmong first line → IsAmong rest line → ⊥
  is_once line s t =
      let h = out.of_them s.0 line s.1 in
      let k = then.of_them t.0 line t.1 in
      let f = gone line.stream in
      let from = k.from in
      let below = below_cut (stream_at old line.stream) line.cpu moment h.cut
      (bound_of (stream_at new line.stream) line.cpu) line.number h.is_cut (f.cuts line.cpu) h.below in
      absurd (omega arith)

-- lines after others, if each of those is before each of them
ordered_behind : (xs ys : List Line) → IsTimeOrdered xs → IsTimeOrdered ys
    → ((a b : Line) → IsAmong xs a → IsAmong ys b → IsBefore a b) → IsTimeOrdered (xs ++ ys)
ordered_behind [] ys p q before k a b at next = q k a b at next
ordered_behind (x ∷ []) ys p q before zero a b at next =
    before a b (0, at) (0, next)
ordered_behind (x ∷ []) ys p q before (suc k) a b at next = q k a b at next
ordered_behind (x ∷ y ∷ xs) ys p q before zero a b at next = p 0 a b at next
ordered_behind (x ∷ y ∷ xs) ys p q before (suc k) a b at next =
    ordered_behind (y ∷ xs) ys (λ k a b at next. p (suc k) a b at next) q
    (λ a b s t. before a b (suc s.0, s.1) t) k a b at next

-- at the frontier, if moments never fall, the one listing is followed by the other
pub one_after_the_other : (old new : List (ℕ × Stream)) (frontier : Moment) (first rest : List Line)
    → IsFleetFrontier old (Some frontier)
    → ((id : ℕ) → Agree (stream_at old id).parcels)
    → ((id : ℕ) → AreWithinEnds (stream_at old id))
    → ((id cpu : ℕ) → NeverFall (stream_at old id).parcels cpu)
    → IsListingBefore old frontier.0 first → AllForgottenBefore old new frontier.0 → IsFleetListing new rest
    → IsFleetListing old (first ++ rest)
one_after_the_other old new frontier first rest is agree within rise out gone then = record {
  ordered = ordered_behind first rest out.ordered then.ordered (λ a b s t.
      let early = listed_is_before old frontier.0 first a out s in
      let late = later b t in
      inl (omega arith));
  of_them = λ k line at. ⊎_elim
      (λ (s : IsAmong first line). let h = out.of_them s.0 line s.1 in h.has)
      (λ (s : IsAmong rest line). let h = then.of_them s.0 line s.1 in
      (stays old new frontier.0 first rest out gone then line.stream line.cpu line.number
      record { moment = line.moment; bytes = line.bytes } h.from).1 h)
      (get_in_either first rest k line at);
  whole = λ stream cpu n r h.
      let f = gone stream in
      ⊎_elim
      (λ (below : n < bound_of (stream_at new stream) cpu).
      let there = out.whole stream cpu n r record {
        has = h;
        cut = bound_of (stream_at new stream) cpu;
        is_cut = f.cuts cpu;
        below = below;
      } in
      (there.0, get_in_front first rest there.0 (line_for stream cpu n r) there.1))
      (λ (from : bound_of (stream_at new stream) cpu ≤ n).
      let there = then.whole stream cpu n r
      ((stays old new frontier.0 first rest out gone then stream cpu n r from).0 h) in
      (length first + there.0, get_behind first rest there.0 ∙ there.1))
      (cases_lt n (bound_of (stream_at new stream) cpu));
}
  where
    later : (line : Line) → IsAmong rest line → frontier.0 ≤ line.moment
    later line s =
        let r : Record = record { moment = line.moment; bytes = line.bytes } in
        let id = line.stream in
        let ps = (stream_at old id).parcels in
        let h = then.of_them s.0 line s.1 in
        let own = (stays old new frontier.0 first rest out gone then id line.cpu line.number r h.from).1 h in
        let f = gone id in
        let same : ps ++ [] ≡ ps = append-nil ps in
        comes_later old frontier id line.cpu (bound_of (stream_at new id) line.cpu) [] is
        (by_known (line.number, inl (r, own.has))) (f.cuts line.cpu)
        (subst Agree (sym same) (agree id))
        (subst (λ (qs : List Parcel). AreWithinEnds record (stream_at old id) { parcels = qs }) (sym same) (within id))
        (subst (λ (qs : List Parcel). NeverFall qs line.cpu) (sym same) (rise id line.cpu)) line.number r h.from
        (subst (λ (qs : List Parcel). Has qs line.cpu line.number r) (sym same) own.has)
