-- The streams of a fleet, one after the other.
use Rattle.std.proofs.Common.{◌≡◌, ℕ, ◌<◌, List, [], ◌∷◌, ◌++◌, length, map, take, drop, get_or, Option, Some, sym}
use Rattle.std.proofs.Common.{ap, ◌∙◌}
use Rattle.std.proofs.Common.{subst, arith}
use Rattle.std.specs.Borrow.{Bor}
use Rattle.std.specs.List.{slice_get}
use Rattle.std.specs.List.Sorted.{IsStrictlyIncreasing, IsStrictlySortedBy}
use Rattle.std.specs.Ordering.{nat_cmp}
use Rattle.std.specs.Cmp.{nat_cmp_total, eq_by_cmp_equiv}
use Rattle.std.proofs.lemmas.List.{take-append-drop, length-take-le, map-append}
use Rattle.std.proofs.lemmas.Map.Entries.{lookup_from_place}
use Rattle.std.proofs.lemmas.Map.Keys.{below_from_sorted, sorted_from_strictly_increasing, IsDistinct-from_sorted}
use Rattle.std.proofs.lemmas.Option.{slice_get_within, get_or_from_slice_get, slice_get-get_or}
use Rattle.trace_model.proofs.collections.Elements.{get_in_front}
use Rattle.time_merge.proofs.Ordered.{at_mapped}
use Rattle.trace_model.specs.declared.numbers.Moment.{Moment}
use Rattle.stream_collector.specs.Stream.{Stream}
use Rattle.parcel_streams.specs.declared.piece.StreamId.{StreamId}
use Rattle.fleet_collector.specs.Fleet.{known_of, stream_at, or_empty, entry_seen}
use Rattle.fleet_collector.specs.Listing.{Line}
use Rattle.fleet_collector.specs.Lines.{AreLinesOf, HasOf, HasIn}
use Rattle.fleet_collector.proofs.ByNumber.{AreBelow, fleet_more}

abbrev ids : List (ℕ × Stream) → List ℕ
ids fleet = map (λ (e : ℕ × Stream). e.0) fleet

-- the stream at a place is the one of its id
pub known_of_place : (fleet : List (ℕ × Stream)) → IsStrictlySortedBy nat_cmp (ids fleet) → (k stream : ℕ)
    (known : Stream)
    → slice_get fleet k ≡ Some (stream, known) → known_of fleet stream ≡ Some known
known_of_place fleet rising k stream known at =
    lookup_from_place (eq_by_cmp_equiv nat_cmp_total) fleet k stream known
    (IsDistinct-from_sorted nat_cmp (ids fleet) rising) at

-- of streams by rising id, those before this one are below it
below_next : (fleet : List (ℕ × Stream)) → IsStrictlyIncreasing (ids fleet) → (n : ℕ) (entry : ℕ × Stream)
    → n < length fleet → entry ≡ get_or fleet n entry → AreBelow (take n fleet) entry.0
below_next fleet rising n entry within is k e at =
    let early = slice_get_within (take n fleet) k e at in
    let short : length (take n fleet) ≡ n = length-take-le n fleet (omega arith) in
    let here : slice_get fleet k ≡ Some e =
    subst (λ es. slice_get es k ≡ Some e) (take-append-drop n fleet)
    (get_in_front (take n fleet) (drop n fleet) k e at) in
    let there : slice_get fleet n ≡ Some entry = slice_get-get_or fleet n entry within ∙ ap (λ x. Some x) (sym is) in
    let first = at_mapped (λ (x : ℕ × Stream). x.0) fleet k e here in
    let second = at_mapped (λ (x : ℕ × Stream). x.0) fleet n entry there in
    let less = below_from_sorted (ids fleet) k n 0 (sorted_from_strictly_increasing (ids fleet) rising) (omega arith)
    (slice_get_within (ids fleet) n entry.0 second) in
    let a = get_or_from_slice_get (ids fleet) k e.0 0 first in
    let b = get_or_from_slice_get (ids fleet) n entry.0 0 second in
    omega arith

-- the lines of one stream more
pub lines_more : (before : Option Moment) (fleet : List (ℕ × Stream)) (done : List (StreamId × Bor Stream))
    (item : StreamId × Bor Stream)
    (lines more new : List Line)
    → IsStrictlyIncreasing (ids fleet)
    → map entry_seen done ≡ take (length done) fleet
    → length done < length fleet → entry_seen item ≡ get_or fleet (length done) (entry_seen item)
    → AreLinesOf (HasIn before (map entry_seen done)) lines
    → AreLinesOf (HasOf before item.0.0 item.1.now) more
    → new ≡ lines ++ more
    → AreLinesOf (HasIn before (map entry_seen (done ++ item ∷ []))) new
lines_more before fleet done item lines more new rising so_far within is old put e =
    let below = subst (λ (es : List (ℕ × Stream)). AreBelow es item.0.0) (sym so_far)
    (below_next fleet rising (length done) (entry_seen item) within is) in
    let all = fleet_more before (map entry_seen done) item.0.0 item.1.now lines more below
    old put in
    subst (AreLinesOf (HasIn before (map entry_seen (done ++ item ∷ [])))) (sym e)
    (subst (λ (es : List (ℕ × Stream)). AreLinesOf (HasIn before es) (lines ++ more))
    (sym (map-append entry_seen done (item ∷ []))) all)

-- what is known of the stream at an index
pub stream_at_place : (fleet : List (ℕ × Stream)) → IsStrictlyIncreasing (ids fleet) → (n : ℕ) (entry : ℕ × Stream)
    → n < length fleet → entry ≡ get_or fleet n entry → stream_at fleet entry.0 ≡ entry.1
stream_at_place fleet rising n entry within is =
    ap or_empty (known_of_place fleet (sorted_from_strictly_increasing (ids fleet) rising) n entry.0 entry.1
    (slice_get-get_or fleet n entry within ∙ ap (λ (x : ℕ × Stream). Some x) (sym is)))
