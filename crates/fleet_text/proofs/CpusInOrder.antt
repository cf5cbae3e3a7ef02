-- The CPUs of one stream after the other.
use Rattle.std.proofs.Common.{◌≡◌, inl, inr, ⊎_elim, ◌↔◌, ℕ, suc, ◌+◌, ◌<◌, List, [], ◌∷◌, ◌++◌, length, map, take}
use Rattle.std.proofs.Common.{drop, get_or, Option, Some, None, true, refl, sym, ap, ◌∙◌, subst, arith}
use Rattle.std.specs.Borrow.{Bor}
use Rattle.std.specs.List.{slice_get}
use Rattle.std.specs.List.Sorted.{IsStrictlySortedBy, IsStrictlyIncreasing}
use Rattle.std.proofs.Common.{Ordering, Less, Equal, Greater}
use Rattle.std.specs.Ordering.{is_eq, nat_cmp}
use Rattle.std.specs.BTreeMap.{is_at}
use Rattle.std.proofs.lemmas.List.{take-append-drop, length-take-le, map-append}
use Rattle.std.proofs.lemmas.Map.Keys.{below_from_sorted, sorted_from_strictly_increasing}
use Rattle.std.proofs.lemmas.Map.Entries.{place_from_lookup}
use Rattle.std.proofs.lemmas.Map.Lookups.{exact_unsigned}
use Rattle.std.proofs.lemmas.Option.{none-some, slice_get_within, get_or_from_slice_get, slice_get-get_or}
use Rattle.trace_model.proofs.collections.Elements.{get_in_front, get_behind, get_in_either}
use Rattle.time_merge.specs.Lines.{AreOrdered}
use Rattle.time_merge.proofs.Ordered.{ordered_append, before_each, ordered_rising, ordered_map, mapped_at, at_mapped}
use Rattle.collector.specs.Known.{IsCpuKnown}
use Rattle.stream_collector.specs.Stream.{Stream}
use Rattle.parcel_streams.specs.declared.piece.StreamId.{StreamId}
use Rattle.fleet_collector.specs.Fleet.{known_of, or_empty, entry_seen}
use Rattle.fleet_collector.proofs.InTurn.{known_of_place}
use Rattle.fleet_text.specs.Cpus.{FleetCpu, IsAmong, IsBefore, IsThere, AreCpusOfStream, AreCpusIn, AreCpusOfFleet}
use Rattle.fleet_text.proofs.CpuSets.{only}

-- numbers in strict order
rising : (keys : List ℕ) → IsStrictlySortedBy nat_cmp keys → AreOrdered (λ (a b : ℕ). a < b) keys
rising keys sorted =
    ordered_rising (λ (a b : ℕ). a < b) (λ x y z p q. omega (arith, p, q)) keys
    (λ k a b at next.
    let less = below_from_sorted keys k (suc k) 0 sorted (omega arith) (slice_get_within keys (suc k) b next) in
    let x = get_or_from_slice_get keys k a 0 at in
    let y = get_or_from_slice_get keys (suc k) b 0 next in
    omega arith)

abbrev pub cpu_at : (stream : ℕ) → Stream → ℕ → FleetCpu
cpu_at stream known cpu = record { stream = stream; cpu = cpu; known = known }

-- ---- one stream

pub stream_cpus : (stream : ℕ) (known : Stream) (keys : List ℕ) → IsStrictlySortedBy nat_cmp keys
    → ((cpu : ℕ) → (IsAmong keys cpu ↔ IsThere known cpu)) → AreCpusOfStream stream known
    (map (cpu_at stream known) keys)
stream_cpus stream known keys sorted there = record {
  ordered = ordered_map (λ (a b : ℕ). a < b) IsBefore (cpu_at stream known) (λ a b lt. inr (refl, lt)) keys
      (rising keys sorted);
  stream_is = λ at (k, is). let found = mapped_at (cpu_at stream known) keys k at is in
      sym (ap (λ (x : FleetCpu). x.stream) found.2);
  known_is = λ at (k, is). let found = mapped_at (cpu_at stream known) keys k at is in
      sym (ap (λ (x : FleetCpu). x.known) found.2);
  whole = λ cpu is. let s = (there cpu).1 is in (s.0, at_mapped (cpu_at stream known) keys s.0 cpu s.1);
}

-- ---- one stream more

abbrev ids : List (ℕ × Stream) → List ℕ
ids fleet = map (λ (e : ℕ × Stream). e.0) fleet

pub no_streams : AreCpusIn [] []
no_streams = record {
  ordered = tt;
  of_them = λ at s. absurd (none-some at s.1);
  whole = λ stream cpu known s there. absurd (none-some (stream, known) s.1);
}

-- each of these streams is before this one
abbrev AreBelow : List (ℕ × Stream) → ℕ → Type 0
AreBelow front stream = (k : ℕ) (entry : ℕ × Stream) → slice_get front k ≡ Some entry → entry.0 < stream

one_more : (front : List (ℕ × Stream)) (stream : ℕ) (known : Stream) (cpus more : List FleetCpu) → AreBelow front stream
    → AreCpusIn front cpus → AreCpusOfStream stream known more → AreCpusIn (front ++ (stream, known) ∷ [])
    (cpus ++ more)
one_more front stream known cpus more low p q = record {
  ordered = ordered_append IsBefore cpus more p.ordered q.ordered
      (λ k x at. before_each IsBefore x more (λ j y there.
      let s = p.of_them x (k, at) in
      let less = low s.0 (x.stream, x.known) s.1 in
      let is = q.stream_is y (j, there) in
      let lt : x.stream < y.stream = omega arith in inl lt));
  of_them = λ at s. ⊎_elim
      (λ front_at. let t = p.of_them at front_at in (
        t.0,
        get_in_front front ((stream, known) ∷ []) t.0
            (at.stream, at.known) t.1,
      ))
      (λ back. (
        length front + 0,
        get_behind front ((stream, known) ∷ []) 0
            ∙ ap (λ (s : ℕ). Some (s, known)) (sym (q.stream_is at back)) ∙ ap (λ (k : Stream). Some (at.stream, k))
            (sym (q.known_is at back)),
      ))
      (get_in_either cpus more s.0 at s.1);
  whole = λ s cpu k among there. ⊎_elim
      (λ (front_at : (j : ℕ) × (slice_get front j ≡ Some (s, k))).
      let t = p.whole s cpu k front_at there in (t.0, get_in_front cpus more t.0 (cpu_at s k cpu) t.1))
      (λ (here : (j : ℕ) × (slice_get ((stream, known) ∷ []) j ≡ Some (s, k))).
      let is : (stream, known) ≡ (s, k) = only (stream, known) here.0 (s, k) here.1 in
      let t = q.whole cpu (subst (λ (x : Stream). IsThere x cpu) (sym (ap (λ (e : ℕ × Stream). e.1) is)) there) in
      (length cpus + t.0, get_behind cpus more t.0 ∙ t.1 ∙ ap (λ (e : ℕ × Stream). Some (cpu_at e.0 e.1 cpu)) is))
      (get_in_either front ((stream, known) ∷ []) among.0 (s, k) among.1);
}

below_next : (fleet : List (ℕ × Stream)) → IsStrictlyIncreasing (ids fleet) → (n : ℕ) (entry : ℕ × Stream)
    → n < length fleet → entry ≡ get_or fleet n entry → AreBelow (take n fleet) entry.0
below_next fleet rising n entry within is k e at =
    let early = slice_get_within (take n fleet) k e at in
    let short : length (take n fleet) ≡ n = length-take-le n fleet (omega arith) in
    let here : slice_get fleet k ≡ Some e =
    subst (λ es. slice_get es k ≡ Some e) (take-append-drop n fleet)
    (get_in_front (take n fleet) (drop n fleet) k e at) in
    let there : slice_get fleet n ≡ Some entry = slice_get-get_or fleet n entry within ∙ ap (λ x. Some x) (sym is) in
    let first = at_mapped (λ (x : ℕ × Stream). x.0) fleet k e here in
    let second = at_mapped (λ (x : ℕ × Stream). x.0) fleet n entry there in
    let less = below_from_sorted (ids fleet) k n 0 (sorted_from_strictly_increasing (ids fleet) rising) (omega arith)
    (slice_get_within (ids fleet) n entry.0 second) in
    let a = get_or_from_slice_get (ids fleet) k e.0 0 first in
    let b = get_or_from_slice_get (ids fleet) n entry.0 0 second in
    omega arith

pub cpus_more : (fleet : List (ℕ × Stream)) (before : List (StreamId × Bor Stream)) (item : StreamId × Bor Stream)
    (cpus more new : List FleetCpu)
    → IsStrictlyIncreasing (ids fleet)
    → map entry_seen before ≡ take (length before) fleet
    → length before < length fleet → entry_seen item ≡ get_or fleet (length before) (entry_seen item)
    → AreCpusIn (map entry_seen before) cpus
    → AreCpusOfStream item.0.0 item.1.now more
    → new ≡ cpus ++ more
    → AreCpusIn (map entry_seen (before ++ item ∷ [])) new
cpus_more fleet before item cpus more new rising so_far within is old put e =
    let below = subst (λ (es : List (ℕ × Stream)). AreBelow es item.0.0) (sym so_far)
    (below_next fleet rising (length before) (entry_seen item) within is) in
    let all = one_more (map entry_seen before) item.0.0 item.1.now cpus more below old put in
    subst (AreCpusIn (map entry_seen (before ++ item ∷ []))) (sym e)
    (subst (λ (es : List (ℕ × Stream)). AreCpusIn es (cpus ++ more))
    (sym (map-append entry_seen before (item ∷ []))) all)

-- ---- all streams

-- nothing is there of a stream that isn't
none_known : (cpu : ℕ) → IsCpuKnown [] cpu → ⊥
none_known cpu (n, inl (r, has)) = absurd (none-some has.parcel has.at)
none_known cpu (n, inr misses) = absurd (none-some misses.parcel misses.at)

none_there : (cpu : ℕ) → IsThere (or_empty None) cpu → ⊥
none_there cpu (inl known) = none_known cpu known
none_there cpu (inr (inl given_up)) = none_known cpu given_up
none_there cpu (inr (inr (inl bound))) = omega arith
none_there cpu (inr (inr (inr end))) = cc

is_equal : (o : Ordering) → is_eq o ≡ true → o ≡ Equal
is_equal Less e = cc
is_equal Equal e = refl
is_equal Greater e = cc

pub all_streams : (fleet : List (ℕ × Stream)) (cpus : List FleetCpu) → IsStrictlyIncreasing (ids fleet)
    → AreCpusIn fleet cpus → AreCpusOfFleet fleet cpus
all_streams fleet cpus rising p = record {
  ordered = p.ordered;
  known_is = λ at s.
      let t = p.of_them at s in
      sym (ap or_empty (known_of_place fleet (sorted_from_strictly_increasing (ids fleet) rising) t.0 at.stream at.known
      t.1));
  whole = λ stream cpu there. by stream cpu (known_of fleet stream) refl there;
}
  where
    by : (stream cpu : ℕ) (o : Option Stream) → known_of fleet stream ≡ o → IsThere (or_empty o) cpu
        → IsAmong cpus (cpu_at stream (or_empty o) cpu)
    by stream cpu None e there = absurd (none_there cpu there)
    by stream cpu (Some known) e there =
        let place = place_from_lookup (is_at (nat_cmp stream)) fleet known e in
        let same : stream ≡ place.1 = exact_unsigned stream place.1 (is_equal (nat_cmp stream place.1) place.3) in
        p.whole stream cpu known
        (place.0, place.2 ∙ ap (λ (q : ℕ). Some (q, known)) (sym same)) there
