-- Lines in the order of time: moved about, and sorted by moment, stream, CPU and number.
use Rattle.std.proofs.Common.{◌≡◌, ◌⊎◌, inl, inr, ⊎_elim, ℕ, suc, ◌<◌, ◌≤◌, Bool, true, false, true≢false, eqb, ◌&&◌}
use Rattle.std.proofs.Common.{List, [], ◌∷◌, get_or, map, Option, Some, None, refl, sym, ap, ◌∙◌, subst, arith}
use Rattle.std.proofs.Common.{Ordering, Less, Equal, Greater}
use Rattle.std.specs.List.{slice_get, Contains, IsDistinct, AllByRecursion}
use Rattle.std.specs.List.Sorted.{IsPermutation, IsSortedBy, IsStrictlySortedBy}
use Rattle.std.specs.BTreeMap.{is_at}
use Rattle.std.specs.Ordering.{nat_cmp, is_lt, is_eq, ordering_then}
use Rattle.std.specs.Cmp.{nat_cmp_is}
use Rattle.std.proofs.lemmas.Bool.{cases_lt}
use Rattle.std.proofs.lemmas.Bool.Decides.{nat_tests}
use Rattle.std.proofs.lemmas.Map.Entries.{place_from_lookup}
use Rattle.std.proofs.lemmas.Map.Keys.{ge_from_not_lt, IsDistinct-IsPermutation, apart_from_distinct}
use Rattle.std.proofs.lemmas.Map.Lookups.{exact_unsigned}
use Rattle.std.proofs.lemmas.Option.{none-some, slice_get_within, get_or_from_slice_get, slice_get-get_or}
use Rattle.std.proofs.lemmas.List.Sorted.{IsPermutation-sym, Contains-permutation}
use Rattle.trace_model.specs.Record.{Record}
use Rattle.trace_model.specs.declared.numbers.Moment.{Moment}
use Rattle.time_merge.specs.Lines.{IsBeforeAll, AreOrdered}
use Rattle.time_merge.proofs.Pairs.{sorted_pairs, sorted_map}
use Rattle.stream_collector.specs.Stream.{Stream}
use Rattle.fleet_collector.specs.declared.listing.FleetLine.{FleetLine}
use Rattle.fleet_collector.specs.Fleet.{known_of, stream_at, empty_stream, or_empty}
use Rattle.fleet_collector.specs.Listing.{Line, line_for, IsBeforeAtOnce, IsBefore}
use Rattle.fleet_collector.specs.Lines.{line_seen, comes_before, IsAmong, AreLinesOf, IsShown, IsListingShown, HasIn}
use Rattle.fleet_collector.proofs.ByNumber.{shown_has}
use Rattle.fleet_collector.proofs.InTurn.{known_of_place}

-- ---- no two lines have the same stream, CPU and number

abbrev alike : Line → Line → Bool
alike a b = eqb a.stream b.stream && (eqb a.cpu b.cpu && eqb a.number b.number)

alike_flips : (a b : Line) → alike a b ≡ alike b a
alike_flips a b = grind (arith, nat_tests)

apart : (a b : Line) → IsBeforeAtOnce a b → alike a b ≡ false
apart a b before = ⊎_elim
    (λ (lt : a.stream < b.stream). grind (arith, nat_tests))
    (λ same. ⊎_elim
    (λ (lt : a.cpu < b.cpu). grind (arith, nat_tests))
    (λ (both : (a.cpu ≡ b.cpu) × (a.number < b.number)). let lt = both.1 in grind (arith, nat_tests))
    same.1)
    before

apart_behind : (x : Line) (xs : List Line) → IsBeforeAll IsBeforeAtOnce x xs → AllByRecursion
    (λ y. alike x y ≡ false) xs
apart_behind x [] h = tt
apart_behind x (y ∷ ys) h = (apart x y h.0, apart_behind x ys h.1)

all_apart : (xs : List Line) → AreOrdered IsBeforeAtOnce xs → IsDistinct alike xs
unfolding IsDistinct
all_apart [] h = tt
all_apart (x ∷ xs) h = (apart_behind x xs h.0, all_apart xs h.1)

-- neighbours differ, wherever the lines were moved
neighbours_differ : (xs ys : List Line) → AreOrdered IsBeforeAtOnce xs → IsPermutation xs ys
    → (k : ℕ) (a b : Line) → slice_get ys k ≡ Some a → slice_get ys (suc k) ≡ Some b → alike a b ≡ false
neighbours_differ xs ys ordered moved k a b at next =
    let within = slice_get_within ys (suc k) b next in
    let differ = apart_from_distinct alike ys k (suc k) a
    (IsDistinct-IsPermutation alike alike_flips xs ys moved (all_apart xs ordered)) (omega arith) within in
    let here : get_or ys k a ≡ a = get_or_from_slice_get ys k a a at in
    let there : get_or ys (suc k) a ≡ b = get_or_from_slice_get ys (suc k) b a next in
    subst (λ (x : Line). alike x b ≡ false) here (subst (λ (x : Line). alike (get_or ys k a) x ≡ false) there differ)

-- ---- sorted by moment, stream, CPU and number

-- if n isn't below m, it is above it, or the next numbers decide
not_below : (m n : ℕ) (o : Ordering) → is_lt (ordering_then (nat_cmp n m) o) ≡ false → (m < n) ⊎
    ((m ≡ n) × (is_lt o ≡ false))
not_below m n o h = ⊎_elim
    (λ (lt : m < n). inl lt)
    (λ (ge : n ≤ m). ⊎_elim
    (λ (lt : n < m). absurd (true≢false (ap (λ r. is_lt (ordering_then r o)) (nat_cmp_is n m Less lt) ∙ h)))
    (λ (le : m ≤ n). let e : m ≡ n = omega arith in
    inr (e, ap (λ r. is_lt (ordering_then r o)) (nat_cmp_is n m Equal (sym e)) ∙ h))
    (cases_lt n m))
    (cases_lt m n)

then_moves : (a b c d : Ordering)
    → ordering_then a (ordering_then b (ordering_then c d)) ≡ ordering_then (ordering_then (ordering_then a b) c) d
then_moves Less b c d = refl
then_moves Greater b c d = refl
then_moves Equal Less c d = refl
then_moves Equal Greater c d = refl
then_moves Equal Equal c d = refl

before_next : (a b : Line) → comes_before b a ≡ false → alike a b ≡ false → IsBefore a b
before_next a b h differ =
    let moments = nat_cmp b.moment a.moment in
    let streams = nat_cmp b.stream a.stream in
    let cpus = nat_cmp b.cpu a.cpu in
    let numbers = nat_cmp b.number a.number in
    ⊎_elim
    (λ (lt : a.moment < b.moment). inl lt)
    (λ (one : (a.moment ≡ b.moment) × (is_lt (ordering_then streams (ordering_then cpus numbers)) ≡ false)).
    inr (
      one.0,
      ⊎_elim
          (λ (lt : a.stream < b.stream). inl lt)
          (λ (two : (a.stream ≡ b.stream) × (is_lt (ordering_then cpus numbers) ≡ false)).
          inr (
            two.0,
            ⊎_elim
                (λ (lt : a.cpu < b.cpu). inl lt)
                (λ (three : (a.cpu ≡ b.cpu) × (is_lt numbers ≡ false)).
                let up : a.number ≤ b.number = ge_from_not_lt b.number a.number three.1 in
                inr (
                  three.0,
                  ⊎_elim
                      (λ (lt : a.number < b.number). lt)
                      (λ (down : b.number ≤ a.number).
                      let e : a.number ≡ b.number = omega arith in
                      absurd (true≢false (sym (same_all a b two.0 three.0 e) ∙ differ)))
                      (cases_lt a.number b.number),
                ))
                (not_below a.cpu b.cpu numbers two.1),
          ))
          (not_below a.stream b.stream (ordering_then cpus numbers) one.1),
    ))
    (not_below a.moment b.moment (ordering_then streams (ordering_then cpus numbers))
    (ap is_lt (then_moves moments streams cpus numbers) ∙ h))
  where
    same_all : (a b : Line) → a.stream ≡ b.stream → a.cpu ≡ b.cpu → a.number ≡ b.number → alike a b ≡ true
    same_all a b p q r = grind (arith, nat_tests)

-- ---- which stream has a record

is_equal : (o : Ordering) → is_eq o ≡ true → o ≡ Equal
is_equal Less e = cc
is_equal Equal e = refl
is_equal Greater e = cc

-- a stream that has a record is one of those that are there
has_in : (before : Option Moment) (fleet : List (ℕ × Stream)) (stream cpu number : ℕ) (r : Record)
    → IsShown before (stream_at fleet stream) cpu number r → HasIn before fleet stream cpu number r
has_in before fleet stream cpu number r h = at (known_of fleet stream) refl h
  where
    at : (o : Option Stream) → known_of fleet stream ≡ o → IsShown before (or_empty o) cpu number r
        → HasIn before fleet stream
        cpu number r
    at None e h =
        let has = (shown_has before empty_stream cpu number r h).has in absurd (none-some has.parcel has.at)
    at (Some known) e h =
        let place = place_from_lookup (is_at (nat_cmp stream)) fleet known e in
        let same : stream ≡ place.1 = exact_unsigned stream place.1 (is_equal (nat_cmp stream place.1) place.3) in
        record {
          index = place.0;
          known = known;
          at = place.2 ∙ ap (λ q. Some (q, known)) (sym same);
          has = h;
        }

-- and the other way round, if their ids rise
in_has : (before : Option Moment) (fleet : List (ℕ × Stream))
    → IsStrictlySortedBy nat_cmp (map (λ (e : ℕ × Stream). e.0) fleet)
    → (stream cpu number : ℕ) (r : Record) → HasIn before fleet stream cpu number r
    → IsShown before (stream_at fleet stream) cpu
    number r
in_has before fleet rising stream cpu number r h =
    let found = known_of_place fleet rising h.index stream h.known h.at in
    subst (λ (o : Option Stream). IsShown before (or_empty o) cpu number r) (sym found) h.has

-- ---- the listing

contains_at : (xs : List Line) (x : Line) → IsAmong xs x → Contains xs x
contains_at xs x s = (s.0, slice_get_within xs s.0 x s.1, get_or_from_slice_get xs s.0 x x s.1)

stands_at : (xs : List Line) (x : Line) → Contains xs x → IsAmong xs x
stands_at xs x (k, within, is) = (k, subst (λ (y : Line). slice_get xs k ≡ Some y) is (slice_get-get_or xs k x within))

stands_still : (xs ys : List Line) (x : Line) → IsPermutation xs ys → IsAmong xs x → IsAmong ys x
stands_still xs ys x moved s = stands_at ys x (Contains-permutation xs ys x moved (contains_at xs x s))

-- lines by stream, CPU and number, moved about and sorted by time
sorted_lines : (before : Option Moment) (fleet : List (ℕ × Stream)) (xs ys : List Line) → IsStrictlySortedBy nat_cmp
    (map (λ (e : ℕ × Stream). e.0) fleet)
    → AreLinesOf (HasIn before fleet) xs → IsPermutation xs ys → IsSortedBy comes_before ys
    → IsListingShown before fleet ys
sorted_lines before fleet xs ys rising lines moved sorted = record {
  ordered = λ k a b at next. before_next a b (sorted_pairs comes_before ys sorted k a b at next)
      (neighbours_differ xs ys lines.ordered moved k a b at next);
  of_them = λ k line at. in_has before fleet rising line.stream line.cpu line.number record
      { moment = line.moment; bytes = line.bytes }
      (lines.of_them line (stands_still ys xs line (IsPermutation-sym xs ys moved) (k, at)));
  whole = λ stream cpu number r h. stands_still xs ys (line_for stream cpu number r) moved
      (lines.whole stream cpu number r (has_in before fleet stream cpu number r h));
}

pub sorted_listing : (before : Option Moment) (fleet : List (ℕ × Stream)) (xs : List Line) (ys : List FleetLine)
    → IsStrictlySortedBy nat_cmp (map (λ (e : ℕ × Stream). e.0) fleet)
    → AreLinesOf (HasIn before fleet) xs → IsPermutation xs (map line_seen ys)
    → IsSortedBy (λ a b. comes_before (line_seen a) (line_seen b)) ys → IsListingShown before fleet (map line_seen ys)
sorted_listing before fleet xs ys rising lines moved sorted =
    sorted_lines before fleet xs (map line_seen ys) rising lines moved (sorted_map comes_before line_seen ys sorted)
