-- The lines of some CPUs' pages, merged, are the listing of the captures of all; and the runs of each CPU are those of
-- the numbers that these miss.
use Rattle.std.proofs.Common.{◌≡◌, ◌∙◌, ◌⊎◌, inl, inr, ⊎_elim, ℕ, zero, suc, ◌+◌, ◌<◌, ◌≤◌, Bool, true, false, List, []}
use Rattle.std.proofs.Common.{◌∷◌, ◌++◌, length, map, All, Some, refl, sym, ap, subst, arith, slice_index_or}
use Rattle.std.specs.Prelude.{◌==◌, if◌then◌else◌}
use Rattle.std.specs.List.{slice_get}
use Rattle.std.specs.List.Sorted.{IsSortedBy}
use Rattle.std.proofs.lemmas.Bool.{cases_lt}
use Rattle.std.proofs.lemmas.List.{length-map}
use Rattle.std.proofs.lemmas.List.Elements.{All-nil, All-cons}
use Rattle.std.proofs.lemmas.Option.{none-some}
use Rattle.trace_model.proofs.collections.Elements.{some_is, get_in_front, get_behind}
use Rattle.trace_model.specs.Record.{Record}
use Rattle.trace_model.specs.Parcel.{Parcel, IsPairOf, IsMissingOf}
use Rattle.trace_model.specs.Collection.{Has}
use Rattle.trace_model.specs.Listing.{Line as ModelLine, IsListing}
use Rattle.collector.specs.Listed.{AreRecordsOf}
use Rattle.collector.specs.Runs.{AreMissingRuns}
use Rattle.collector.proofs.RunLists.{same_runs}
use Rattle.time_merge.specs.EachCpu.{lines_of_each}
use Rattle.time_merge.specs.LineOrder.{comes_before, line_of}
use Rattle.time_merge.specs.Merging.{merged_lists, goes_first}
use Rattle.itertools.specs.List.{merge_by}
use Rattle.time_merge.proofs.EachCpu.{each_listing}
use Rattle.capture.specs.Pages.{Page, parcels_from}
use Rattle.capture.specs.Rings.{parcels_of_captures}
use Rattle.capture.proofs.Together.{cpu_of, cpus_above}
use Rattle.page_lines.specs.Sources.{lines_from, NeverFall}
use Rattle.page_lines.specs.Spread.{OwnPages, RiseBelow, spread, own_lines, NoneFalls}
use Rattle.page_lines.specs.Tallies.{entries_from, runs_from}
use Rattle.page_lines.proofs.Missed.{runs_of_all, no_runs}
use Rattle.page_lines.proofs.Numbered.{records_are}
use Rattle.page_lines.proofs.Whole.{lines_sorted}

-- ---- the parcels of one CPU among those of all

-- a parcel among these of which this holds
record IsOne (holds : Parcel → Type 0) (ps : List Parcel) : Type 0 where
  index : ℕ
  parcel : Parcel
  at : slice_get ps index ≡ Some parcel
  is : holds parcel

one_either : (holds : Parcel → Type 0) (xs ys : List Parcel) → IsOne holds (xs ++ ys)
    → IsOne holds xs ⊎ IsOne holds ys
one_either holds xs ys one = by_index xs one.index one.at
  where
    by_index : (zs : List Parcel) (k : ℕ) → slice_get (zs ++ ys) k ≡ Some one.parcel
        → IsOne holds zs ⊎ IsOne holds ys
    by_index [] k at = inr record { index = k; parcel = one.parcel; at = at; is = one.is }
    by_index (z ∷ zs) zero at = inl record { index = 0; parcel = one.parcel; at = at; is = one.is }
    by_index (z ∷ zs) (suc k) at = ⊎_elim
        (λ (o : IsOne holds zs). inl record { index = suc o.index; parcel = o.parcel; at = o.at; is = o.is })
        (λ (o : IsOne holds ys). inr o)
        (by_index zs k at)

module _ (holds : Parcel → Type 0) where
  own_one : (cpu k n : ℕ) (captures : List (List Page)) (pages : List Page) → cpu + k ≡ n
      → ((p : Parcel) → holds p → p.cpu ≡ n)
      → slice_get captures k ≡ Some pages
      → IsOne holds (parcels_of_captures cpu captures) → IsOne holds (parcels_from n 0 0 pages)
  own_one cpu k n [] pages same of_cpu at one = absurd (none-some pages at)
  own_one cpu zero n (own ∷ captures) pages same of_cpu at one =
      let here : cpu ≡ n = omega (arith, same) in ⊎_elim
      (λ (o : IsOne holds (parcels_from cpu 0 0 own)).
      subst (λ (ps : List Page). IsOne holds (parcels_from n 0 0 ps)) (some_is own pages at)
      (subst (λ (c : ℕ). IsOne holds (parcels_from c 0 0 own)) here o))
      (λ (o : IsOne holds (parcels_of_captures (suc cpu) captures)).
      let high = cpus_above (suc cpu) captures o.index o.parcel o.at in
      let is = of_cpu o.parcel o.is in absurd (omega (arith, high, is, here)))
      (one_either holds (parcels_from cpu 0 0 own) (parcels_of_captures (suc cpu) captures) one)
  own_one cpu (suc k) n (own ∷ captures) pages same of_cpu at one = ⊎_elim
      (λ (o : IsOne holds (parcels_from cpu 0 0 own)).
      let low = cpu_of cpu 0 0 own o.index o.parcel o.at in
      let is = of_cpu o.parcel o.is in absurd (omega (arith, low, is, same)))
      (λ (o : IsOne holds (parcels_of_captures (suc cpu) captures)).
      own_one (suc cpu) k n captures pages (omega (arith, same)) of_cpu at o)
      (one_either holds (parcels_from cpu 0 0 own) (parcels_of_captures (suc cpu) captures) one)

  one_of_all : (cpu k n : ℕ) (captures : List (List Page)) (pages : List Page) → cpu + k ≡ n
      → slice_get captures k ≡ Some pages
      → IsOne holds (parcels_from n 0 0 pages) → IsOne holds (parcels_of_captures cpu captures)
  one_of_all cpu k n [] pages same at one = absurd (none-some pages at)
  one_of_all cpu zero n (own ∷ captures) pages same at one =
      let here : n ≡ cpu = omega (arith, same) in
      let o = subst (λ (ps : List Page). IsOne holds (parcels_from cpu 0 0 ps)) (sym (some_is own pages at))
      (subst (λ (c : ℕ). IsOne holds (parcels_from c 0 0 pages)) here one) in
      record {
        index = o.index;
        parcel = o.parcel;
        at = get_in_front (parcels_from cpu 0 0 own) (parcels_of_captures (suc cpu) captures) o.index o.parcel o.at;
        is = o.is;
      }
  one_of_all cpu (suc k) n (own ∷ captures) pages same at one =
      let o = one_of_all (suc cpu) k n captures pages (omega (arith, same)) at one in
      record {
        index = length (parcels_from cpu 0 0 own) + o.index;
        parcel = o.parcel;
        at = get_behind (parcels_from cpu 0 0 own) (parcels_of_captures (suc cpu) captures) o.index ∙ o.at;
        is = o.is;
      }

  -- its CPU is one of those there are captures of
  one_below : (cpu n : ℕ) (captures : List (List Page)) → ((p : Parcel) → holds p → p.cpu ≡ n)
      → IsOne holds (parcels_of_captures cpu captures) → n < cpu + length captures
  one_below cpu n [] of_cpu one = absurd (none-some one.parcel one.at)
  one_below cpu n (own ∷ captures) of_cpu one = ⊎_elim
      (λ (o : IsOne holds (parcels_from cpu 0 0 own)).
      let low = cpu_of cpu 0 0 own o.index o.parcel o.at in
      let is = of_cpu o.parcel o.is in omega (arith, low, is))
      (λ (o : IsOne holds (parcels_of_captures (suc cpu) captures)).
      let more = one_below (suc cpu) n captures of_cpu o in omega (arith, more))
      (one_either holds (parcels_from cpu 0 0 own) (parcels_of_captures (suc cpu) captures) one)

-- ---- records

has_own : (cpu n : ℕ) (r : Record) (captures : List (List Page)) (pages : List Page)
    → slice_get captures cpu ≡ Some pages → Has (parcels_of_captures 0 captures) cpu n r
    → Has (parcels_from cpu 0 0 pages) cpu n r
has_own cpu n r captures pages at has =
    let o = own_one (λ p. IsPairOf p cpu n r) 0 cpu cpu captures pages (omega arith) (λ p pair. sym pair.cpu_is) at
    record { index = has.index; parcel = has.parcel; at = has.at; is = has.pair } in
    record { index = o.index; parcel = o.parcel; at = o.at; pair = o.is }

has_all : (cpu n : ℕ) (r : Record) (captures : List (List Page)) (pages : List Page)
    → slice_get captures cpu ≡ Some pages → Has (parcels_from cpu 0 0 pages) cpu n r
    → Has (parcels_of_captures 0 captures) cpu n r
has_all cpu n r captures pages at has =
    let o = one_of_all (λ p. IsPairOf p cpu n r) 0 cpu cpu captures pages (omega arith) at
    record { index = has.index; parcel = has.parcel; at = has.at; is = has.pair } in
    record { index = o.index; parcel = o.parcel; at = o.at; pair = o.is }

has_below : (cpu n : ℕ) (r : Record) (captures : List (List Page)) → Has (parcels_of_captures 0 captures) cpu n r
    → cpu < length captures
has_below cpu n r captures has =
    let low = one_below (λ p. IsPairOf p cpu n r) 0 cpu captures (λ p pair. sym pair.cpu_is)
    record { index = has.index; parcel = has.parcel; at = has.at; is = has.pair } in omega (arith, low)

records_of_all : (captures : List (List Page)) (cpu : ℕ) (list : List (ℕ × Record))
    → slice_get (map (entries_from 0) captures) cpu ≡ Some list
    → AreRecordsOf (parcels_of_captures 0 captures) cpu list
records_of_all captures cpu list at =
    let (pages, own, same) = unmapped captures cpu list at in
    let are = records_are cpu 0 0 pages in
    subst (λ (l : List (ℕ × Record)). AreRecordsOf (parcels_of_captures 0 captures) cpu l) same
    record {
      rising = are.rising;
      of_them = λ k a there. has_all cpu a.0 a.1 captures pages own (are.of_them k a there);
      whole = λ n r has. are.whole n r (has_own cpu n r captures pages own has);
    }
  where
    unmapped : (cs : List (List Page)) (k : ℕ) (l : List (ℕ × Record))
        → slice_get (map (entries_from 0) cs) k ≡ Some l
        → (pages : List Page) × (slice_get cs k ≡ Some pages) × (entries_from 0 pages ≡ l)
    unmapped [] k l there = absurd (none-some l there)
    unmapped (pages ∷ cs) zero l there = (pages, refl, some_is (entries_from 0 pages) l there)
    unmapped (pages ∷ cs) (suc k) l there = unmapped cs k l there

-- ---- the CPUs that have pages

is_cpu : (a b : ℕ) → (a == b) ≡ true → a ≡ b
is_cpu a b same = search arith

other_cpu : (a b : ℕ) → (a == b) ≡ false → (a ≡ b → ⊥)
other_cpu a b other = search arith

merged_same : (cpu count end : ℕ) (owns : List OwnPages) → cpu + count ≡ end → RiseBelow cpu end owns
    → merged_lists (lines_of_each cpu (map (entries_from 0) (spread cpu count owns)))
    ≡ merged_lists (map own_lines owns)
merged_same cpu zero end [] same rise = refl
merged_same cpu zero end (own ∷ owns) same (low, high, rise) = absurd (omega (arith, low, high, same))
merged_same cpu (suc count) end [] same rise = merged_same (suc cpu) count end [] (omega (arith, same)) tt
merged_same cpu (suc count) end (own ∷ owns) same (low, high, rise) =
    by_cpu (own.cpu == cpu) refl
    (λ (is : own.cpu ≡ cpu). merged_same (suc cpu) count end owns (omega (arith, same))
    (subst (λ (n : ℕ). RiseBelow (suc n) end owns) is rise))
    (λ (above : suc cpu ≤ own.cpu).
    merged_same (suc cpu) count end (own ∷ owns) (omega (arith, same)) (above, high, rise))
  where
    by_cpu : (b : Bool) → (own.cpu == cpu) ≡ b
        → (own.cpu ≡ cpu → merged_lists (lines_of_each (suc cpu) (map (entries_from 0) (spread (suc cpu) count owns)))
        ≡ merged_lists (map own_lines owns))
        → (suc cpu ≤ own.cpu
        → merged_lists (lines_of_each (suc cpu) (map (entries_from 0) (spread (suc cpu) count (own ∷ owns))))
        ≡ merged_lists (map own_lines (own ∷ owns)))
        → merged_lists (lines_of_each cpu (map (entries_from 0)
        (if b then own.pages ∷ spread (suc cpu) count owns else [] ∷ spread (suc cpu) count (own ∷ owns))))
        ≡ merged_lists (map own_lines (own ∷ owns))
    by_cpu true here others all =
        let is : own.cpu ≡ cpu = is_cpu own.cpu cpu here in
        ap (λ (rest : List ModelLine). merge_by goes_first (map (line_of cpu) (entries_from 0 own.pages)) rest)
        (others is)
        ∙ ap (λ (c : ℕ). merge_by goes_first (lines_from c 0 own.pages) (merged_lists (map own_lines owns))) (sym is)
    by_cpu false other others all =
        let not = other_cpu own.cpu cpu other in
        all (⊎_elim (λ (lt : cpu < own.cpu). lt)
        (λ (le : own.cpu ≤ cpu). absurd (not (omega (arith, le, low)))) (cases_lt cpu own.cpu))

own_sorted : (cpu : ℕ) (pages : List Page) → NeverFall 0 (lines_from cpu 0 pages)
    → IsSortedBy comes_before (map (line_of cpu) (entries_from 0 pages))
own_sorted cpu pages up =
    lines_sorted (parcels_from cpu 0 0 pages) cpu (entries_from 0 pages) (records_are cpu 0 0 pages) up

all_sorted : (cpu count : ℕ) (owns : List OwnPages) → NoneFalls owns
    → All (IsSortedBy comes_before) (lines_of_each cpu (map (entries_from 0) (spread cpu count owns)))
all_sorted cpu zero owns none = All-nil (IsSortedBy comes_before)
all_sorted cpu (suc count) [] none =
    All-cons (IsSortedBy comes_before) [] _ (own_sorted cpu [] tt) (all_sorted (suc cpu) count [] none)
all_sorted cpu (suc count) (own ∷ owns) none =
    by_cpu (own.cpu == cpu) refl (all_sorted (suc cpu) count owns none.1) (all_sorted (suc cpu) count (own ∷ owns) none)
  where
    by_cpu : (b : Bool) → (own.cpu == cpu) ≡ b
        → All (IsSortedBy comes_before)
        (lines_of_each (suc cpu) (map (entries_from 0) (spread (suc cpu) count owns)))
        → All (IsSortedBy comes_before)
        (lines_of_each (suc cpu) (map (entries_from 0) (spread (suc cpu) count (own ∷ owns))))
        → All (IsSortedBy comes_before) (lines_of_each cpu (map (entries_from 0)
        (if b then own.pages ∷ spread (suc cpu) count owns else [] ∷ spread (suc cpu) count (own ∷ owns))))
    by_cpu true here others all =
        let is : own.cpu ≡ cpu = is_cpu own.cpu cpu here in
        All-cons (IsSortedBy comes_before) _ _
        (own_sorted cpu own.pages (subst (λ (c : ℕ). NeverFall 0 (lines_from c 0 own.pages)) is none.0)) others
    by_cpu false other others all = All-cons (IsSortedBy comes_before) [] _ (own_sorted cpu [] tt) all

pub lines_listed : (count : ℕ) (owns : List OwnPages) → RiseBelow 0 count owns → NoneFalls owns
    → IsListing (parcels_of_captures 0 (spread 0 count owns)) (merged_lists (map own_lines owns))
lines_listed count owns rise none =
    let captures = spread 0 count owns in
    subst (IsListing (parcels_of_captures 0 captures)) (merged_same 0 count count owns (omega arith) rise)
    (each_listing (parcels_of_captures 0 captures) (map (entries_from 0) captures)
    (records_of_all captures)
    (λ cpu n r has. let low = has_below cpu n r captures has in
    omega (arith, low, length-map captures (entries_from 0)))
    (all_sorted 0 count owns none))

-- ---- runs

runs_at : (captures : List (List Page)) (cpu : ℕ)
    → ((pages : List Page) × (slice_get captures cpu ≡ Some pages)
    × (slice_index_or (map (runs_from 0 0) captures) cpu [] ≡ runs_from 0 0 pages))
    ⊎ ((length captures ≤ cpu) × (slice_index_or (map (runs_from 0 0) captures) cpu [] ≡ []))
runs_at [] cpu = inr (omega arith, refl)
runs_at (pages ∷ captures) zero = inl (pages, refl, refl)
runs_at (pages ∷ captures) (suc cpu) = ⊎_elim
    (λ found. inl found) (λ (past, none). inr (omega (arith, past), none)) (runs_at captures cpu)

pub runs_listed : (captures : List (List Page)) (cpu : ℕ)
    → AreMissingRuns (parcels_of_captures 0 captures) cpu (slice_index_or (map (runs_from 0 0) captures) cpu [])
runs_listed captures cpu = ⊎_elim
    (λ (pages, own, same).
    subst (λ (runs : List (ℕ × ℕ)). AreMissingRuns (parcels_of_captures 0 captures) cpu runs) (sym same)
    (same_runs (runs_from 0 0 pages)
    (λ n miss.
    let o = one_of_all (λ p. IsMissingOf p cpu n) 0 cpu cpu captures pages (omega arith) own
    record { index = miss.index; parcel = miss.parcel; at = miss.at; is = miss.missing } in
    record { index = o.index; parcel = o.parcel; at = o.at; missing = o.is })
    (λ n miss.
    let o = own_one (λ p. IsMissingOf p cpu n) 0 cpu cpu captures pages (omega arith) (λ p m. sym m.cpu_is) own
    record { index = miss.index; parcel = miss.parcel; at = miss.at; is = miss.missing } in
    record { index = o.index; parcel = o.parcel; at = o.at; missing = o.is })
    (runs_of_all cpu 0 pages)))
    (λ (past, none).
    subst (λ (runs : List (ℕ × ℕ)). AreMissingRuns (parcels_of_captures 0 captures) cpu runs) (sym none)
    (same_runs [] (λ n h. absurd h)
    (λ n miss.
    let low = one_below (λ p. IsMissingOf p cpu n) 0 cpu captures (λ p m. sym m.cpu_is)
    record { index = miss.index; parcel = miss.parcel; at = miss.at; is = miss.missing } in
    absurd (omega (arith, low, past))) no_runs))
    (runs_at captures cpu)
