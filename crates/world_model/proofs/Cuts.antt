-- The pages that a reader took from a ring part what the ring's frames committed, and what is missing before one
-- was lost between it and the one before.
use Rattle.std.proofs.Common.{◌≡◌, ◌≢◌, ℕ, zero, suc, ◌+◌, ◌-◌, ◌<◌, ◌≤◌, List, [], ◌∷◌, length, get_or, map, Some}
use Rattle.std.proofs.Common.{refl, sym, ap, ◌∙◌, subst, ⊎_elim, arith}
use Rattle.std.specs.Prelude.{Contains, ◌↔◌}
use Rattle.std.specs.List.{slice_get}
use Rattle.std.proofs.lemmas.Option.{none-some, slice_get_within, slice_get_cases}
use Rattle.std.proofs.lemmas.List.{length-map}
use mathlib.Core.Logic.{dite}
use native.Mathlib.Decide.{dec_le, ℕ_discrete}
use Rattle.trace_model.specs.Record.{Record}
use Rattle.trace_model.specs.History.{HistoryEvent, Reservation, reserved_records, as_record, committed_records}
use Rattle.trace_model.specs.Packing.{opens_of, cut_from, first_of_fill}
use Rattle.trace_model.specs.Fitting.{IsRising}
use Rattle.trace_model.specs.Partition.{Piece, IsPartition, covered_count, first_from, first_of}
use Rattle.trace_model.specs.Parcel.{Parcel, IsMissingOf}
use Rattle.trace_model.specs.Collection.{Has}
use Rattle.trace_model.specs.Ring.{PageRecords, TakenFill, Core, window_of}
use Rattle.trace_model.specs.Window.{RingEvent, first_window, history_events_of}
use Rattle.trace_model.proofs.collections.Elements.{some_is}
use Rattle.trace_model.proofs.packing.FillFirsts.{first_below, first_rises_to}
use Rattle.trace_model.proofs.packing.FillOfNumber.{LiesIn, lies_in, ends_before}
use Rattle.trace_model.proofs.collections.FirstNumbers.{own_records, own_or_skipped}
use Rattle.ring_model.specs.KeptPartition.{piece_of, pieces_of}
use Rattle.ring_model.specs.Reached.{IsReached}
use Rattle.ring_model.specs.RingKept.{IsRingKept}
use Rattle.ring_model.specs.RunsAsEvents.{fills_taken, fills_lost, numbers_of, AreEventsOfRun}
use Rattle.ring_model.proofs.partition.RingsKept.{ring_start, reached_kept, taken_partition}
use Rattle.ring_model.proofs.contents.PackedRuns.{runs_packed}
use Rattle.ring_model.proofs.contents.TakenHoldRecords.{taken_hold}
use Rattle.ring_model.proofs.histories.WindowRuns.{passed_by, lost_closed}
use Rattle.world_model.specs.World.{parcel_of}
use Rattle.world_model.specs.GenuineWorlds.{pieces_in, IsWholeFill, StandsIn, IsOverwrittenBefore, AreParcelsOfRing}
use Rattle.world_model.specs.GenuineWorlds.{IsOneOf, IsExact}
use Rattle.world_model.specs.RunEvents.{AreEventsOfSteps}
use Rattle.world_model.proofs.RunEvents.{run_events, run_reports}
use Rattle.world_model.proofs.Lookups.{element_at, contains_at, get_map, get_from_map}

-- ---- first numbers

-- the first piece has before it what it skips
first_at_zero : (number : ℕ) (pieces : List Piece) (p : Piece) (first : ℕ) → slice_get pieces 0 ≡ Some p
    → first_from number pieces 0 ≡ Some first → first ≡ number + p.skipped
first_at_zero number [] p first at is = absurd (none-some p at)
first_at_zero number (s ∷ pieces) p first at is =
    sym (some_is (number + s.skipped) first is) ∙ ap (λ (q : Piece). number + q.skipped) (some_is s p at)

-- any other has what the one before it covers, too
first_next : (number : ℕ) (pieces : List Piece) (k : ℕ) (p q : Piece) (a b : ℕ) → slice_get pieces k ≡ Some p
    → slice_get pieces (suc k) ≡ Some q
    → first_from number pieces k ≡ Some a → first_from number pieces (suc k) ≡ Some b
    → b ≡ a + length p.records + q.skipped
first_next number [] k p q a b at_p at_q is_a is_b = absurd (none-some p at_p)
first_next number (s ∷ []) zero p q a b at_p at_q is_a is_b = absurd (none-some q at_q)
first_next number (s ∷ w ∷ pieces) zero p q a b at_p at_q is_a is_b =
    let first = some_is (number + s.skipped) a is_a in
    let next = some_is (number + covered_count s + w.skipped) b is_b in
    let size = ap (λ (x : Piece). length x.records) (some_is s p at_p) in
    let skips = ap (λ (x : Piece). x.skipped) (some_is w q at_q) in omega arith
first_next number (s ∷ pieces) (suc k) p q a b at_p at_q is_a is_b =
    first_next (number + covered_count s) pieces k p q a b at_p at_q is_a is_b

one_before : {A : Type 0} (xs : List A) (k : ℕ) (y : A) → slice_get xs (suc k) ≡ Some y
    → (x : A) × (slice_get xs k ≡ Some x)
one_before [] k y at = absurd (none-some y at)
one_before (x ∷ xs) zero y at = (x, refl)
one_before (x ∷ xs) (suc k) y at = one_before xs k y at

-- ---- a ring

module _ (n size start : ℕ) (c : Core) (r : IsReached n size start c) where
  pub kept : IsRingKept n size start c
  kept = reached_kept n size start c r

  abbrev taken : List TakenFill
  taken = c.reader.taken

  abbrev cuts : List ℕ
  cuts = opens_of c.history

  abbrev xs : List Reservation
  xs = reserved_records c.history

  rising : IsRising 0 cuts (length xs)
  rising = kept.contents.rising

  -- what is known of a page that was taken, which isn't of the last fill
  record IsPage (k : ℕ) (t : TakenFill) : Type 0 where
    from_start : start ≤ t.fill
    below : t.fill < c.head
    within : t.fill - start < length cuts
    first_is : t.held.first ≡ get_or (0 ∷ cuts) (t.fill - start) 0
    size_is : length (map as_record t.held.records) ≡ length (get_or (cut_from 0 cuts xs) (t.fill - start) [])
    some : 0 < length (map as_record t.held.records)
    piece_at : slice_get (pieces_of taken) k ≡ Some (piece_of t)
    first_at : first_of (pieces_of taken) k ≡ Some t.held.first

  some_length : (l : List Reservation) → l ≢ [] → 0 < length (map as_record l)
  some_length [] some = absurd (some refl)
  some_length (x ∷ l) some = omega arith

  page : (k : ℕ) (t : TakenFill) → slice_get taken k ≡ Some t → IsPage k t
  page k t at =
      let fill = kept.partition.fills.each k t at in
      let from = fill.from_start in
      let below = kept.partition.below k t at in
      let unread = kept.links.head_le in let behind = kept.links.done_lt in let count = kept.contents.begun in record {
        from_start = from;
        below = below;
        within = omega arith;
        first_is = ap (λ (h : PageRecords). h.first) fill.held;
        size_is = length-map t.held.records as_record ∙ ap (λ (h : PageRecords). length h.records) fill.held;
        some = some_length t.held.records (taken_hold n size start c kept k t at);
        piece_at = get_map piece_of taken k t at;
        first_at = kept.partition.firsts k t at;
      }

  -- no number is one of a page's own and one that another skips
  apart : (j k : ℕ) (u t : TakenFill) (number : ℕ) → slice_get taken j ≡ Some u → slice_get taken k ≡ Some t
      → u.held.first ≤ number → number < u.held.first + length (map as_record u.held.records)
      → t.held.first ≤ number + t.skipped → number < t.held.first → ⊥
  apart j k u t number at_u at_t low high least below = let a = page j u at_u in let b = page k t at_t in
      own_or_skipped 0 (pieces_of taken) j k (piece_of u) (piece_of t) u.held.first t.held.first number a.piece_at
      b.piece_at a.first_at b.first_at low high least below

  pub events : List RingEvent
  events = (run_events n size start r.from c r.exchanges (ring_start n size start r.from r.may_start r.is_new) r.run).0

  pub run_of : AreEventsOfSteps n size r.from r.exchanges events c
  unfolding events
  run_of = (run_events n size start r.from c r.exchanges (ring_start n size start r.from r.may_start r.is_new) r.run).1

  pub reported : AreEventsOfRun n start c events
  reported = run_reports n size start r.from c r.exchanges events r.is_new run_of

  -- a fill that was taken has its page
  page_of : (f : ℕ) → Contains (fills_taken start events) f
      → (k : ℕ) × (t : TakenFill) × (slice_get taken k ≡ Some t) × (t.fill ≡ f)
  page_of f has =
      let (k, at) =
      element_at (numbers_of taken) f (subst (λ (l : List ℕ). Contains l f) reported.took has) in
      let (t, there, is) = get_from_map (λ (t : TakenFill). t.fill) taken k f at in (k, t, there, is)

  fill_of_page : (k : ℕ) (t : TakenFill) → slice_get taken k ≡ Some t → Contains (fills_taken start events) t.fill
  fill_of_page k t at =
      subst (λ (l : List ℕ). Contains l t.fill) (sym reported.took)
      (contains_at (numbers_of taken) k t.fill (get_map (λ (t : TakenFill). t.fill) taken k t at))

  first_at_fill : (i : ℕ) → first_of_fill c.history start (start + i) ≡ get_or (0 ∷ cuts) i 0
  first_at_fill i = ap (λ (m : ℕ). get_or (0 ∷ cuts) m 0) (let e : start + i - start ≡ i = omega arith in e)

  first_behind_fill : (i : ℕ) → first_of_fill c.history start (suc (start + i)) ≡ get_or (0 ∷ cuts) (suc i) 0
  first_behind_fill i =
      ap (λ (m : ℕ). get_or (0 ∷ cuts) m 0) (let e : suc (start + i) - start ≡ suc i = omega arith in e)

  rises : (i j : ℕ) → i ≤ j → j ≤ length cuts → get_or (0 ∷ cuts) i 0 ≤ get_or (0 ∷ cuts) j 0
  rises i j le high = let rise = first_rises_to cuts (length xs) i (j - i) (omega arith) rising in
      let e = ap (λ (m : ℕ). get_or (0 ∷ cuts) m 0) (let s : i + (j - i) ≡ j = omega arith in s) in omega arith

  -- ---- what is missing was lost

  module _ (k : ℕ) (t : TakenFill) (at : slice_get taken k ≡ Some t) (number : ℕ)
      (low : t.held.first ≤ number + t.skipped) (high : number < t.held.first) where
    p : IsPage k t
    p = page k t at

    lies : LiesIn cuts xs 0 number
    lies = let first = p.first_is in
        let within = p.within in
        let all = first_below 0 cuts (length xs) (t.fill - start) (omega arith) rising in
        lies_in cuts xs number (length cuts) 0 (omega arith) rising (omega arith) (omega arith)

    -- its place in the fills
    abbrev j : ℕ
    j = lies.fill

    earlier : j < t.fill - start
    earlier = dite (dec_le (suc j) (t.fill - start)) (λ less. less)
        (λ more. let first = p.first_is in
        let begins = lies.first_le in
        let le = lies.fill_le in
        let rise = rises (t.fill - start) j (omega arith) le in
        absurd (let no : ⊥ = omega arith in no))

    stands : StandsIn c.history start (start + j) number
    stands = let within = p.within in let less = earlier in let begins = lies.first_le in let ends = lies.number_lt in
        let next = ends_before cuts xs j (suc j) (omega arith) (omega arith) rising in
        let a = first_at_fill j in let b = first_behind_fill j in (omega arith, omega arith)

    not_taken : Contains (fills_taken start events) (start + j) → ⊥
    not_taken has = let (i, u, at_u, is) = page_of (start + j) has in let q = page i u at_u in
        let here : u.fill - start ≡ j = omega arith in
        let begins = lies.first_le in let ends = lies.number_lt in let first = q.first_is in let size = q.size_is in
        let e = ap (λ (m : ℕ). get_or (0 ∷ cuts) m 0) here in
        let e' = ap (λ (m : ℕ). length (get_or (cut_from 0 cuts xs) m [])) here in
        apart i k u t number at_u at (omega arith) (omega arith) low high

    lost : Contains (fills_lost start events) (start + j)
    lost = let less = earlier in let below = p.below in
        ⊎_elim (λ has. absurd (not_taken has)) (λ has. has)
        (passed_by n [] (first_window start) (window_of c) events (start + j) reported.window (omega arith)
        (omega arith))

    behind : (f : ℕ) → Contains (fills_taken start events) f → f < t.fill → f < start + j
    behind f has before =
        dite (dec_le (suc f) (start + j)) (λ less. less) (λ more. absurd (by_page (page_of f has) (omega arith)))
      where
        by_page : (i : ℕ) × (u : TakenFill) × (slice_get taken i ≡ Some u) × (u.fill ≡ f) → start + j ≤ f → ⊥
        by_page (i, u, at_u, is) le = let q = page i u at_u in let within = p.within in
            let first = q.first_is in let size = q.size_is in let some = q.some in let own = p.first_is in
            let begins = lies.first_le in let ends = lies.number_lt in
            let low_u = q.from_start in
            dite (dec_le u.held.first number)
            (λ yes. dite (ℕ_discrete j (u.fill - start))
            (λ here. let e = ap (λ (m : ℕ). get_or (0 ∷ cuts) m 0) here in
            let e' = ap (λ (m : ℕ). length (get_or (cut_from 0 cuts xs) m [])) here in
            apart i k u t number at_u at yes (omega arith) low high)
            (λ other. let next = ends_before cuts xs j (u.fill - start) (omega arith) (omega arith) rising in
            omega arith))
            (λ no. let next =
            ends_before cuts xs (u.fill - start) (t.fill - start) (omega arith) (omega arith) rising in
            apart i k u t u.held.first at_u at (omega arith) (omega arith) (omega arith) (omega arith))

    stands_by_events : StandsIn (history_events_of events) start (start + j) number
    stands_by_events =
        subst (λ (h : List HistoryEvent). StandsIn h start (start + j) number) (sym reported.history_events) stands

    overwritten : IsOverwrittenBefore start events t.fill number
    overwritten =
        record {
          lost = start + j;
          was_lost = lost;
          stands = stands_by_events;
          before = let less = earlier in omega arith;
          after_taken = behind;
        }

  -- ---- what was lost is missing

  module _ (t : TakenFill) (number : ℕ) (o : IsOverwrittenBefore start events t.fill number) where
    lost_stands : StandsIn c.history start o.lost number
    lost_stands = subst (λ (h : List HistoryEvent). StandsIn h start o.lost number) reported.history_events o.stands

    from_start : start ≤ o.lost
    from_start = (lost_closed n [] (first_window start) (window_of c) events o.lost reported.window o.was_lost).0

    is_high : (k : ℕ) → slice_get taken k ≡ Some t → number < t.held.first
    is_high k at = let p = page k t at in
        let first = p.first_is in
        let within = p.within in
        let from = from_start in
        let before = o.before in
        let ends = lost_stands.1 in
        let rise = rises (suc o.lost - start) (t.fill - start) (omega arith) (omega arith) in omega arith

    is_low : (k : ℕ) → slice_get taken k ≡ Some t → t.held.first ≤ number + t.skipped
    is_low zero at = let p = page zero t at in
        let first = first_at_zero 0 (pieces_of taken) (piece_of t) t.held.first p.piece_at p.first_at in
        omega arith
    is_low (suc k) at = let (u, at_u) = one_before taken k t at in let p = page (suc k) t at in let q = page k u at_u in
        let next =
        first_next 0 (pieces_of taken) k (piece_of u) (piece_of t) u.held.first t.held.first q.piece_at p.piece_at
        q.first_at p.first_at in
        let less = kept.partition.fills.rising k (suc k) u t (omega arith) at_u at in
        let behind = o.after_taken u.fill (fill_of_page k u at_u) less in
        let from = from_start in let before = o.before in let within = p.within in let begins = lost_stands.0 in
        let low_u = q.from_start in let first = q.first_is in let size = q.size_is in
        let ends = ends_before cuts xs (u.fill - start) (o.lost - start) (omega arith) (omega arith) rising in
        omega arith

  -- ---- the records of a fill

  own_stands : (k : ℕ) (t : TakenFill) (number : ℕ) → slice_get taken k ≡ Some t → t.held.first ≤ number
      → number < t.held.first + length (map as_record t.held.records) → StandsIn c.history start t.fill number
  own_stands k t number at low high = let p = page k t at in
      let first = p.first_is in
      let size = p.size_is in
      let within = p.within in
      let from = p.from_start in
      let next = ends_before cuts xs (t.fill - start) (suc (t.fill - start)) (omega arith) (omega arith) rising in
      let e =
      ap (λ (m : ℕ). get_or (0 ∷ cuts) m 0)
      (let s : suc t.fill - start ≡ suc (t.fill - start) = omega arith in s) in
      (omega arith, omega arith)

  stands_own : (k : ℕ) (t : TakenFill) (number : ℕ) → slice_get taken k ≡ Some t
      → StandsIn c.history start t.fill number
      → (t.held.first ≤ number) × (number < t.held.first + length (map as_record t.held.records))
  stands_own k t number at (low, high) = let p = page k t at in
      let first = p.first_is in
      let size = p.size_is in
      let within = p.within in
      let from = p.from_start in
      let i : ℕ = t.fill - start in
      let e =
      ap (λ (m : ℕ). get_or (0 ∷ cuts) m 0)
      (let s : suc t.fill - start ≡ suc (t.fill - start) = omega arith in s) in
      let all = first_below 0 cuts (length xs) (suc i) (omega arith) rising in
      let lies = lies_in cuts xs number (length cuts - i) i (omega arith) rising low (omega arith) in
      let least = lies.least_le in let begins = lies.first_le in let ends = lies.number_lt in let le = lies.fill_le in
      let here : lies.fill ≡ i =
      dite (dec_le lies.fill i) (λ le. omega arith)
      (λ more. let rise = rises (suc i) lies.fill (omega arith) le in
      absurd {A = lies.fill ≡ i} (let no : ⊥ = omega arith in no)) in
      let e' = ap (λ (m : ℕ). get_or (0 ∷ cuts) m 0 + length (get_or (cut_from 0 cuts xs) m [])) here in
      (omega arith, omega arith)

  -- ---- the whole

  module _ (cpu : ℕ) where
    -- the parcel of a page that was taken
    pub record IsPageOf (parcel : Parcel) : Type 0 where
      pub index : ℕ
      pub taken_page : TakenFill
      pub page_at : slice_get taken index ≡ Some taken_page
      pub parcel_is : parcel_of cpu taken_page ≡ parcel

    pub is_whole : (k : ℕ) (t : TakenFill) → slice_get taken k ≡ Some t → IsWholeFill c.history start (parcel_of cpu t)
    is_whole k t at = let fill = kept.partition.fills.each k t at in record {
      first_is = ap (λ (h : PageRecords). h.first) fill.held;
      records_are = ap (λ (h : PageRecords). map as_record h.records) fill.held;
    }

    pub is_missing : (k : ℕ) (t : TakenFill) (number : ℕ) → slice_get taken k ≡ Some t
        → IsMissingOf (parcel_of cpu t) cpu number ↔ IsOverwrittenBefore start events t.fill number
    is_missing k t number at = (
      λ m. overwritten k t at number m.low m.high,
      λ o. record { cpu_is = refl; low = is_low t number o k at; high = is_high t number o k at },
    )

    pub fills_same : (ts : List TakenFill) → numbers_of ts ≡ map (λ parcel. parcel.fill) (map (parcel_of cpu) ts)
    fills_same [] = refl
    fills_same (t ∷ ts) = ap (λ (l : List ℕ). t.fill ∷ l) (fills_same ts)

    pub pieces_same : (ts : List TakenFill) → pieces_of ts ≡ pieces_in (map (parcel_of cpu) ts)
    pieces_same [] = refl
    pieces_same (t ∷ ts) = ap (λ (l : List Piece). piece_of t ∷ l) (pieces_same ts)

    module _ (parcels : List Parcel) (same : parcels ≡ map (parcel_of cpu) taken) where
      pub page_of_parcel : (k : ℕ) (parcel : Parcel) → slice_get parcels k ≡ Some parcel → IsPageOf parcel
      page_of_parcel k parcel at =
          let (t, there, is) =
          get_from_map (parcel_of cpu) taken k parcel
          (subst (λ (l : List Parcel). slice_get l k ≡ Some parcel) same at) in
          record { index = k; taken_page = t; page_at = there; parcel_is = is }

      pub page_of_one : (parcel : Parcel) → Contains parcels parcel → IsPageOf parcel
      page_of_one parcel has = let (k, at) = element_at parcels parcel has in page_of_parcel k parcel at

      abbrev pub is_cut : AreParcelsOfRing n size start c parcels
      is_cut = record {
        is_history = kept.history.allowed;
        packed = runs_packed n size start c kept;
        from = r.from;
        is_new = r.is_new;
        exchanges = r.exchanges;
        events = events;
        run = run_of;
        reported = reported;
        took = reported.took ∙ fills_same taken ∙ ap (map (λ (parcel : Parcel). parcel.fill)) (sym same);
        whole = λ parcel has. let p = page_of_one parcel has in
            subst (IsWholeFill c.history start) p.parcel_is (is_whole p.index p.taken_page p.page_at);
        rest = (taken_partition n size start c kept).0;
        partition =
            subst
            (λ (l : List Piece).
            IsPartition (committed_records c.history) l (taken_partition n size start c kept).0)
            (pieces_same taken ∙ ap pieces_in (sym same)) (taken_partition n size start c kept).1;
        missing = λ parcel number has. let p = page_of_one parcel has in
            subst (λ (x : Parcel). IsMissingOf x x.cpu number ↔ IsOverwrittenBefore start events x.fill number)
            p.parcel_is (is_missing p.index p.taken_page number p.page_at);
      }

    -- ---- a collector

    module _ (parcels : List Parcel) (pages : (parcel : Parcel) → IsOneOf parcels cpu parcel → IsPageOf parcel) where
      one_of : (k : ℕ) (parcel : Parcel) → slice_get parcels k ≡ Some parcel → cpu ≡ parcel.cpu
          → IsOneOf parcels cpu parcel
      one_of k parcel at is = (contains_at parcels k parcel at, sym is)

      -- the record under a number of a page's own is the committed one
      record_of : (k : ℕ) (t : TakenFill) (i : ℕ) (x : Record) → slice_get taken k ≡ Some t
          → slice_get (map as_record t.held.records) i ≡ Some x
          → slice_get (committed_records c.history) (t.held.first + i) ≡ Some x
      record_of k t i x at there = let p = page k t at in
          own_records (committed_records c.history) (pieces_of taken) (taken_partition n size start c kept).0 k
          (piece_of t) t.held.first i x (taken_partition n size start c kept).1 p.piece_at p.first_at there

      has_stands : (number : ℕ) (x : Record) → Has parcels cpu number x
          → (slice_get (committed_records c.history) number ≡ Some x) × (parcel : Parcel) × IsOneOf parcels cpu parcel
          × StandsIn c.history start parcel.fill number
      has_stands number x h =
          let one = one_of h.index h.parcel h.at h.pair.cpu_is in let p = pages h.parcel one in let t = p.taken_page in
          let first : t.held.first ≡ h.parcel.first = ap (λ (q : Parcel). q.first) p.parcel_is in
          let records : map as_record t.held.records ≡ h.parcel.records = ap (λ (q : Parcel). q.records) p.parcel_is in
          let is = h.pair.number_is in
          let there : slice_get (map as_record t.held.records) h.pair.index ≡ Some x =
          subst (λ (l : List Record). slice_get l h.pair.index ≡ Some x) (sym records) h.pair.record_is in
          let low = slice_get_within (map as_record t.held.records) h.pair.index x there in (
            ap (slice_get (committed_records c.history))
                (let e : number ≡ t.held.first + h.pair.index = omega arith in e)
                ∙ record_of p.index t h.pair.index x p.page_at there,
            h.parcel,
            one,
            subst (λ (f : ℕ). StandsIn c.history start f number) (ap (λ (q : Parcel). q.fill) p.parcel_is)
                (own_stands p.index t number p.page_at (omega arith) (omega arith)),
          )

      stands_has : (number : ℕ) (x : Record) (parcel : Parcel) → slice_get (committed_records c.history) number ≡ Some x
          → IsOneOf parcels cpu parcel → StandsIn c.history start parcel.fill number → Has parcels cpu number x
      stands_has number x parcel committed one stands =
          let p = pages parcel one in let t = p.taken_page in
          let (low, high) =
          stands_own p.index t number p.page_at
          (subst (λ (f : ℕ). StandsIn c.history start f number) (sym (ap (λ (q : Parcel). q.fill) p.parcel_is))
          stands) in
          let (k, at) = element_at parcels parcel one.0 in
          let i : ℕ = number - t.held.first in
          let back : t.held.first + i ≡ number = omega arith in
          let first : t.held.first ≡ parcel.first = ap (λ (q : Parcel). q.first) p.parcel_is in
          let there : slice_get (map as_record t.held.records) i ≡ Some x = ⊎_elim
          (λ (y, within, is, same).
          is ∙ sym (record_of p.index t i y p.page_at is) ∙ ap (slice_get (committed_records c.history)) back
          ∙ committed)
          (λ (past, none).
          absurd {A = slice_get (map as_record t.held.records) i ≡ Some x} (let no : ⊥ = omega arith in no))
          (slice_get_cases (map as_record t.held.records) i).1 in
          record {
            index = k;
            parcel = parcel;
            at = at;
            pair = record {
              index = i;
              cpu_is = sym one.1;
              number_is = omega arith;
              record_is =
                  subst (λ (l : List Record). slice_get l i ≡ Some x) (ap (λ (q : Parcel). q.records) p.parcel_is)
                  there;
            };
          }

      missing_of : (parcel : Parcel) (number : ℕ) → IsOneOf parcels cpu parcel
          → IsMissingOf parcel cpu number ↔ IsOverwrittenBefore start events parcel.fill number
      missing_of parcel number one = let p = pages parcel one in
          subst (λ (x : Parcel). IsMissingOf x cpu number ↔ IsOverwrittenBefore start events x.fill number) p.parcel_is
          (is_missing p.index p.taken_page number p.page_at)

      pub is_exact : IsExact c.history start events cpu parcels parcels
      is_exact = record {
        has =
            λ number x. (
              has_stands number x,
              λ (committed, parcel, one, stands). stands_has number x parcel committed one stands,
            );
        misses = λ number. (
          λ m. let one = one_of m.index m.parcel m.at m.missing.cpu_is in
              (m.parcel, one, (missing_of m.parcel number one).0 m.missing),
          λ (parcel, one, over). let (k, at) = element_at parcels parcel one.0 in
              record { index = k; parcel = parcel; at = at; missing = (missing_of parcel number one).1 over },
        );
      }
