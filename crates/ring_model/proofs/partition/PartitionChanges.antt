-- The taken fills and the lost ones stay a partition of the records where an event more is done, and where the
-- head is lost or taken.
use Rattle.std.proofs.Common.{◌≡◌, ℕ, suc, ◌+◌, ◌-◌, ◌<◌, ◌≤◌, ⊎_elim, List, [], ◌∷◌, ◌++◌, length, get_or, take, map}
use Rattle.std.proofs.Common.{Some, sym, ap, ◌∙◌, subst, arith, length-append, length-take-le, append_assoc}
use Rattle.std.proofs.lemmas.List.{map-append, length-map}
use Rattle.std.proofs.Math.ListN.{get_or-append}
use Rattle.std.specs.List.{slice_get}
use Rattle.std.proofs.lemmas.Option.{slice_get_within}
use Rattle.trace_model.specs.Record.{Record}
use Rattle.trace_model.specs.History.{HistoryEvent, Reservation, PushedFrame, writer_after, reserved_records, as_record}
use Rattle.trace_model.specs.Packing.{opens_of, cut_from, fills_of, first_of_fill}
use Rattle.trace_model.specs.Partition.{Piece, IsPartition, first_of}
use Rattle.trace_model.specs.Ring.{PageRecords, TakenFill, IsFillOf, AreFillsOf}
use Rattle.trace_model.specs.Fitting.{IsRising}
use Rattle.ring_model.specs.KeptPartition.{covered_total, piece_of, pieces_of, PartitionAt}
use Rattle.trace_model.proofs.histories.NextRecords.{records_snoc}
use Rattle.trace_model.proofs.histories.Committed.{Behind, committed_prefix, take_after_event, committed_len}
use Rattle.trace_model.proofs.packing.FillCuts.{length-cut_from, cut-stays, opens_at, opens_more}
use Rattle.trace_model.proofs.packing.FillFirsts.{first_below, first_rises, first_rises_to, fill_behind}
use Rattle.ring_model.proofs.partition.PartitionLemmas.{first_old, first_new, covered_total-snoc, get_snoc}
use Rattle.ring_model.proofs.partition.PartitionLemmas.{partition_snoc, take_split, take_map}

-- what is committed stays so, with one event more
frozen_yet : (h : List HistoryEvent) (a : HistoryEvent) (e : ℕ) → e ≤ committed_len h
    → take e (reserved_records (h ++ a ∷ [])) ≡ take e (reserved_records h)
frozen_yet h a e low = let k = committed_prefix h in
    ap (λ (l : List Reservation). take e l) (records_snoc h a)
    ∙ take_after_event e (writer_after h).stack (writer_after h).records a (let within = k.within in omega arith)
    (fewer (committed_len h) e low (writer_after h).stack k.behind)
  where
    fewer : (most least : ℕ) → least ≤ most → (stack : List PushedFrame) → Behind most stack → Behind least stack
    fewer most least le [] b = tt
    fewer most least le (f ∷ stack) b = ((λ k e. let low = b.0 k e in omega arith), fewer most least le stack b.1)

pub frozen : (h : List HistoryEvent) (a : HistoryEvent) (e : ℕ) → e ≤ committed_len h
    → take e (map as_record (reserved_records (h ++ a ∷ []))) ≡ take e (map as_record (reserved_records h))
frozen h a e low =
    take_map as_record e (reserved_records (h ++ a ∷ [])) ∙ ap (map as_record) (frozen_yet h a e low)
    ∙ sym (take_map as_record e (reserved_records h))

-- the first number of a fill that is begun stays the same
pub first_stays : (h : List HistoryEvent) (a : HistoryEvent) (i : ℕ) → i ≤ length (opens_of h)
    → get_or (0 ∷ opens_of (h ++ a ∷ [])) i 0 ≡ get_or (0 ∷ opens_of h) i 0
first_stays h a i low =
    ap (λ (l : List ℕ). get_or (0 ∷ l) i 0) (opens_more [] h a)
    ∙ get_or-append (0 ∷ opens_of h) (opens_at h a) 0 i (let l : i < suc (length (opens_of h)) = omega arith in l)

-- a fill that is closed stays the same
fill_stays : (h : List HistoryEvent) (a : HistoryEvent) (i : ℕ) → i < length (opens_of h)
    → IsRising 0 (opens_of h) (length (reserved_records h)) → get_or (0 ∷ opens_of h) (suc i) 0 ≤ committed_len h
    → get_or (fills_of (h ++ a ∷ [])) i [] ≡ get_or (fills_of h) i []
fill_stays h a i low r done =
    ap (λ (l : List ℕ). get_or (cut_from 0 l (reserved_records (h ++ a ∷ []))) i []) (opens_more [] h a)
    ∙ cut-stays 0 (opens_of h) (opens_at h a) (length (reserved_records h)) (reserved_records h)
    (reserved_records (h ++ a ∷ [])) i r low (frozen_yet h a (get_or (0 ∷ opens_of h) (suc i) 0) done)

length-fills : (h : List HistoryEvent) → length (fills_of h) ≡ suc (length (opens_of h))
length-fills h = length-cut_from 0 (opens_of h) (reserved_records h)

taken_stays : (start : ℕ) (h : List HistoryEvent) (a : HistoryEvent) (t : TakenFill)
    → t.fill - start < length (opens_of h) → IsRising 0 (opens_of h) (length (reserved_records h))
    → get_or (0 ∷ opens_of h) (suc (t.fill - start)) 0 ≤ committed_len h → IsFillOf start h t
    → IsFillOf start (h ++ a ∷ []) t
taken_stays start h a t low r done f = record {
  from_start = f.from_start;
  begun = let count = length-fills (h ++ a ∷ []) in
      let more = ap (length {A = ℕ}) (opens_more [] h a) in
      let sum = length-append (opens_of h) (opens_at h a) in
      let from = f.from_start in
      omega arith;
  held =
      let first =
      sym (first_stays h a (t.fill - start) (let le : t.fill - start ≤ length (opens_of h) = omega arith in le)) in
      let records = sym (fill_stays h a (t.fill - start) low r done) in
      f.held ∙ (λ i. record { first = first i; records = records i });
}

-- an event more
pub partition_more : (start : ℕ) (h : List HistoryEvent) (a : HistoryEvent) (head expected : ℕ) (taken : List TakenFill)
    → head - start ≤ length (opens_of h) → IsRising 0 (opens_of h) (length (reserved_records h))
    → first_of_fill h start head ≤ committed_len h → PartitionAt start h head expected taken
    → PartitionAt start (h ++ a ∷ []) head expected taken
partition_more start h a head expected taken low r done p = record {
  expected_le = let le = p.expected_le in let e = first_stays h a (head - start) low in omega arith;
  partition =
      subst (λ (l : List Record). IsPartition l (pieces_of taken) [])
      (sym (frozen h a expected (let le = p.expected_le in omega arith))) p.partition;
  total = p.total;
  firsts = p.firsts;
  fills = record {
    each = λ k t at. let f = p.fills.each k t at in
        let from = f.from_start in
        let high = p.below k t at in
        taken_stays start h a t (omega arith) r
        (let up =
        first_rises_to (opens_of h) (length (reserved_records h)) (suc (t.fill - start)) (head - suc t.fill)
        (omega arith) r in
        let e =
        ap (λ (i : ℕ). get_or (0 ∷ opens_of h) i 0)
        (let s : suc (t.fill - start) + (head - suc t.fill) ≡ head - start = omega arith in s) in
        omega arith) f;
    rising = p.fills.rising;
  };
  below = p.below;
}

-- the head is lost
pub partition_lost : (start : ℕ) (h : List HistoryEvent) (head expected : ℕ) (taken : List TakenFill) → start ≤ head
    → head - start < length (opens_of h) → IsRising 0 (opens_of h) (length (reserved_records h))
    → PartitionAt start h head expected taken → PartitionAt start h (head + 1) expected taken
partition_lost start h head expected taken from low r p = record {
  expected_le = let le = p.expected_le in
      let more = first_rises 0 (opens_of h) (length (reserved_records h)) (head - start) low r in
      let e =
      ap (λ (i : ℕ). get_or (0 ∷ opens_of h) i 0)
      (let s : (head + 1) - start ≡ suc (head - start) = omega arith in s) in
      omega arith;
  partition = p.partition;
  total = p.total;
  firsts = p.firsts;
  fills = p.fills;
  below = λ k t at. let high = p.below k t at in omega arith;
}

-- what was taken, and the head after it
fills_taken : (start : ℕ) (h : List HistoryEvent) (head : ℕ) (taken : List TakenFill) (t : TakenFill) → t.fill ≡ head
    → IsFillOf start h t → AreFillsOf start h taken
    → ((k : ℕ) (u : TakenFill) → slice_get taken k ≡ Some u → u.fill < head) → AreFillsOf start h (taken ++ t ∷ [])
fills_taken start h head taken t here f fs below = record {
  each =
      λ k u at.
      ⊎_elim (λ old. fs.each k u old) (λ (last, same). subst (IsFillOf start h) same f)
      (get_snoc taken t u k at);
  rising = λ j k a b less at_j at_k. ⊎_elim
      (λ old_k.
      ⊎_elim (λ old_j. fs.rising j k a b less old_j old_k)
      (λ (last, same). let within = slice_get_within taken k b old_k in absurd (omega arith))
      (get_snoc taken t a j at_j))
      (λ (last_k, same_k). ⊎_elim
      (λ old_j. let low = below j a old_j in let e = ap (λ (x : TakenFill). x.fill) same_k in omega arith)
      (λ (last_j, same_j). absurd (omega arith))
      (get_snoc taken t a j at_j))
      (get_snoc taken t b k at_k);
}

-- the records up to the end of a fill: some of those before it, what was lost after them, and its own
records_taken : (xs fill records : List Reservation) (before lost : List Record) (first next count : ℕ) → count ≡ next
    → take next xs ≡ take first xs ++ fill → take first (map as_record xs) ≡ before ++ lost → records ≡ fill
    → before ++ (lost ++ map as_record records) ≡ take count (map as_record xs)
records_taken xs fill records before lost first next count len up split same =
    ap (λ (l : List Reservation). before ++ (lost ++ map as_record l)) same
    ∙ sym (append_assoc before lost (map as_record fill))
    ∙ ap (λ (l : List Record). l ++ map as_record fill) (sym split ∙ take_map as_record first xs)
    ∙ sym (map-append as_record (take first xs) fill) ∙ ap (map as_record) (sym up) ∙ sym (take_map as_record next xs)
    ∙ ap (λ (m : ℕ). take m (map as_record xs)) (sym len)

-- a partition up to that number, with the fill as one piece more
partition_further : (xs fill : List Reservation) (before lost : List Record) (first next count : ℕ)
    (pieces : List Piece) (t : TakenFill) → count ≡ next → take next xs ≡ take first xs ++ fill
    → take first (map as_record xs) ≡ before ++ lost → t.held.records ≡ fill → length lost ≡ t.skipped
    → IsPartition before pieces []
    → IsPartition (take count (map as_record xs)) (pieces ++ piece_of t ∷ []) []
partition_further xs fill before lost first next count pieces t len up split same missing partition =
    subst (λ (l : List Record). IsPartition l (pieces ++ piece_of t ∷ []) [])
    (records_taken xs fill t.held.records before lost first next count len up split same)
    (partition_snoc before pieces lost (piece_of t) partition missing)

-- the head is taken, with its first number and its records
pub partition_taken : (start : ℕ) (h : List HistoryEvent) (head expected : ℕ) (taken : List TakenFill) → start ≤ head
    → head - start < length (opens_of h) → IsRising 0 (opens_of h) (length (reserved_records h))
    → first_of_fill h start head ≤ length (reserved_records h)
    → (t : TakenFill) → t.fill ≡ head
    → t.held ≡ record { first = first_of_fill h start head; records = get_or (fills_of h) (head - start) [] }
    → t.skipped ≡ t.held.first - expected
    → PartitionAt start h head expected taken
    → PartitionAt start h (head + 1) (t.held.first + length t.held.records) (taken ++ t ∷ [])
partition_taken start h head expected taken from low r short t here held skipped p =
    let xs : List Reservation = reserved_records h in
    let rs : List Record = map as_record xs in
    let first : ℕ = first_of_fill h start head in
    let fill : List Reservation = get_or (fills_of h) (head - start) [] in
    let first_is : t.held.first ≡ first = ap (λ (x : PageRecords). x.first) held in
    let records_is : t.held.records ≡ fill = ap (λ (x : PageRecords). x.records) held in
    let up : take (get_or (0 ∷ opens_of h) (suc (head - start)) 0) xs ≡ take first xs ++ fill =
    fill_behind 0 (opens_of h) xs (head - start) low r in
    let next : ℕ = get_or (0 ∷ opens_of h) (suc (head - start)) 0 in
    let within : next ≤ length xs = first_below 0 (opens_of h) (length xs) (suc (head - start)) low r in
    let len : t.held.first + length t.held.records ≡ next =
    let a = ap (length {A = Reservation}) up in
    let b = length-take-le next xs within in
    let d = length-take-le first xs short in
    let e = length-append (take first xs) fill in let g = ap (length {A = Reservation}) records_is in omega arith in
    let (lost, size, split) =
    take_split expected first rs p.expected_le (let same = length-map xs as_record in omega arith) in
    let missing : length lost ≡ t.skipped = omega arith in record {
      expected_le =
          let e =
          ap (λ (i : ℕ). get_or (0 ∷ opens_of h) i 0)
          (let s : (head + 1) - start ≡ suc (head - start) = omega arith in s) in
          omega arith;
      partition =
          subst (λ (l : List Piece). IsPartition (take (t.held.first + length t.held.records) rs) l [])
          (sym (map-append piece_of taken (t ∷ [])))
          (partition_further xs fill (take expected rs) lost first next (t.held.first + length t.held.records)
          (pieces_of taken) t len up split records_is missing p.partition);
      total =
          let e =
          ap covered_total (map-append piece_of taken (t ∷ []))
          ∙ covered_total-snoc (pieces_of taken) (piece_of t) in
          let was = p.total in
          let le = p.expected_le in
          let more = length-map t.held.records as_record in omega arith;
      firsts = λ j u at. ⊎_elim
          (λ old.
          ap (λ (l : List Piece). first_of l j) (map-append piece_of taken (t ∷ []))
          ∙ first_old 0 (pieces_of taken) (piece_of t) j u.held.first (p.firsts j u old))
          (λ (last, same).
          ap (λ (l : List Piece). first_of l j) (map-append piece_of taken (t ∷ []))
          ∙ ap (first_of (pieces_of taken ++ piece_of t ∷ [])) (last ∙ sym (length-map taken piece_of))
          ∙ first_new 0 (pieces_of taken) (piece_of t)
          ∙ ap Some
          (let was = p.total in
          let le = p.expected_le in
          let e : 0 + covered_total (pieces_of taken) + t.skipped ≡ t.held.first = omega arith in
          e)
          ∙ ap (λ (x : TakenFill). Some x.held.first) same)
          (get_snoc taken t u j at);
      fills = fills_taken start h head taken t here record {
        from_start = omega arith;
        begun = let count = length-fills h in omega arith;
        held =
            held
            ∙ ap
            (λ (g : ℕ). let x : PageRecords =
            record { first = first_of_fill h start g; records = get_or (fills_of h) (g - start) [] } in
            x) (sym here);
      } p.fills p.below;
      below =
          λ j u at.
          ⊎_elim (λ old. let high = p.below j u old in omega arith)
          (λ (last, same). let e = ap (λ (x : TakenFill). x.fill) same in omega arith)
          (get_snoc taken t u j at);
    }
