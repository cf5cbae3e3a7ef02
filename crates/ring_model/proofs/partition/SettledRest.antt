-- What is left of the committed records if the stack is empty and no closed fill is unread: those in the tail, and none
-- is skipped before them.
use Rattle.std.proofs.Common.{◌≡◌, ⊎_elim, inl, inr, ℕ, zero, suc, ◌+◌, ◌-◌, ◌<◌, ◌≤◌, List, [], ◌∷◌, ◌++◌, length}
use Rattle.std.proofs.Common.{take, drop, map, flat_map, get_or, Some, refl, ap, ◌∙◌, subst, arith, append-nil}
use Rattle.std.proofs.Common.{length-append, length-take-le}
use Rattle.std.proofs.lemmas.Bool.{cases_lt}
use Rattle.std.proofs.lemmas.List.{length-map}
use Rattle.std.specs.List.{slice_get}
use Rattle.trace_model.specs.Record.{Record}
use Rattle.trace_model.specs.History.{Reservation, reserved_records, as_record, committed_records}
use Rattle.trace_model.specs.Packing.{opens_of, fills_of, tail_of, first_of_fill}
use Rattle.trace_model.specs.Partition.{IsPartition, covered_count, first_from}
use Rattle.trace_model.specs.Ring.{PageRecords, TakenFill, Core, IsTaken}
use Rattle.trace_model.proofs.packing.FillCuts.{length-cut_from}
use Rattle.trace_model.proofs.packing.FillFirsts.{first_below, fill_behind}
use Rattle.ring_model.specs.KeptPartition.{piece_of, pieces_of, covered_total}
use Rattle.ring_model.specs.RingKept.{IsRingKept}
use Rattle.ring_model.specs.HistoryLaws.{records_from, IsRest, TailIsTheRest}
use Rattle.ring_model.proofs.links.FramePhases.{none_some}
use Rattle.ring_model.proofs.partition.RingsKept.{is_ring}
use Rattle.ring_model.proofs.partition.UnreadRest.{rest_is_unread}

-- the records of a piece end no later than what all pieces cover
piece_within : (number : ℕ) (taken : List TakenFill) (k first : ℕ) (t : TakenFill) → slice_get taken k ≡ Some t
    → first_from number (pieces_of taken) k ≡ Some first
    → first + length t.held.records ≤ number + covered_total (pieces_of taken)
piece_within number [] k first t at is = absurd (none_some at)
piece_within number (x ∷ taken) zero first t at is =
    let same : x ≡ t = some_taken x t at in
    let number_is : number + x.skipped ≡ first = some_number (number + x.skipped) first is in
    let wide = length-map x.held.records as_record in
    let records = ap (λ (u : TakenFill). length u.held.records) same in omega arith
  where
    some_taken : (a b : TakenFill) → Some a ≡ Some b → a ≡ b
    some_taken a b e = cc

    some_number : (a b : ℕ) → Some a ≡ Some b → a ≡ b
    some_number a b e = cc
piece_within number (x ∷ taken) (suc k) first t at is =
    let rest = piece_within (number + covered_count (piece_of x)) taken k first t at is in omega arith

-- what pieces and a rest cover
partition_long : (records : List Record) (taken : List TakenFill) (rest : List Record)
    → IsPartition records (pieces_of taken) rest
    → length records ≡ covered_total (pieces_of taken) + length rest
partition_long records [] rest is = let same = ap (length {A = Record}) is in omega arith
partition_long records (x ∷ taken) rest (lost, behind, skips, cut, more) =
    let own : List Record = map as_record x.held.records in
    let below = partition_long behind taken rest more in
    let whole = ap (length {A = Record}) cut in
    let one = length-append lost (own ++ behind) in
    let two = length-append own behind in omega arith

-- the last of some lists, as what is left of them joined
last_joined : {A : Type 0} (xs : List A) (more : List (List A))
    → flat_map (λ (fill : List A). fill) (drop (length more) (xs ∷ more)) ≡ get_or (xs ∷ more) (length more) []
last_joined xs [] = append-nil xs
last_joined xs (ys ∷ more) = last_joined ys more

joined_last : {A : Type 0} (lists : List (List A)) (i : ℕ) → i + 1 ≡ length lists
    → flat_map (λ (fill : List A). fill) (drop i lists) ≡ get_or lists (length lists - 1) []
joined_last [] i e = absurd (omega arith)
joined_last {A = A} (xs ∷ more) i e = let here : i ≡ length more = omega arith in
    ap (λ (k : ℕ). flat_map (λ (fill : List A). fill) (drop k (xs ∷ more))) here ∙ last_joined xs more
    ∙ ap (λ (k : ℕ). get_or (xs ∷ more) k []) (let e : length more ≡ length (xs ∷ more) - 1 = omega arith in e)

module _ (n size start : ℕ) (c : Core) (r : IsRingKept n size start c) (at_rest : c.frames ≡ [])
    (all_read : c.head ≡ c.done) where
  -- the fill before the head was taken, since none that near may be lost
  last_taken : start < c.head → IsTaken c (c.head - 1)
  last_taken some =
      let some_pages = r.links.some_pages in let alone = r.stack.at_rest at_rest in
      ⊎_elim (λ t. t) (λ (round : c.head - 1 + n < c.opened). absurd (omega arith))
      ((is_ring n size start c r).lost_at_rest (c.head - 1) (omega arith) (omega arith) at_rest)

  abbrev cuts : List ℕ
  cuts = opens_of c.history

  abbrev xs : List Reservation
  xs = reserved_records c.history

  -- the next fill's first record comes after those of a fill
  next_first : (i : ℕ) → i < length cuts
      → get_or (0 ∷ cuts) (suc i) 0 ≡ get_or (0 ∷ cuts) i 0 + length (get_or (fills_of c.history) i [])
  next_first i low =
      let rising = r.contents.rising in
      let up = ap (length {A = Reservation}) (fill_behind 0 cuts xs i low rising) in
      let next = length-take-le (get_or (0 ∷ cuts) (suc i) 0) xs (first_below 0 cuts (length xs) (suc i) low rising) in
      let first = length-take-le (get_or (0 ∷ cuts) i 0) xs (first_below 0 cuts (length xs) i (omega arith) rising) in
      let both = length-append (take (get_or (0 ∷ cuts) i 0) xs) (get_or (fills_of c.history) i []) in omega arith

  -- so the reader expects the tail's first record
  expects_behind : start < c.head → c.reader.expected ≡ first_of_fill c.history start c.head
  expects_behind some =
      let (k, t, at, fill_is) = last_taken some in
      let le = r.partition.expected_le in
      let alone = r.stack.at_rest at_rest in
      let begun = r.contents.begun in
      let fill = r.partition.fills.each k t at in
      let within = piece_within 0 c.reader.taken k t.held.first t at (r.partition.firsts k t at) in
      let total = r.partition.total in
      let i : ℕ = c.head - 1 - start in
      let first_is : t.held.first ≡ get_or (0 ∷ cuts) i 0 =
      ap (λ (h : PageRecords). h.first) fill.held ∙ ap (λ (f : ℕ). get_or (0 ∷ cuts) (f - start) 0) fill_is in
      let wide : length t.held.records ≡ length (get_or (fills_of c.history) i []) =
      ap (λ (h : PageRecords). length h.records) fill.held
      ∙ ap (λ (f : ℕ). length (get_or (fills_of c.history) (f - start) [])) fill_is in
      let next = next_first i (omega arith) in
      let head_is = ap (λ (m : ℕ). get_or (0 ∷ cuts) m 0) (let e : suc i ≡ c.head - start = omega arith in e) in
      omega arith

  expects_tail : c.reader.expected ≡ first_of_fill c.history start c.head
  expects_tail =
      let from = (is_ring n size start c r).from_start in
      let le = r.partition.expected_le in
      elim (cases_lt start c.head) [
        | inl less ↦ expects_behind less
        | inr not_less ↦ let none =
            ap (λ (m : ℕ). get_or (0 ∷ cuts) m 0) (let e : c.head - start ≡ 0 = omega arith in e) in
            omega arith
      ]

  tail_left : records_from c.history (c.head - start) ≡ tail_of c.history
  tail_left =
      let alone = r.stack.at_rest at_rest in let begun = r.contents.begun in
      let count = length-cut_from 0 cuts xs in
      joined_last (fills_of c.history) (c.head - start) (omega arith)

  nothing_lost : (lost rest : List Record) → IsRest start c lost rest
      → IsPartition (committed_records c.history) (pieces_of c.reader.taken) (map as_record (tail_of c.history))
  nothing_lost lost rest is =
      let long = partition_long (committed_records c.history) c.reader.taken (lost ++ rest) is.partition in
      let both = length-append lost rest in
      let total = r.partition.total in
      let behind = is.behind in
      let expects = expects_tail in
      let none : lost ≡ [] = empty_is lost (omega arith) in
      subst (IsPartition (committed_records c.history) (pieces_of c.reader.taken))
      (ap (λ (l : List Record). l ++ rest) none ∙ is.at_rest at_rest ∙ ap (map as_record) tail_left) is.partition
    where
      empty_is : (l : List Record) → length l ≡ 0 → l ≡ []
      empty_is [] e = refl
      empty_is (x ∷ l) e = absurd (omega arith)

pub tail_is_the_rest : TailIsTheRest
tail_is_the_rest n size start c r at_rest all_read =
    let (lost, rest, is) = rest_is_unread n size start c r in
    nothing_lost n size start c r at_rest all_read lost rest is
