-- The pieces of a partition lie in the list from their first numbers on, and apart from what is skipped.
use Rattle.std.proofs.Common.{◌≡◌, ℕ, zero, suc, ◌+◌, ◌<◌, ◌≤◌, List, [], ◌∷◌, ◌++◌, length, take, drop, Some, refl}
use Rattle.std.proofs.Common.{sym, ap, ◌∙◌, subst, arith, append_assoc, length-append}
use Rattle.std.proofs.lemmas.Option.{none-some}
use Rattle.std.specs.List.{slice_get}
use Rattle.trace_model.specs.Record.{Record}
use Rattle.trace_model.specs.Partition.{Piece, IsPartition, covered_count, first_from, first_of, IsNumberedFrom}
use Rattle.trace_model.proofs.collections.Elements.{some_is, get_in_front, get_behind}

-- ---- where a piece is

-- the records of the piece at an index, with those before it and those after it
record CutAtPiece (records : List Record) (pieces : List Piece) (rest : List Record) (k : ℕ) (p : Piece) : Type 0 where
  before : List Record
  lost : List Record
  behind : List Record
  whole : records ≡ before ++ (lost ++ (p.records ++ behind))
  partition : IsPartition before (take k pieces) []
  skips : length lost ≡ p.skipped
  others : IsPartition behind (drop (suc k) pieces) rest

cut_at_piece : (records : List Record) (pieces : List Piece) (rest : List Record) (k : ℕ) (p : Piece)
    → IsPartition records pieces rest → slice_get pieces k ≡ Some p → CutAtPiece records pieces rest k p
cut_at_piece records [] rest k p partition at = absurd (none-some p at)
cut_at_piece records (q ∷ pieces) rest zero p (lost, behind, size, cut, partition) at =
    let same : q ≡ p = some_is q p at in
    record {
      before = [];
      lost = lost;
      behind = behind;
      whole = cut ∙ ap (λ (x : Piece). lost ++ (x.records ++ behind)) same;
      partition = refl;
      skips = size ∙ ap (λ (x : Piece). x.skipped) same;
      others = partition;
    }
cut_at_piece records (q ∷ pieces) rest (suc k) p (lost, behind, size, cut, partition) at =
    let s = cut_at_piece behind pieces rest k p partition at in
    let left = s.lost ++ (p.records ++ s.behind) in
    record {
      before = lost ++ (q.records ++ s.before);
      lost = s.lost;
      behind = s.behind;
      whole = cut ∙ ap (λ (xs : List Record). lost ++ (q.records ++ xs)) s.whole
          ∙ ap (λ (xs : List Record). lost ++ xs) (sym (append_assoc q.records s.before left))
          ∙ sym (append_assoc lost (q.records ++ s.before) left);
      partition = (lost, s.before, size, refl, s.partition);
      skips = s.skips;
      others = s.others;
    }

-- the first number is how many records are before
number_is : (number : ℕ) (pieces : List Piece) (k : ℕ) (p : Piece) (before lost : List Record)
    → slice_get pieces k ≡ Some p → IsPartition before (take k pieces) [] → length lost ≡ p.skipped
    → first_from number pieces k ≡ Some (number + (length before + length lost))
number_is number [] k p before lost at partition size = absurd (none-some p at)
number_is number (q ∷ pieces) zero p before lost at partition size =
    let same = ap (λ (x : Piece). x.skipped) (some_is q p at) in
    let none = ap (length {A = Record}) partition in
    ap Some (let e : number + q.skipped ≡ number + (length before + length lost) = omega arith in e)
number_is number (q ∷ pieces) (suc k) p before lost at (skipped, behind, size, cut, partition) is =
    let sum = ap (length {A = Record}) cut ∙ length-append skipped (q.records ++ behind) in
    let more = length-append q.records behind in
    number_is (number + covered_count q) pieces k p behind lost at partition is
    ∙ ap Some
    (let e : number + covered_count q + (length behind + length lost) ≡ number + (length before + length lost) =
    omega arith in
    e)

pub numbered_from : (records : List Record) (pieces : List Piece) (rest : List Record) (k : ℕ) (p : Piece)
    → IsPartition records pieces rest → slice_get pieces k ≡ Some p
    → (first : ℕ) × IsNumberedFrom records pieces rest k p first
numbered_from records pieces rest k p partition at =
    let s = cut_at_piece records pieces rest k p partition at in (
      length s.before + length s.lost,
      record {
        before = s.before;
        lost = s.lost;
        behind = s.behind;
        whole = s.whole;
        partition = s.partition;
        skips = s.skips;
        others = s.others;
        number = refl;
      },
    )

pub first_is_count : (records : List Record) (pieces : List Piece) (rest : List Record) (k : ℕ) (p : Piece) (first : ℕ)
    → slice_get pieces k ≡ Some p → IsNumberedFrom records pieces rest k p first → first_of pieces k ≡ Some first
first_is_count records pieces rest k p first at s =
    let number = s.number in
    number_is 0 pieces k p s.before s.lost at s.partition s.skips
    ∙ ap Some (let e : 0 + (length s.before + length s.lost) ≡ first = omega arith in e)

pub count_is_first : (records : List Record) (pieces : List Piece) (rest : List Record) (k : ℕ) (p : Piece) (first : ℕ)
    → IsPartition records pieces rest → slice_get pieces k ≡ Some p → first_of pieces k ≡ Some first
    → IsNumberedFrom records pieces rest k p first
count_is_first records pieces rest k p first partition at is =
    let (count, s) = numbered_from records pieces rest k p partition at in
    subst (IsNumberedFrom records pieces rest k p)
    (some_is count first (sym (first_is_count records pieces rest k p count at s) ∙ is)) s

-- a piece's own records are those of the whole list from its first number on
pub own_records : (records : List Record) (pieces : List Piece) (rest : List Record) (k : ℕ) (p : Piece) (first i : ℕ)
    (r : Record) → IsPartition records pieces rest → slice_get pieces k ≡ Some p → first_of pieces k ≡ Some first
    → slice_get p.records i ≡ Some r → slice_get records (first + i) ≡ Some r
own_records records pieces rest k p first i r partition at is there =
    let s = count_is_first records pieces rest k p first partition at is in
    let number = s.number in
    ap (λ (xs : List Record). slice_get xs (first + i)) s.whole
    ∙ ap (slice_get (s.before ++ (s.lost ++ (p.records ++ s.behind))))
    (let e : first + i ≡ length s.before + (length s.lost + i) = omega arith in e)
    ∙ get_behind s.before (s.lost ++ (p.records ++ s.behind)) (length s.lost + i)
    ∙ get_behind s.lost (p.records ++ s.behind) i
    ∙ get_in_front p.records s.behind i r there

pub first_within : (records : List Record) (pieces : List Piece) (rest : List Record) (k : ℕ) (p : Piece) (first : ℕ)
    → IsPartition records pieces rest → slice_get pieces k ≡ Some p → first_of pieces k ≡ Some first
    → first ≤ length records
first_within records pieces rest k p first partition at is =
    let s = count_is_first records pieces rest k p first partition at is in
    let number = s.number in
    let all = ap (length {A = Record}) s.whole ∙ length-append s.before (s.lost ++ (p.records ++ s.behind)) in
    let more = length-append s.lost (p.records ++ s.behind) in omega arith

-- ---- what pieces skip is apart from their own records

first_above : (number : ℕ) (pieces : List Piece) (k : ℕ) (p : Piece) (first : ℕ) → slice_get pieces k ≡ Some p
    → first_from number pieces k ≡ Some first → number + p.skipped ≤ first
first_above number [] k p first at is = absurd (none-some p at)
first_above number (q ∷ pieces) zero p first at is =
    let same = ap (λ (x : Piece). x.skipped) (some_is q p at) in
    let sum = some_is (number + q.skipped) first is in omega arith
first_above number (q ∷ pieces) (suc k) p first at is =
    let above = first_above (number + covered_count q) pieces k p first at is in omega arith

-- no number is among the records of one piece and among those that one skips
pub own_or_skipped : (number : ℕ) (pieces : List Piece) (j k : ℕ) (p q : Piece) (first other x : ℕ)
    → slice_get pieces j ≡ Some p → slice_get pieces k ≡ Some q
    → first_from number pieces j ≡ Some first → first_from number pieces k ≡ Some other
    → first ≤ x → x < first + length p.records → other ≤ x + q.skipped → x < other → ⊥
own_or_skipped number [] j k p q first other x own skipping is that low high least below = none-some p own
own_or_skipped number (s ∷ pieces) zero zero p q first other x own skipping is that low high least below =
    let here = some_is (number + s.skipped) first is in
    let there = some_is (number + s.skipped) other that in omega arith
own_or_skipped number (s ∷ pieces) zero (suc k) p q first other x own skipping is that low high least below =
    let here = some_is (number + s.skipped) first is in
    let size = ap (λ (y : Piece). length y.records) (some_is s p own) in
    let above = first_above (number + covered_count s) pieces k q other skipping that in omega arith
own_or_skipped number (s ∷ pieces) (suc j) zero p q first other x own skipping is that low high least below =
    let there = some_is (number + s.skipped) other that in
    let above = first_above (number + covered_count s) pieces j p first own is in omega arith
own_or_skipped number (s ∷ pieces) (suc j) (suc k) p q first other x own skipping is that low high least below =
    own_or_skipped (number + covered_count s) pieces j k p q first other x own skipping is that low high least below
