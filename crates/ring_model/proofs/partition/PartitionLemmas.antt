-- What the reader took and what was lost between are a partition of the records, and stays so.
use Rattle.std.proofs.Common.{◌≡◌, ℕ, zero, suc, ◌+◌, ◌-◌, ◌≤◌, ◌⊎◌, inl, inr, ⊎_elim, List, [], ◌∷◌, ◌++◌, length}
use Rattle.std.proofs.Common.{take, map, Some, refl, sym, ap, ◌∙◌, arith, length-take-le, append_assoc, append-nil}
use Rattle.trace_model.specs.Record.{Record}
use Rattle.trace_model.specs.Partition.{Piece, IsPartition, covered_count, first_from}
use Rattle.trace_model.specs.Ring.{TakenFill}
use Rattle.ring_model.specs.KeptPartition.{covered_total}
use Rattle.ring_model.proofs.links.FramePhases.{none_some}
use Rattle.std.specs.List.{slice_get}

-- one piece more after the others, if there was no rest
pub partition_snoc : (records : List Record) (pieces : List Piece) (lost : List Record) (p : Piece)
    → IsPartition records pieces [] → length lost ≡ p.skipped
    → IsPartition (records ++ (lost ++ p.records)) (pieces ++ p ∷ []) []
partition_snoc records [] lost p partition size = (
  lost,
  [],
  size,
  ap (λ (l : List Record). l ++ (lost ++ p.records)) partition
      ∙ ap (λ (l : List Record). lost ++ l) (sym (append-nil p.records)),
  refl,
)
partition_snoc records (q ∷ pieces) lost p (skipped, behind, is, cut, partition) size = (
  skipped,
  behind ++ (lost ++ p.records),
  is,
  ap (λ (l : List Record). l ++ (lost ++ p.records)) cut
      ∙ append_assoc skipped (q.records ++ behind) (lost ++ p.records)
      ∙ ap (λ (l : List Record). skipped ++ l) (append_assoc q.records behind (lost ++ p.records)),
  partition_snoc behind pieces lost p partition size,
)

-- a rest after all pieces
pub partition_rest : (records : List Record) (pieces : List Piece) (rest : List Record) → IsPartition records pieces []
    → IsPartition (records ++ rest) pieces rest
partition_rest records [] rest partition = ap (λ (l : List Record). l ++ rest) partition
partition_rest records (q ∷ pieces) rest (skipped, behind, is, cut, partition) = (
  skipped,
  behind ++ rest,
  is,
  ap (λ (l : List Record). l ++ rest) cut ∙ append_assoc skipped (q.records ++ behind) rest
      ∙ ap (λ (l : List Record). skipped ++ l) (append_assoc q.records behind rest),
  partition_rest behind pieces rest partition,
)

-- ---- parts of a list

-- the records up to b, cut at a
pub take_split : {A : Type 0} (a b : ℕ) (xs : List A) → a ≤ b → b ≤ length xs
    → (lost : List A) × (length lost ≡ b - a) × (take b xs ≡ take a xs ++ lost)
take_split zero b xs le low = (take b xs, length-take-le b xs low ∙ (let e : b ≡ b - 0 = omega arith in e), refl)
take_split (suc a) zero xs le low = absurd (omega arith)
take_split (suc a) (suc b) [] le low = absurd (omega arith)
take_split {A = A} (suc a) (suc b) (x ∷ xs) le low =
    let (lost, size, is) =
    take_split a b xs (omega arith) (omega arith) in
    (lost, size ∙ (let e : b - a ≡ suc b - suc a = omega arith in e), ap (λ (l : List A). x ∷ l) is)

pub take_map : {A B : Type 0} (f : A → B) (n : ℕ) (xs : List A) → take n (map f xs) ≡ map f (take n xs)
take_map f zero xs = refl
take_map f (suc n) [] = refl
take_map {B = B} f (suc n) (x ∷ xs) = ap (λ (l : List B). f x ∷ l) (take_map f n xs)

-- ---- first numbers

pub first_old : (number : ℕ) (pieces : List Piece) (q : Piece) (k f : ℕ) → first_from number pieces k ≡ Some f
    → first_from number (pieces ++ q ∷ []) k ≡ Some f
first_old number [] q k f at = absurd (none_some at)
first_old number (p ∷ pieces) q zero f at = at
first_old number (p ∷ pieces) q (suc k) f at = first_old (number + covered_count p) pieces q k f at

pub first_new : (number : ℕ) (pieces : List Piece) (q : Piece)
    → first_from number (pieces ++ q ∷ []) (length pieces) ≡ Some (number + covered_total pieces + q.skipped)
first_new number [] q = ap Some (let e : number + q.skipped ≡ number + 0 + q.skipped = omega arith in e)
first_new number (p ∷ pieces) q =
    first_new (number + covered_count p) pieces q
    ∙ ap Some
    (let e : number + covered_count p + covered_total pieces + q.skipped
    ≡ number + (covered_count p + covered_total pieces) + q.skipped =
    omega arith in
    e)

pub covered_total-snoc : (pieces : List Piece) (q : Piece)
    → covered_total (pieces ++ q ∷ []) ≡ covered_total pieces + covered_count q
covered_total-snoc [] q = let e : covered_count q + 0 ≡ 0 + covered_count q = omega arith in e
covered_total-snoc (p ∷ pieces) q = let rest = covered_total-snoc pieces q in omega arith

pub get_snoc : (xs : List TakenFill) (x y : TakenFill) (k : ℕ) → slice_get (xs ++ x ∷ []) k ≡ Some y
    → (slice_get xs k ≡ Some y) ⊎ ((k ≡ length xs) × (x ≡ y))
get_snoc [] x y zero at = inr (refl, same_taken x y at)
  where
    same_taken : (a b : TakenFill) → Some a ≡ Some b → a ≡ b
    same_taken a b e = cc
get_snoc [] x y (suc k) at = absurd (none_some at)
get_snoc (z ∷ xs) x y zero at = inl at
get_snoc (z ∷ xs) x y (suc k) at = ⊎_elim (λ a. inl a) (λ (e, same). inr (ap suc e, same)) (get_snoc xs x y k at)
