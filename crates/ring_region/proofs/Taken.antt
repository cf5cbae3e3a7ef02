-- Parcels that are genuine for a partition of the CPU's records were taken from it.
use Rattle.std.proofs.Common.{◌≡◌, ℕ, ◌+◌, ◌≤◌, List, [], ◌∷◌, ◌++◌, length, Some, ap, subst, arith, length-append}
use Rattle.std.specs.List.{slice_get}
use Rattle.trace_model.specs.Record.{Record}
use Rattle.trace_model.specs.Partition.{Piece, IsPartition}
use Rattle.trace_model.specs.Parcel.{Parcel, AreGenuine}
use Rattle.trace_model.proofs.collections.FirstNumbers.{own_records, count_is_first}
use Rattle.trace_model.proofs.collections.Genuine.{genuine_agree}
use Rattle.ring_region.specs.Order.{end_of}
use Rattle.ring_region.specs.Agreement.{IsPartOf, AreTaken}

-- what pieces leave is no longer than the whole
rest_within : (records : List Record) (pieces : List Piece) (rest : List Record) → IsPartition records pieces rest
    → length rest ≤ length records
rest_within records [] rest is = let same = ap (length {A = Record}) is in omega arith
rest_within records (p ∷ pieces) rest (lost, behind, count, whole, others) =
    let under = rest_within behind pieces rest others in
    omega (
      arith,
      under,
      ap (length {A = Record}) whole,
      length-append lost (p.records ++ behind),
      length-append p.records behind,
    )

module _ (records : ℕ → List Record) (pieces : ℕ → List Piece) (rest : ℕ → List Record) (before : List Parcel)
    (cpu taken : ℕ)
    (partition : (c : ℕ) → IsPartition (records c) (pieces c) (rest c)) (genuine : AreGenuine before pieces)
    (left : taken + length (rest cpu) ≡ length (records cpu)) where
  part : (k : ℕ) (parcel : Parcel) → slice_get before k ≡ Some parcel → IsPartOf (records parcel.cpu) parcel
  part k parcel at =
      let g = genuine k parcel at in λ index r there.
      own_records (records parcel.cpu) (pieces parcel.cpu) (rest parcel.cpu) g.index
      (record { skipped = parcel.missed; records = parcel.records }) parcel.first index r
      (partition parcel.cpu) g.piece_is g.first_is there

  end : (k : ℕ) (parcel : Parcel) → slice_get before k ≡ Some parcel
      → end_of parcel + length (rest parcel.cpu) ≤ length (records parcel.cpu)
  end k parcel at =
      let g = genuine k parcel at in
      let s =
      count_is_first (records parcel.cpu) (pieces parcel.cpu) (rest parcel.cpu) g.index
      (record { skipped = parcel.missed; records = parcel.records }) parcel.first
      (partition parcel.cpu) g.piece_is g.first_is in
      let under = rest_within s.behind _ (rest parcel.cpu) s.others in
      omega (
        arith,
        under,
        s.number,
        ap (length {A = Record}) s.whole,
        length-append s.before (s.lost ++ (parcel.records ++ s.behind)),
        length-append s.lost (parcel.records ++ s.behind),
        length-append parcel.records s.behind,
      )

  pub are_taken : AreTaken (records cpu) cpu taken before
  are_taken = record {
    agree = genuine_agree records pieces rest before partition genuine;
    parts = λ k parcel at same. subst (λ (c : ℕ). IsPartOf (records c) parcel) same (part k parcel at);
    ends = λ k parcel at same.
        let under = subst (λ (c : ℕ). end_of parcel + length (rest c) ≤ length (records c)) same (end k parcel at) in
        omega (arith, under, left);
  }
