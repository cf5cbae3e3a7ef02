-- Genuine parcels of one partition for each CPU never clash.
use Rattle.std.proofs.Common.{◌≡◌, ℕ, ◌<◌, List, length, Some, sym, ◌∙◌, subst, arith}
use Rattle.std.proofs.lemmas.Option.{slice_get_within}
use Rattle.std.specs.List.{slice_get}
use Rattle.trace_model.specs.Record.{Record}
use Rattle.trace_model.specs.Partition.{Piece, IsPartition}
use Rattle.trace_model.specs.Parcel.{Parcel, IsGenuine, AreGenuine}
use Rattle.trace_model.specs.Collection.{Has, Misses, Agree}
use Rattle.trace_model.proofs.collections.Elements.{some_is}
use Rattle.trace_model.proofs.collections.FirstNumbers.{own_records, first_within, own_or_skipped}

-- what parcels have under a CPU and a number is that CPU's record of that number
pub has_of_records : (records : ℕ → List Record) (pieces : ℕ → List Piece) (rest : ℕ → List Record)
    (parcels : List Parcel) (cpu number : ℕ) (r : Record)
    → ((c : ℕ) → IsPartition (records c) (pieces c) (rest c)) → AreGenuine parcels pieces → Has parcels cpu number r
    → slice_get (records cpu) number ≡ Some r
has_of_records records pieces rest parcels cpu number r partition genuine h =
    let parcel = h.parcel in
    let g = genuine h.index parcel h.at in
    (λ i. slice_get (records (h.pair.cpu_is i)) (h.pair.number_is i))
    ∙ own_records (records parcel.cpu) (pieces parcel.cpu) (rest parcel.cpu) g.index
    record { skipped = parcel.missed; records = parcel.records } parcel.first h.pair.index r (partition parcel.cpu)
    g.piece_is g.first_is h.pair.record_is

-- a number that they miss is that of a record of its CPU
pub misses_of_records : (records : ℕ → List Record) (pieces : ℕ → List Piece) (rest : ℕ → List Record)
    (parcels : List Parcel) (cpu number : ℕ)
    → ((c : ℕ) → IsPartition (records c) (pieces c) (rest c)) → AreGenuine parcels pieces → Misses parcels cpu number
    → number < length (records cpu)
misses_of_records records pieces rest parcels cpu number partition genuine m =
    let parcel = m.parcel in
    let g = genuine m.index parcel m.at in
    let high = m.missing.high in
    let within =
    first_within (records parcel.cpu) (pieces parcel.cpu) (rest parcel.cpu) g.index
    record { skipped = parcel.missed; records = parcel.records } parcel.first (partition parcel.cpu) g.piece_is
    g.first_is in
    subst (λ (c : ℕ). number < length (records c)) (sym m.missing.cpu_is) (omega arith)

-- they have no record under a number that they miss
not_both : (pieces : ℕ → List Piece) (parcels : List Parcel) (cpu number : ℕ) (r : Record) → AreGenuine parcels pieces
    → Has parcels cpu number r → Misses parcels cpu number → ⊥
not_both pieces parcels cpu number r genuine h m =
    let with_record : IsGenuine h.parcel (pieces cpu) =
    subst (λ (c : ℕ). IsGenuine h.parcel (pieces c)) (sym h.pair.cpu_is) (genuine h.index h.parcel h.at) in
    let without : IsGenuine m.parcel (pieces cpu) =
    subst (λ (c : ℕ). IsGenuine m.parcel (pieces c)) (sym m.missing.cpu_is) (genuine m.index m.parcel m.at) in
    let number_is = h.pair.number_is in
    let within = slice_get_within h.parcel.records h.pair.index r h.pair.record_is in
    let low = m.missing.low in
    let high = m.missing.high in
    own_or_skipped 0 (pieces cpu) with_record.index without.index
    record { skipped = h.parcel.missed; records = h.parcel.records }
    record { skipped = m.parcel.missed; records = m.parcel.records }
    h.parcel.first m.parcel.first number with_record.piece_is without.piece_is with_record.first_is without.first_is
    (omega arith) (omega arith) low high

pub genuine_agree : (records : ℕ → List Record) (pieces : ℕ → List Piece) (rest : ℕ → List Record)
    (parcels : List Parcel)
    → ((c : ℕ) → IsPartition (records c) (pieces c) (rest c)) → AreGenuine parcels pieces → Agree parcels
genuine_agree records pieces rest parcels partition genuine = record {
  one_record = λ cpu number r other h that. some_is r other
      (sym (has_of_records records pieces rest parcels cpu number r partition genuine h)
      ∙ has_of_records records pieces rest parcels cpu number other partition genuine that);
  not_missing = λ cpu number r h m. not_both pieces parcels cpu number r genuine h m;
}
