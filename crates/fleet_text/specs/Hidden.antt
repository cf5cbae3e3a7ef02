-- The numbers that marks hide: of the records that pieces have, those below a bound that is among the pieces.
use Rattle.std.specs.Prelude.{◌≡◌, ◌↔◌, ◌⊎◌, ℕ, zero, suc, ◌+◌, ◌<◌, List, [], ◌∷◌, length, map, flat_map, codes}
use Rattle.trace_model.specs.Record.{Record}
use Rattle.trace_model.specs.Parcel.{Parcel, IsPairOf}
use Rattle.trace_model.specs.Collection.{Misses}
use Rattle.parcel_streams.specs.Pieces.{Packed, parcel_piece, mark_piece}
use Rattle.stream_collector.specs.Stream.{Stream, bound_of}
use Rattle.capture_text.specs.declared.form.Form.{Form}
use Rattle.fleet_collector.specs.Fleet.{stream_at}
use Rattle.fleet_collector.specs.Told.{TellParcel, TellForgotten}
use Rattle.fleet_text.specs.Printing.{run_line}
use Rattle.fleet_text.specs.declared.hidden.Hidden.{Hidden}
use Rattle.fleet_text.specs.Runs.{Run, run_seen, InRun, AreRunsOf}

-- One of the pieces is a parcel that has a record of this number, and another one says that what is below a greater
-- bound was forgotten: the record isn't listed, and the mark alone is why.
pub record TellHidden (pieces : List Packed) (stream cpu number : ℕ) : Type 0 where
  pub parcel : Parcel
  pub told : TellParcel pieces stream parcel
  pub hidden_record : Record
  pub has : IsPairOf parcel cpu number hidden_record
  pub bound : ℕ
  pub forgotten : TellForgotten pieces stream cpu bound
  pub below : number < bound

-- the runs of the numbers that marks among the pieces hide
abbrev pub AreHiddenRuns : List Packed → List Run → Type 0
AreHiddenRuns pieces runs = AreRunsOf (TellHidden pieces) runs

-- their lines
abbrev pub hidden_text : Form → List Run → List ℕ
hidden_text form runs = flat_map (run_line form (codes "hidden")) runs

-- ---- the numbers that were given

-- the run of `count` numbers from `first` on, if there are any
abbrev pub run_from : (stream cpu first count : ℕ) → List Run
run_from stream cpu first zero = []
run_from stream cpu first (suc more) =
    record { stream = stream; cpu = cpu; first = first; last = first + more } ∷ []

-- the run of the numbers of which a piece has records
abbrev pub given_by : Packed → List Run
given_by (parcel_piece stream parcel time contents) =
    run_from stream parcel.cpu parcel.first (length parcel.records)
given_by (mark_piece stream cpu mark) = []

-- those of all pieces, in their order
abbrev pub given_by_all : List Packed → List Run
given_by_all pieces = flat_map given_by pieces

-- some of these runs has the number, which is below the bound of its CPU
pub record IsBelowBound (runs : List Run) (fleet : List (ℕ × Stream)) (stream cpu number : ℕ) : Type 0 where
  pub in_run : InRun runs stream cpu number
  pub below : number < bound_of (stream_at fleet stream) cpu

-- ---- those of them that are hidden, noted as numbers of another fleet that were given up

-- the numbers of a run that are below the bound of its CPU were noted beside others
pub record NotesOne (run : Run) (fleet old new : List (ℕ × Stream)) : Type 0 where
  pub noted : (stream cpu number : ℕ) → (Misses (stream_at new stream).given_up cpu number
      ↔ (Misses (stream_at old stream).given_up cpu number ⊎ IsBelowBound (run ∷ []) fleet stream cpu number))
  pub parcels : (stream : ℕ) → (stream_at new stream).parcels ≡ (stream_at old stream).parcels

-- those of these runs were noted, and nothing else
pub record IsNoted (runs : List Run) (fleet noted : List (ℕ × Stream)) : Type 0 where
  pub exactly : (stream cpu number : ℕ) → (Misses (stream_at noted stream).given_up cpu number
      ↔ IsBelowBound runs fleet stream cpu number)
  pub no_parcels : (stream : ℕ) → (stream_at noted stream).parcels ≡ []

abbrev pub hidden_of : Hidden → List Run
hidden_of hidden = map run_seen hidden.runs.items
