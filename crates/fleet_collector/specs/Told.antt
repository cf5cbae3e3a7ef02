-- What pieces state of each stream, whatever their order and repeats; and the fleet that is exactly what they state.
use Rattle.std.specs.Prelude.{◌≡◌, ◌↔◌, ◌⊎◌, ℕ, ◌<◌, ◌≤◌, List, Some}
use Rattle.std.specs.List.{slice_get}
use Rattle.trace_model.specs.Record.{Record}
use Rattle.trace_model.specs.Parcel.{Parcel, IsPairOf, IsMissingOf}
use Rattle.trace_model.specs.Collection.{Misses}
use Rattle.parcel_streams.specs.Pieces.{Packed, parcel_piece, mark_piece}
use Rattle.parcel_streams.specs.declared.piece.Mark.TheVariants.{End, Forgotten, Undelivered}
use Rattle.stream_collector.specs.Stream.{Stream, bound_of, end_of, HasRecord, IsMissing}
use Rattle.fleet_collector.specs.Fleet.{stream_at}
use Rattle.fleet_collector.specs.Listing.{Line, IsTimeOrdered, line_for}

-- the stream that a piece is of
abbrev pub stream_of : Packed → ℕ
stream_of (parcel_piece stream parcel time contents) = stream
stream_of (mark_piece stream cpu mark) = stream

-- the piece is one of these
abbrev pub IsPieceOf : List Packed → Packed → Type 0
IsPieceOf pieces piece = (k : ℕ) × (slice_get pieces k ≡ Some piece)

-- one of them says that a CPU of a stream has `count` records
abbrev pub TellEnd : List Packed → (stream cpu count : ℕ) → Type 0
TellEnd pieces stream cpu count = IsPieceOf pieces (mark_piece stream cpu (End count))

-- one of them says that what is below this bound of the CPU was forgotten
abbrev pub TellForgotten : List Packed → (stream cpu bound : ℕ) → Type 0
TellForgotten pieces stream cpu bound = IsPieceOf pieces (mark_piece stream cpu (Forgotten bound))

-- one of them says that the number was given up, with others
pub record TellGivenUp (pieces : List Packed) (stream cpu number : ℕ) : Type 0 where
  pub first : ℕ
  pub end : ℕ
  pub told : IsPieceOf pieces (mark_piece stream cpu (Undelivered first end))
  pub from : first ≤ number
  pub below : number < end

-- one of them is this parcel of the stream
pub record TellParcel (pieces : List Packed) (stream : ℕ) (parcel : Parcel) : Type 0 where
  pub time : ℕ
  pub contents : List ℕ
  pub told : IsPieceOf pieces (parcel_piece stream parcel time contents)

-- One of their parcels says this of the number, and none of them says that the number was forgotten.
pub record TellOfNumber (says : Parcel → Type 0) (pieces : List Packed) (stream cpu number : ℕ) : Type 0 where
  pub parcel : Parcel
  pub told : TellParcel pieces stream parcel
  pub says_it : says parcel
  pub kept : (bound : ℕ) → TellForgotten pieces stream cpu bound → bound ≤ number

-- the number has this record, and wasn't forgotten
abbrev pub TellRecord : List Packed → (stream cpu number : ℕ) → Record → Type 0
TellRecord pieces stream cpu number r = TellOfNumber (λ parcel. IsPairOf parcel cpu number r) pieces stream cpu number

-- the number is missing, and wasn't forgotten
abbrev pub TellMissing : List Packed → (stream cpu number : ℕ) → Type 0
TellMissing pieces stream cpu number = TellOfNumber (λ parcel. IsMissingOf parcel cpu number) pieces stream cpu number

-- the bound is the greatest that they state, or 0 if they state none
pub record IsBoundTold (pieces : List Packed) (stream cpu bound : ℕ) : Type 0 where
  pub highest : (other : ℕ) → TellForgotten pieces stream cpu other → other ≤ bound
  pub told : (bound ≡ 0) ⊎ TellForgotten pieces stream cpu bound

-- What is known of this stream is exactly what the pieces state of it: the bound and the end of each CPU,
-- from the bounds on the records and the missing numbers, and the numbers that were given up.
pub record IsStreamOf (pieces : List Packed) (id : ℕ) (stream : Stream) : Type 0 where
  pub bounds : (cpu : ℕ) → IsBoundTold pieces id cpu (bound_of stream cpu)
  pub ends : (cpu count : ℕ) → ((end_of stream cpu ≡ Some count) ↔ TellEnd pieces id cpu count)
  pub records : (cpu number : ℕ) (r : Record) → (HasRecord stream cpu number r ↔ TellRecord pieces id cpu number r)
  pub missing : (cpu number : ℕ) → (IsMissing stream cpu number ↔ TellMissing pieces id cpu number)
  pub given_up : (cpu number : ℕ) → (Misses stream.given_up cpu number ↔ TellGivenUp pieces id cpu number)

-- So it is with each stream of the fleet, also with those that aren't there: the fleet is that of these pieces.
pub record IsFleetOf (pieces : List Packed) (fleet : List (ℕ × Stream)) : Type 0 where
  pub streams : (id : ℕ) → IsStreamOf pieces id (stream_at fleet id)

-- both have the same pieces, in some order, each once or more often
abbrev pub HaveSamePieces : List Packed → List Packed → Type 0
HaveSamePieces pieces others = (piece : Packed) → (IsPieceOf pieces piece ↔ IsPieceOf others piece)

-- The listing of what the pieces state: a line for each record of it, and no other, in strict order.
pub record IsListingOf (pieces : List Packed) (lines : List Line) : Type 0 where
  pub ordered : IsTimeOrdered lines
  pub of_them : (k : ℕ) (line : Line)
      → slice_get lines k ≡ Some line
      → TellRecord pieces line.stream line.cpu line.number record { moment = line.moment; bytes = line.bytes }
  pub whole : (stream cpu number : ℕ) (r : Record)
      → TellRecord pieces stream cpu number r
      → (k : ℕ) × (slice_get lines k ≡ Some (line_for stream cpu number r))
