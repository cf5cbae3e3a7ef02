-- What is known of a stream, as packed pieces.
use Rattle.std.specs.Prelude.{◌≡◌, ℕ, zero, suc, ◌-◌, List, [], ◌∷◌, ◌++◌, map, Option, Some, None}
use Rattle.trace_model.specs.Parcel.{Parcel}
use Rattle.page_numbers.specs.Parcels.{ParcelValue, as_parcels}
use Rattle.parcel_streams.specs.Pieces.{Packed, mark_piece, AreAllPieces, bytes_of_pieces, IsStream}
use Rattle.parcel_streams.specs.Answers.{piece_of_parcel}
use Rattle.parcel_streams.specs.declared.piece.Mark.TheVariants.{End, Forgotten, Undelivered}
use Rattle.stream_collector.specs.Marks.{AreMarkedCpus}
use Rattle.stream_collector.specs.Stream.{Stream, bound_of, end_of}
use Rattle.fleet_collector.specs.Told.{stream_of, IsPieceOf, IsStreamOf}

-- The bytes are a stream of pieces, all of this stream, which state exactly what is known of it.
pub record IsSnapshot (id : ℕ) (stream : Stream) (bytes : List ℕ) : Type 0 where
  pub pieces : List Packed
  pub is_stream : IsStream bytes pieces
  pub own : (piece : Packed) → IsPieceOf pieces piece → stream_of piece ≡ id
  pub of_stream : IsStreamOf pieces id stream

-- ---- the pieces, part by part

-- the mark of a bound, if it is above 0
abbrev pub bound_pieces : (id cpu bound : ℕ) → List Packed
bound_pieces id cpu zero = []
bound_pieces id cpu (suc below) = mark_piece id cpu (Forgotten (suc below)) ∷ []

-- the mark of an end, if there is one
abbrev pub end_pieces : (id cpu : ℕ) → Option ℕ → List Packed
end_pieces id cpu None = []
end_pieces id cpu (Some end) = mark_piece id cpu (End end) ∷ []

-- the bound and the end of a CPU
abbrev pub marks_of : (id : ℕ) → Stream → (cpu : ℕ) → List Packed
marks_of id stream cpu = bound_pieces id cpu (bound_of stream cpu) ++ end_pieces id cpu (end_of stream cpu)

-- those of these CPUs
abbrev pub marks_of_all : (id : ℕ) → Stream → List ℕ → List Packed
marks_of_all id stream [] = []
marks_of_all id stream (cpu ∷ cpus) = marks_of id stream cpu ++ marks_of_all id stream cpus

-- the run of `missed` numbers before `first`, if there is any
abbrev pub run_pieces : (id cpu first missed : ℕ) → List Packed
run_pieces id cpu first zero = []
run_pieces id cpu first (suc more) = mark_piece id cpu (Undelivered (first - suc more) first) ∷ []

-- what these parcels miss
abbrev pub runs_of_all : (id : ℕ) → List Parcel → List Packed
runs_of_all id [] = []
runs_of_all id (p ∷ parcels) = run_pieces id p.cpu p.first p.missed ++ runs_of_all id parcels

-- the parcels
abbrev pub parcel_pieces : (id : ℕ) → List ParcelValue → List Packed
parcel_pieces id parcels = map (piece_of_parcel id) parcels

-- ---- what was put after some bytes

-- these pieces
pub record ArePut (before after : List ℕ) (pieces : List Packed) : Type 0 where
  pub sound : AreAllPieces pieces
  pub bytes : after ≡ before ++ bytes_of_pieces pieces

-- the marks of all CPUs that have any
pub record PutsMarks (id : ℕ) (stream : Stream) (before after : List ℕ) : Type 0 where
  pub cpus : List ℕ
  pub all : AreMarkedCpus stream.marks cpus
  pub put : ArePut before after (marks_of_all id stream cpus)

-- the parcels
pub record PutsParcels (id : ℕ) (parcels : List Parcel) (before after : List ℕ) : Type 0 where
  pub values : List ParcelValue
  pub all : as_parcels values ≡ parcels
  pub put : ArePut before after (parcel_pieces id values)
