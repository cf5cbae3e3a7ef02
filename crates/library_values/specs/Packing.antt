-- What packing makes of a parcel's bytes.
use Rattle.std.specs.Prelude.{ℕ, List}
use Rattle.trace_model.specs.Parcel.{Parcel}
use Rattle.trace_model.specs.ParcelBytes.{DecodesParcel}
use Rattle.parcel_streams.specs.Pieces.{parcel_piece, bytes_of_piece, IsPiece}
use Rattle.stream_collector.specs.Stream.{Stream}
use Rattle.fleet_collector.specs.Snapshot.{IsSnapshot}
use Rattle.library_values.specs.declared.buffer.Put.{Put}
use Rattle.library_values.specs.Buffer.{PutsSo}

-- The bytes read as a parcel, and a piece of this stream that has it is put into the buffer, or has no room there.
pub record PacksSo (stream : ℕ) (bytes out : List ℕ) (put : Put) (left : List ℕ) : Type 0 where
  pub parcel : Parcel
  pub time : ℕ
  pub contents : List ℕ
  pub reads : DecodesParcel bytes parcel
  pub sound : IsPiece (parcel_piece stream parcel time contents)
  pub puts : PutsSo (bytes_of_piece (parcel_piece stream parcel time contents)) out put left

-- The pieces are put into the buffer, or have no room there, which state exactly what is known of a stream.
pub record PacksSnapshot (id : ℕ) (stream : Stream) (out : List ℕ) (put : Put) (left : List ℕ) : Type 0 where
  pub bytes : List ℕ
  pub is_snapshot : IsSnapshot id stream bytes
  pub puts : PutsSo bytes out put left
