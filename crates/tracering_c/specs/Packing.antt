-- What is answered to what is to be packed.
use Rattle.std.specs.Prelude.{◌≡◌, ℕ, ◌≤◌, ◌⊎◌, ◌↔◌, ℤ, List, Result, Err, IfOk, IfErr, OnOk, OnErr}
use Rattle.trace_model.specs.declared.limits.TheConstants.{MAX_CPUS}
use Rattle.page_numbers.specs.declared.fault.ParcelFault.{ParcelFault}
use Rattle.page_numbers.specs.declared.fault.ParcelFault.TheVariants.{BadCpu, NoMemory}
use Rattle.parcel_streams.specs.Pieces.{mark_piece, bytes_of_piece, IsPiece}
use Rattle.parcel_streams.specs.declared.piece.Mark.TheVariants.{End}
use Rattle.library_values.specs.CollectorAdding.{IsNoParcel}
use Rattle.fleet_collector.specs.Fleet.{stream_at}
use Rattle.library_values.specs.declared.buffer.Put.{Put}
use Rattle.library_values.specs.declared.listed_fleet.listed.ListedFleet.{ListedFleet}
use Rattle.library_values.specs.Buffer.{PutsSo}
use Rattle.library_values.specs.Packing as piece
use Rattle.tracering_c.specs.FleetCodes.{packed_code, packed_len}

-- The bytes are packed as a parcel, and its piece is put to the buffer, or has no room there; or they are no parcel, or
-- memory is refused, and nothing is put. The number and the length are those of the answer.
pub record PacksSo (stream : ℕ) (bytes out : List ℕ) (was : ℕ) (code : ℤ) (left : List ℕ) (len : ℕ) : Type 0 where
  pub answer : Result Put ParcelFault
  pub packs : IfOk answer (λ put. piece.PacksSo stream bytes out put left)
  pub fault : IfErr answer (λ fault. IsNoParcel bytes fault)
  pub refused : OnErr answer (left ≡ out)
  pub code_is : code ≡ packed_code answer
  pub len_is : len ≡ packed_len was answer

-- The mark is put to the buffer, or has no room there; or there is no such CPU, or memory is refused, and nothing is
-- put. The number and the length are those of the answer.
pub record PacksEnd (stream cpu count : ℕ) (out : List ℕ) (was : ℕ) (code : ℤ) (left : List ℕ) (len : ℕ)
    : Type 0 where
  pub answer : Result Put ParcelFault
  pub packs : IfOk answer (λ put. PutsSo (bytes_of_piece (mark_piece stream cpu (End count))) out put left)
  pub sound : OnOk answer (IsPiece (mark_piece stream cpu (End count)))
  pub bad_cpu : (answer ≡ Err BadCpu) ↔ (MAX_CPUS ≤ cpu)
  pub fault : IfErr answer (λ fault. (fault ≡ BadCpu) ⊎ (fault ≡ NoMemory))
  pub refused : OnErr answer (left ≡ out)
  pub code_is : code ≡ packed_code answer
  pub len_is : len ≡ packed_len was answer

-- The pieces that state exactly what is known of a stream are put to the buffer, or have no room there; or memory is
-- refused, and nothing is put. The number and the length are those of the answer.
pub record PacksStream (listed : ListedFleet) (stream : ℕ) (out : List ℕ) (was : ℕ) (code : ℤ) (left : List ℕ)
    (len : ℕ) : Type 0 where
  pub answer : Result Put ParcelFault
  pub packs : IfOk answer (λ put. piece.PacksSnapshot stream (stream_at listed.fleet stream) out put left)
  pub fault : IfErr answer (λ fault. fault ≡ NoMemory)
  pub refused : OnErr answer (left ≡ out)
  pub code_is : code ≡ packed_code answer
  pub len_is : len ≡ packed_len was answer
