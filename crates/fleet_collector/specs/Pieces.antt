-- What adding a piece makes of a fleet.
use Rattle.std.specs.Prelude.{◌≡◌, ℕ, ◌<◌, ◌≤◌, List, [], ◌∷◌, ◌++◌, ⊤, IsSome, Some, None}
use Rattle.trace_model.specs.Parcel.{Parcel}
use Rattle.trace_model.specs.Collection.{Agree, IsBelow}
use Rattle.trace_model.specs.declared.limits.TheConstants.{MAX_CPUS}
use Rattle.page_numbers.specs.Parcels.{as_parcel}
use Rattle.parcel_streams.specs.declared.piece.Mark.{Mark}
use Rattle.parcel_streams.specs.declared.piece.Mark.TheVariants.{End, Forgotten, Undelivered}
use Rattle.parcel_streams.specs.declared.piece.Piece.{Piece}
use Rattle.parcel_streams.specs.declared.piece.Piece.TheVariants.{Parcel as ParcelPiece, Mark as MarkPiece}
use Rattle.stream_collector.specs.Stream.{Stream, bound_of, end_of, IsUpToEnd}
use Rattle.stream_collector.specs.Faults.{IsForgotten, IsWithinEnd, IsNotAdded}
use Rattle.stream_collector.specs.GivenUp.{GivesUp, AllGivenUp, IsUndeliveredFault}
use Rattle.stream_collector.specs.Marking.{IsNotOpen, HasEnd, IsEndFault}
use Rattle.stream_collector.specs.Forgetting.{HasBound, IsBoundFault}
use Rattle.collector.specs.declared.fault.AddFault.TheVariants.{NoMemory}
use Rattle.stream_collector.specs.declared.fault.MarkFault.{MarkFault}
use Rattle.stream_collector.specs.declared.fault.AddFault.{AddFault}
use Rattle.stream_collector.specs.declared.fault.AddFault.TheVariants.{Refused}
use Rattle.stream_collector.specs.declared.added.Added.{Added}
use Rattle.stream_collector.specs.declared.added.Added.TheVariants.{New, Known, Forgotten as IsNotKept}
use Rattle.fleet_collector.specs.declared.refusal.PieceRefusal.{PieceRefusal}
use Rattle.fleet_collector.specs.declared.refusal.PieceRefusal.TheVariants.{Parcel as ParcelRefused}
use Rattle.fleet_collector.specs.declared.refusal.PieceRefusal.TheVariants.{Mark as MarkRefused}
use Rattle.fleet_collector.specs.Fleet.{known_of, stream_at, KeepsOthers}

-- ---- a parcel

-- A parcel says something new, and doesn't end below its CPU's bound: it is kept as the last of its stream's, with
-- which it agrees, and has and misses nothing beyond an end. All other streams stay.
pub record AddsNewParcel (old new : List (ℕ × Stream)) (stream : ℕ) (parcel : Parcel) : Type 0 where
  pub others : KeepsOthers old new stream
  pub kept : known_of new stream
      ≡ Some record (stream_at old stream) { parcels = (stream_at old stream).parcels ++ parcel ∷ [] }
  pub agree : Agree (stream_at new stream).parcels
  pub within : IsWithinEnd (stream_at old stream) parcel
  pub not_there : IsBelow (parcel ∷ []) (stream_at old stream).parcels → ⊥
  pub not_forgotten : IsForgotten (stream_at old stream) parcel → ⊥

-- all that it says is there already, it doesn't end below its CPU's bound, and all stays
pub record HasParcel (old new : List (ℕ × Stream)) (stream : ℕ) (parcel : Parcel) : Type 0 where
  pub unchanged : new ≡ old
  pub there : IsBelow (parcel ∷ []) (stream_at old stream).parcels
  pub within : IsWithinEnd (stream_at old stream) parcel
  pub not_forgotten : IsForgotten (stream_at old stream) parcel → ⊥

-- it does one of these, or it ends below its CPU's bound, and all stays
abbrev pub AddsParcel : (old new : List (ℕ × Stream)) (stream : ℕ) → Parcel → Added → Type 0
AddsParcel old new stream parcel New = AddsNewParcel old new stream parcel
AddsParcel old new stream parcel Known = HasParcel old new stream parcel
AddsParcel old new stream parcel IsNotKept = (new ≡ old) × IsForgotten (stream_at old stream) parcel

-- ---- a mark of a CPU

-- the CPU had no end, and has this one afterwards, above all numbers that aren't open
pub record MarksEnd (old new : Stream) (cpu end : ℕ) : Type 0 where
  pub first : end_of old cpu ≡ None
  pub ended : HasEnd old new cpu end
  pub nothing_beyond : (number : ℕ) → IsNotOpen old cpu number → number < end

-- the CPU's bound is raised to this one, which isn't above the end
pub record MarksForgotten (old new : Stream) (cpu bound : ℕ) : Type 0 where
  pub higher : bound_of old cpu < bound
  pub raised : HasBound old new cpu bound
  pub given_up : new.given_up ≡ old.given_up
  pub within : IsUpToEnd old cpu bound

-- some of these numbers weren't given up, and all of them are afterwards; none is at or beyond the end
pub record MarksGivenUp (old new : Stream) (cpu first end : ℕ) : Type 0 where
  pub not_there : AllGivenUp old.given_up cpu first end → ⊥
  pub given_up : GivesUp old.given_up new.given_up cpu first end
  pub parcels : new.parcels ≡ old.parcels
  pub marks : new.marks ≡ old.marks
  pub within : first < end → IsUpToEnd old cpu end

-- by the kind of the mark
abbrev pub IsMarked : Mark → (cpu : ℕ) → (old new : Stream) → Type 0
IsMarked (End count) cpu old new = MarksEnd old new cpu count
IsMarked (Forgotten bound) cpu old new = MarksForgotten old new cpu bound
IsMarked (Undelivered first end) cpu old new = MarksGivenUp old new cpu first end

-- what it says is there already
abbrev pub HasMark : Stream → (cpu : ℕ) → Mark → Type 0
HasMark stream cpu (End count) = end_of stream cpu ≡ Some count
HasMark stream cpu (Forgotten bound) = bound ≤ bound_of stream cpu
HasMark stream cpu (Undelivered first end) = AllGivenUp stream.given_up cpu first end

-- a mark says something new: its stream is marked and there, and all others stay
pub record AddsNewMark (old new : List (ℕ × Stream)) (stream cpu : ℕ) (mark : Mark) : Type 0 where
  pub others : KeepsOthers old new stream
  pub there : IsSome (known_of new stream)
  pub marked : IsMarked mark cpu (stream_at old stream) (stream_at new stream)

-- it does this, or all that it says is there, and all stays
abbrev pub AddsMark : (old new : List (ℕ × Stream)) (stream cpu : ℕ) → Mark → Added → Type 0
AddsMark old new stream cpu mark New = AddsNewMark old new stream cpu mark
AddsMark old new stream cpu mark Known = (new ≡ old) × HasMark (stream_at old stream) cpu mark
AddsMark old new stream cpu mark IsNotKept = ⊥

-- ---- a piece

-- a mark is of a CPU that there is, as each parcel is
abbrev pub HasKnownCpu : Piece → Type 0
HasKnownCpu (ParcelPiece stream parcel) = ⊤
HasKnownCpu (MarkPiece stream cpu mark) = cpu.0 < MAX_CPUS

-- by the kind of the piece
abbrev pub AddsPiece : (old new : List (ℕ × Stream)) → Piece → Added → Type 0
AddsPiece old new (ParcelPiece stream parcel) added = AddsParcel old new stream.0 (as_parcel parcel) added
AddsPiece old new (MarkPiece stream cpu mark) added = AddsMark old new stream.0 cpu.0 mark added

-- ---- why it isn't added

-- why a parcel isn't: it has this fault, and doesn't end below its CPU's bound; memory is refused only if it says
-- something new
pub record IsParcelRefusal (stream : Stream) (parcel : Parcel) (fault : AddFault) : Type 0 where
  pub fault_is : IsNotAdded stream parcel fault
  pub not_forgotten : IsForgotten stream parcel → ⊥
  pub no_memory : fault ≡ Refused NoMemory → IsBelow (parcel ∷ []) stream.parcels → ⊥

-- why a mark isn't
abbrev pub IsMarkRefusal : Stream → (cpu : ℕ) → Mark → MarkFault → Type 0
IsMarkRefusal stream cpu (End count) fault = IsEndFault stream cpu count fault
IsMarkRefusal stream cpu (Forgotten bound) fault = IsBoundFault stream cpu bound fault
IsMarkRefusal stream cpu (Undelivered first end) fault = IsUndeliveredFault stream cpu first end fault

-- why a piece isn't
abbrev pub IsRefusal : List (ℕ × Stream) → Piece → PieceRefusal → Type 0
IsRefusal fleet (ParcelPiece stream parcel) (ParcelRefused fault) =
    IsParcelRefusal (stream_at fleet stream.0) (as_parcel parcel) fault
IsRefusal fleet (ParcelPiece stream parcel) (MarkRefused fault) = ⊥
IsRefusal fleet (MarkPiece stream cpu mark) (ParcelRefused fault) = ⊥
IsRefusal fleet (MarkPiece stream cpu mark) (MarkRefused fault) =
    IsMarkRefusal (stream_at fleet stream.0) cpu.0 mark fault
