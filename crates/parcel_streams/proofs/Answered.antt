-- An answer and what the bytes are decide each other.
use Rattle.std.proofs.Common.{◌≡◌, ◌⊎◌, inl, inr, ⊎_elim, ◌↔◌, ℕ, List, Result, Ok, Err, IfOk, IfErr, MatchResult, refl}
use Rattle.std.proofs.Common.{sym, ap, ◌∙◌, subst}
use Rattle.trace_model.specs.Faults.{cut as cut_word, bad_length as bad_word_length, time_overflow}
use Rattle.trace_model.specs.Image.{ImageCause, too_short, bad_size, bad_count, bad_word}
use Rattle.trace_model.specs.ParcelBytes.{ParcelCause, bad_cpu, bad_image, number_overflow, missed_too_many}
use Rattle.trace_model.specs.ParcelBytes.{missed_differs}
use Rattle.record_words.specs.declared.next.WordFault.TheVariants.{Cut as CutWord, BadLength as BadWordLength}
use Rattle.record_words.specs.declared.next.WordFault.TheVariants.{TimeOverflow}
use Rattle.page_image.specs.declared.image.ImageFault.{ImageFault}
use Rattle.page_image.specs.declared.image.ImageFault.TheVariants.{TooShort, BadSize, BadCount, Word}
use Rattle.page_image.specs.declared.image.ImageFault.TheVariants.{NoMemory as MemoryInImage}
use Rattle.page_numbers.specs.declared.fault.ParcelFault.{ParcelFault}
use Rattle.page_numbers.specs.declared.fault.ParcelFault.TheVariants.{Image, NumberOverflow, MissedTooMany}
use Rattle.page_numbers.specs.declared.fault.ParcelFault.TheVariants.{MissedDiffers, BadCpu, NoMemory as MemoryThere}
use Rattle.page_numbers.specs.Faults.{parcel_fault}
use Rattle.parcel_streams.specs.declared.piece.Piece.{Piece}
use Rattle.parcel_streams.specs.declared.fault.PieceFault.{PieceFault}
use Rattle.parcel_streams.specs.declared.fault.PieceFault.TheVariants.{NotPacked, Cut, BadVersion, BadLength, BadSum}
use Rattle.parcel_streams.specs.declared.fault.PieceFault.TheVariants.{BadKind, Parcel, Loose, BadMark, NoMemory}
use Rattle.parcel_streams.specs.Pieces.{Packed, BeginsWith}
use Rattle.parcel_streams.specs.Faults.{PieceCause, not_packed, cut, bad_version, bad_length, bad_sum, bad_kind}
use Rattle.parcel_streams.specs.Faults.{bad_parcel, loose, bad_mark, FirstPieceFault}
use Rattle.parcel_streams.specs.Answers.{piece_seen, piece_fault, HasPiece, IsPieceFault}
use Rattle.parcel_streams.proofs.Readings.{one_piece}
use Rattle.parcel_streams.proofs.OneFault.{one_fault, piece_no_fault}

-- ---- a parcel's fault names one cause

image_cause : ImageFault → ImageCause
image_cause TooShort = too_short
image_cause BadSize = bad_size
image_cause BadCount = bad_count
image_cause (Word (CutWord at)) = bad_word cut_word at
image_cause (Word (BadWordLength at)) = bad_word bad_word_length at
image_cause (Word (TimeOverflow at)) = bad_word time_overflow at
image_cause MemoryInImage = too_short

parcel_cause : ParcelFault → ParcelCause
parcel_cause (Image fault) = bad_image (image_cause fault)
parcel_cause NumberOverflow = number_overflow
parcel_cause MissedTooMany = missed_too_many
parcel_cause MissedDiffers = missed_differs
parcel_cause BadCpu = bad_cpu
parcel_cause MemoryThere = bad_cpu

named : (cause : ParcelCause) → parcel_cause (parcel_fault cause) ≡ cause
unfolding parcel_cause image_cause
named bad_cpu = refl
named (bad_image too_short) = refl
named (bad_image bad_size) = refl
named (bad_image bad_count) = refl
named (bad_image (bad_word cut_word at)) = refl
named (bad_image (bad_word bad_word_length at)) = refl
named (bad_image (bad_word time_overflow at)) = refl
named number_overflow = refl
named missed_too_many = refl
named missed_differs = refl

same_cause : (cause other : ParcelCause) → parcel_fault cause ≡ parcel_fault other → other ≡ cause
same_cause cause other e = sym (named other) ∙ ap parcel_cause (sym e) ∙ named cause

-- ---- one piece

-- a fault that is reported names the cause that is there
pub cause_is : (bytes : List ℕ) (cause : PieceCause) → IsPieceFault bytes (piece_fault cause)
    → FirstPieceFault bytes cause
cause_is bytes not_packed is = is
cause_is bytes cut is = is
cause_is bytes bad_version is = is
cause_is bytes bad_length is = is
cause_is bytes bad_sum is = is
cause_is bytes bad_kind is = is
cause_is bytes (bad_parcel cause) is = subst (λ (c : ParcelCause). FirstPieceFault bytes (bad_parcel c))
    (same_cause cause is.0 is.1) is.2
cause_is bytes loose is = is
cause_is bytes bad_mark is = is

-- each fault that is reported has a cause, but for refused memory
pub fault_named : (bytes : List ℕ) (fault : PieceFault) → IsPieceFault bytes fault
    → (fault ≡ NoMemory) ⊎ ((cause : PieceCause) × (fault ≡ piece_fault cause) × FirstPieceFault bytes cause)
fault_named bytes NotPacked f = inr (not_packed, refl, f)
fault_named bytes Cut f = inr (cut, refl, f)
fault_named bytes BadVersion f = inr (bad_version, refl, f)
fault_named bytes BadLength f = inr (bad_length, refl, f)
fault_named bytes BadSum f = inr (bad_sum, refl, f)
fault_named bytes BadKind f = inr (bad_kind, refl, f)
fault_named bytes (Parcel fault) f = inr (bad_parcel f.0, ap Parcel f.1, f.2)
fault_named bytes Loose f = inr (loose, refl, f)
fault_named bytes BadMark f = inr (bad_mark, refl, f)
fault_named bytes NoMemory f = inl refl

-- if there is a cause, it is the one that is reported
reported_is : (bytes : List ℕ) (reported : PieceFault) (cause : PieceCause) → IsPieceFault bytes reported
    → FirstPieceFault bytes cause → reported ≡ piece_fault cause
reported_is bytes reported cause f g = ⊎_elim
    (λ refused. absurd (of_memory (subst (IsPieceFault bytes) refused f)))
    (λ faulty. faulty.1 ∙ ap piece_fault (one_fault bytes faulty.0 cause faulty.2 g))
    (fault_named bytes reported f)
  where
    of_memory : HasPiece bytes → ⊥
    of_memory has = piece_no_fault bytes has.0 cause has.1 g

-- the bytes begin with the piece that is read
abbrev pub ReadAs : List ℕ → Piece × ℕ → Type 0
ReadAs bytes read = BeginsWith bytes (piece_seen read.0)

reports_cause : (bytes : List ℕ) (r : Result (Piece × ℕ) PieceFault) (cause : PieceCause) → IfOk r (ReadAs bytes)
    → IfErr r (IsPieceFault bytes) → FirstPieceFault bytes cause → r ≡ Err (piece_fault cause)
reports_cause bytes (Ok read) cause reads fault is = absurd (piece_no_fault bytes (piece_seen read.0) cause reads is)
reports_cause bytes (Err reported) cause reads fault is = ap (λ (f : PieceFault). Err f)
    (reported_is bytes reported cause fault is)

pub fault-iff : (bytes : List ℕ) (r : Result (Piece × ℕ) PieceFault) (cause : PieceCause) → IfOk r (ReadAs bytes)
    → IfErr r (IsPieceFault bytes) → (r ≡ Err (piece_fault cause)) ↔ FirstPieceFault bytes cause
fault-iff bytes r cause reads fault = (
  λ e. cause_is bytes cause (subst (λ (x : Result (Piece × ℕ) PieceFault). IfErr x (IsPieceFault bytes)) e fault),
  λ is. reports_cause bytes r cause reads fault is,
)

-- no fault is there where a piece is
only_memory : (bytes : List ℕ) (piece : Packed) (fault : PieceFault) → BeginsWith bytes piece
    → IsPieceFault bytes fault → fault ≡ NoMemory
only_memory bytes piece fault b f = ⊎_elim (λ refused. refused)
    (λ faulty. absurd (piece_no_fault bytes piece faulty.0 b faulty.2)) (fault_named bytes fault f)

pub read_back : (bytes : List ℕ) (r : Result (Piece × ℕ) PieceFault) (piece : Packed) → IfOk r (ReadAs bytes)
    → IfErr r (IsPieceFault bytes) → BeginsWith bytes piece
    → MatchResult r (λ read. piece_seen read.0 ≡ piece) (λ fault. fault ≡ NoMemory)
read_back bytes (Ok read) piece reads fault is = one_piece bytes (piece_seen read.0) piece reads is
read_back bytes (Err reported) piece reads fault is = only_memory bytes piece reported is fault
