-- An answer and what the bytes are decide each other.
use Rattle.std.proofs.Common.{◌≡◌, ◌↔◌, ℕ, List, Result, Ok, Err, IfOk, IfErr, MatchResult, refl, ap, subst}
use Rattle.trace_model.specs.Faults.{cut, bad_length, time_overflow}
use Rattle.trace_model.specs.Image.{too_short, bad_size, bad_count, bad_word}
use Rattle.trace_model.specs.Parcel.{Parcel}
use Rattle.trace_model.specs.ParcelBytes.{DecodesParcel, ParcelCause, bad_cpu, bad_image, number_overflow}
use Rattle.trace_model.specs.ParcelBytes.{missed_too_many, missed_differs, FirstParcelFault}
use Rattle.trace_model.proofs.images.Parcels.{DecodesParcel-FirstParcelFault, DecodesParcel-unique}
use Rattle.trace_model.proofs.images.Parcels.{FirstParcelFault-unique}
use Rattle.record_words.specs.declared.next.WordFault.TheVariants.{Cut, BadLength, TimeOverflow}
use Rattle.page_image.specs.declared.image.ImageFault.TheVariants.{TooShort, BadSize, BadCount, Word}
use Rattle.page_image.specs.declared.image.ImageFault.TheVariants.{NoMemory as MemoryThere}
use Rattle.page_numbers.specs.declared.fault.ParcelFault.{ParcelFault}
use Rattle.page_numbers.specs.declared.fault.ParcelFault.TheVariants.{Image, NumberOverflow, MissedTooMany}
use Rattle.page_numbers.specs.declared.fault.ParcelFault.TheVariants.{MissedDiffers, BadCpu, NoMemory}
use Rattle.page_numbers.specs.Parcels.{ParcelValue, as_parcel}
use Rattle.page_numbers.specs.Faults.{parcel_fault, IsParcelFault}

-- the bytes read as this parcel, whose page isn't looked at
abbrev pub ReadAs : List ℕ → ParcelValue → Type 0
ReadAs bytes parcel = DecodesParcel bytes (as_parcel parcel)

-- a fault that is reported names the cause that is there
cause_is : (bytes : List ℕ) (cause : ParcelCause) → IsParcelFault bytes (parcel_fault cause)
    → FirstParcelFault bytes cause
cause_is bytes bad_cpu is = is
cause_is bytes (bad_image too_short) is = is
cause_is bytes (bad_image bad_size) is = is
cause_is bytes (bad_image bad_count) is = is
cause_is bytes (bad_image (bad_word cut at)) is = is
cause_is bytes (bad_image (bad_word bad_length at)) is = is
cause_is bytes (bad_image (bad_word time_overflow at)) is = is
cause_is bytes number_overflow is = is
cause_is bytes missed_too_many is = is
cause_is bytes missed_differs is = is

reported_is : (bytes : List ℕ) (reported : ParcelFault) (cause : ParcelCause) → IsParcelFault bytes reported
    → FirstParcelFault bytes cause → reported ≡ parcel_fault cause
reported_is bytes (Image TooShort) cause f g =
    ap parcel_fault (FirstParcelFault-unique bytes (bad_image too_short) cause f g)
reported_is bytes (Image BadSize) cause f g =
    ap parcel_fault (FirstParcelFault-unique bytes (bad_image bad_size) cause f g)
reported_is bytes (Image BadCount) cause f g =
    ap parcel_fault (FirstParcelFault-unique bytes (bad_image bad_count) cause f g)
reported_is bytes (Image (Word (Cut at))) cause f g =
    ap parcel_fault (FirstParcelFault-unique bytes (bad_image (bad_word cut at)) cause f g)
reported_is bytes (Image (Word (BadLength at))) cause f g =
    ap parcel_fault (FirstParcelFault-unique bytes (bad_image (bad_word bad_length at)) cause f g)
reported_is bytes (Image (Word (TimeOverflow at))) cause f g =
    ap parcel_fault (FirstParcelFault-unique bytes (bad_image (bad_word time_overflow at)) cause f g)
reported_is bytes (Image MemoryThere) cause f g = absurd f
reported_is bytes NumberOverflow cause f g = ap parcel_fault (FirstParcelFault-unique bytes number_overflow cause f g)
reported_is bytes MissedTooMany cause f g = ap parcel_fault (FirstParcelFault-unique bytes missed_too_many cause f g)
reported_is bytes MissedDiffers cause f g = ap parcel_fault (FirstParcelFault-unique bytes missed_differs cause f g)
reported_is bytes BadCpu cause f g = ap parcel_fault (FirstParcelFault-unique bytes bad_cpu cause f g)
reported_is bytes NoMemory cause f g = absurd (DecodesParcel-FirstParcelFault bytes f.0 cause f.1 g)

-- if there is a cause, it is reported
reports_cause : (bytes : List ℕ) (r : Result ParcelValue ParcelFault) (cause : ParcelCause) → IfOk r (ReadAs bytes)
    → IfErr r (IsParcelFault bytes) → FirstParcelFault bytes cause → r ≡ Err (parcel_fault cause)
reports_cause bytes (Ok parcel) cause reads fault is =
    absurd (DecodesParcel-FirstParcelFault bytes (as_parcel parcel) cause reads is)
reports_cause bytes (Err reported) cause reads fault is =
    ap (λ (f : ParcelFault). Err f) (reported_is bytes reported cause fault is)

pub fault-iff : (bytes : List ℕ) (r : Result ParcelValue ParcelFault) (cause : ParcelCause) → IfOk r (ReadAs bytes)
    → IfErr r (IsParcelFault bytes) → (r ≡ Err (parcel_fault cause)) ↔ FirstParcelFault bytes cause
fault-iff bytes r cause reads fault = (
  λ e. cause_is bytes cause (subst (λ (x : Result ParcelValue ParcelFault). IfErr x (IsParcelFault bytes)) e fault),
  λ is. reports_cause bytes r cause reads fault is,
)

-- a parcel that the bytes read as is answered, unless memory is refused
pub reading_reported : (bytes : List ℕ) (r : Result ParcelValue ParcelFault) (parcel : Parcel) → IfOk r (ReadAs bytes)
    → IfErr r (IsParcelFault bytes) → DecodesParcel bytes parcel
    → MatchResult r (λ read. as_parcel read ≡ parcel) (λ fault. fault ≡ NoMemory)
reading_reported bytes (Ok read) parcel reads fault is = DecodesParcel-unique bytes (as_parcel read) parcel reads is
reading_reported bytes (Err NoMemory) parcel reads fault is = refl
reading_reported bytes (Err (Image TooShort)) parcel reads fault is =
    absurd (DecodesParcel-FirstParcelFault bytes parcel (bad_image too_short) is fault)
reading_reported bytes (Err (Image BadSize)) parcel reads fault is =
    absurd (DecodesParcel-FirstParcelFault bytes parcel (bad_image bad_size) is fault)
reading_reported bytes (Err (Image BadCount)) parcel reads fault is =
    absurd (DecodesParcel-FirstParcelFault bytes parcel (bad_image bad_count) is fault)
reading_reported bytes (Err (Image (Word (Cut at)))) parcel reads fault is =
    absurd (DecodesParcel-FirstParcelFault bytes parcel (bad_image (bad_word cut at)) is fault)
reading_reported bytes (Err (Image (Word (BadLength at)))) parcel reads fault is =
    absurd (DecodesParcel-FirstParcelFault bytes parcel (bad_image (bad_word bad_length at)) is fault)
reading_reported bytes (Err (Image (Word (TimeOverflow at)))) parcel reads fault is =
    absurd (DecodesParcel-FirstParcelFault bytes parcel (bad_image (bad_word time_overflow at)) is fault)
reading_reported bytes (Err (Image MemoryThere)) parcel reads fault is = absurd fault
reading_reported bytes (Err NumberOverflow) parcel reads fault is =
    absurd (DecodesParcel-FirstParcelFault bytes parcel number_overflow is fault)
reading_reported bytes (Err MissedTooMany) parcel reads fault is =
    absurd (DecodesParcel-FirstParcelFault bytes parcel missed_too_many is fault)
reading_reported bytes (Err MissedDiffers) parcel reads fault is =
    absurd (DecodesParcel-FirstParcelFault bytes parcel missed_differs is fault)
reading_reported bytes (Err BadCpu) parcel reads fault is =
    absurd (DecodesParcel-FirstParcelFault bytes parcel bad_cpu is fault)
