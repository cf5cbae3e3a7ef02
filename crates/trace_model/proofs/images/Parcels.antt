-- Bytes read as one parcel or have one first fault, never both; and what is written for a parcel reads as it.
use Rattle.std.proofs.Common.{◌≡◌, ◌⊎◌, inl, inr, ⊎_elim, ℕ, ◌+◌, ◌^◌, ◌<◌, ◌≤◌, Bool, true, false, cond, ltb, ◌&&◌}
use Rattle.std.proofs.Common.{List, length, drop, refl, sym, ap, ◌∙◌, subst, arith}
use Rattle.std.proofs.lemmas.Bool.{cases_lt, ltb-true, ltb-false}
use Rattle.trace_model.specs.Words.{Decodes}
use Rattle.trace_model.specs.FirstFault.{AreBytes}
use Rattle.trace_model.specs.Image.{Missed, none, unknown, counted, DecodesImage, has_room, image_of, missed_reported}
use Rattle.trace_model.specs.Image.{ImageCause, too_short, bad_size, bad_count, bad_word, FirstImageFault}
use Rattle.trace_model.specs.Parcel.{Parcel}
use Rattle.trace_model.specs.ParcelBytes.{IsParcel, bytes_of_parcel, HasNumbers, AgreesWith, HasImage, DecodesParcel}
use Rattle.trace_model.specs.ParcelBytes.{ParcelCause, bad_cpu, bad_image, number_overflow, missed_too_many}
use Rattle.trace_model.specs.ParcelBytes.{missed_differs, HasBadCpu, HasBadImage, HasOverflow, HasTooManyMissed}
use Rattle.trace_model.specs.ParcelBytes.{HasOtherMissed, FirstParcelFault}
use Rattle.trace_model.specs.declared.limits.TheConstants.{MAX_IMAGE, MAX_CPUS}
use Rattle.trace_model.proofs.words.OneWord.{AreBytes-drop}
use Rattle.trace_model.proofs.images.Images.{image_read_or_faulty, DecodesImage-FirstImageFault, DecodesImage-unique}
use Rattle.trace_model.proofs.images.Images.{FirstImageFault-unique, length-image_of, DecodesImage-image_of}
use Rattle.trace_model.proofs.images.ParcelParts.{length-with_numbers, HasNumbers-of, HasNumbers-are, HasNumbers-same}

-- ---- one image

-- the bytes decide the parcel, its records and what the image states
pub HasImage-same : (bytes : List ℕ) (parcel other : Parcel) (reported reports : Missed)
    → HasImage bytes parcel reported → HasImage bytes other reports → (parcel ≡ other) × (reported ≡ reports)
HasImage-same bytes parcel other reported reports h g =
    let same =
    HasNumbers-same bytes parcel.cpu other.cpu parcel.fill other.fill parcel.first other.first parcel.missed
    other.missed h.image g.image h.numbers g.numbers in
    let reads : DecodesImage g.image h.time h.size reported parcel.records =
    subst (λ (b : List ℕ). DecodesImage b h.time h.size reported parcel.records) same.images h.reads in
    let one =
    DecodesImage-unique g.image h.time g.time h.size g.size reported reports parcel.records other.records reads
    g.reads in (
      (λ i.
          record {
            cpu = same.cpus i;
            fill = same.fills i;
            first = same.firsts i;
            missed = same.misses i;
            records = one.3 i;
          }),
      one.2,
    )

-- ---- a fault excludes what comes after it in the order

numbers_not_short : (bytes : List ℕ) (cpu fill first missed : ℕ) (image : List ℕ)
    → HasNumbers bytes cpu fill first missed image → length bytes < 48 → ⊥
numbers_not_short bytes cpu fill first missed image h short =
    let are = HasNumbers-are bytes cpu fill first missed image h in
    let len = are.length_is in
    let long = h.long in
    omega arith

known_not_bad : (bytes : List ℕ) (cpu fill first missed : ℕ) (image : List ℕ)
    → HasNumbers bytes cpu fill first missed image → cpu < MAX_CPUS → HasBadCpu bytes → ⊥
known_not_bad bytes cpu fill first missed image h known bad =
    let same =
    HasNumbers-same bytes cpu bad.cpu fill bad.fill first bad.first missed bad.missed image bad.image h
    bad.numbers in
    let cpus = same.cpus in
    let past = bad.unknown_cpu in
    omega arith

-- the ways in which an image is no good
BadImage : List ℕ → ImageCause → Type 0
BadImage bytes cause = ((length bytes < 48) × (cause ≡ too_short)) ⊎ HasBadImage bytes cause

bad_image_is : (bytes : List ℕ) (cause : ImageCause) → FirstParcelFault bytes (bad_image cause) → BadImage bytes cause
unfolding BadImage
bad_image_is bytes too_short f = inl (f, refl)
bad_image_is bytes bad_size f = inr f
bad_image_is bytes bad_count f = inr f
bad_image_is bytes (bad_word cause at) f = inr f

image_not_bad : (bytes : List ℕ) (parcel : Parcel) (reported : Missed) (cause : ImageCause)
    → HasImage bytes parcel reported → BadImage bytes cause → ⊥
unfolding BadImage
image_not_bad bytes parcel reported cause h bad = ⊎_elim
    (λ short. numbers_not_short bytes parcel.cpu parcel.fill parcel.first parcel.missed h.image h.numbers short.0)
    (λ faulty.
    let same =
    HasNumbers-same bytes parcel.cpu faulty.cpu parcel.fill faulty.fill parcel.first faulty.first parcel.missed
    faulty.missed h.image faulty.image h.numbers faulty.numbers in
    DecodesImage-FirstImageFault h.image h.time h.size reported parcel.records cause h.reads
    (subst (λ (b : List ℕ). FirstImageFault b cause) (sym same.images) faulty.fault))
    bad

cpu_not_bad_image : (bytes : List ℕ) (cause : ImageCause) → HasBadCpu bytes → BadImage bytes cause → ⊥
unfolding BadImage
cpu_not_bad_image bytes cause bad image = ⊎_elim
    (λ short. numbers_not_short bytes bad.cpu bad.fill bad.first bad.missed bad.image bad.numbers short.0)
    (λ faulty.
    known_not_bad bytes faulty.cpu faulty.fill faulty.first faulty.missed faulty.image faulty.numbers
    faulty.cpu_known bad)
    image

image_not_bad_cpu : (bytes : List ℕ) (parcel : Parcel) (reported : Missed) → HasImage bytes parcel reported
    → HasBadCpu bytes → ⊥
image_not_bad_cpu bytes parcel reported h bad =
    known_not_bad bytes parcel.cpu parcel.fill parcel.first parcel.missed h.image h.numbers h.cpu_known bad

fits_not_past : (bytes : List ℕ) (parcel : Parcel) (reported : Missed) → HasImage bytes parcel reported
    → parcel.first + length parcel.records < 2 ^ 64 → HasOverflow bytes → ⊥
fits_not_past bytes parcel reported h fits bad =
    let same = HasImage-same bytes parcel bad.parcel reported bad.reported h bad.image in
    let sum = ap (λ (p : Parcel). p.first + length p.records) same.0 in
    let past = bad.past in
    omega arith

few_not_many : (bytes : List ℕ) (parcel : Parcel) (reported : Missed) → HasImage bytes parcel reported
    → parcel.missed ≤ parcel.first → HasTooManyMissed bytes → ⊥
few_not_many bytes parcel reported h few bad =
    let same = HasImage-same bytes parcel bad.parcel reported bad.reported h bad.image in
    let firsts = ap (λ (p : Parcel). p.first) same.0 in
    let misses = ap (λ (p : Parcel). p.missed) same.0 in
    let past = bad.past in
    omega arith

agreed_not_other : (bytes : List ℕ) (parcel : Parcel) (reported : Missed) → HasImage bytes parcel reported
    → AgreesWith reported parcel.missed → HasOtherMissed bytes → ⊥
agreed_not_other bytes parcel reported h agrees bad =
    let same = HasImage-same bytes parcel bad.parcel reported bad.reported h bad.image in
    let there : AgreesWith reported bad.parcel.missed =
    subst (λ (p : Parcel). AgreesWith reported p.missed) same.0 agrees in
    bad.differs (subst (λ (t : Missed). AgreesWith t bad.parcel.missed) same.1 there)

-- ---- a reading and a fault exclude each other

pub DecodesParcel-FirstParcelFault : (bytes : List ℕ) (parcel : Parcel) (fault : ParcelCause)
    → DecodesParcel bytes parcel → FirstParcelFault bytes fault → ⊥
DecodesParcel-FirstParcelFault bytes parcel bad_cpu d f = image_not_bad_cpu bytes parcel d.reported d.image f
DecodesParcel-FirstParcelFault bytes parcel (bad_image cause) d f =
    image_not_bad bytes parcel d.reported cause d.image (bad_image_is bytes cause f)
DecodesParcel-FirstParcelFault bytes parcel number_overflow d f =
    fits_not_past bytes parcel d.reported d.image d.sound.numbers_fit f
DecodesParcel-FirstParcelFault bytes parcel missed_too_many d f =
    few_not_many bytes parcel d.reported d.image d.sound.missed_fit f
DecodesParcel-FirstParcelFault bytes parcel missed_differs d f =
    agreed_not_other bytes parcel d.reported d.image d.agrees f

-- ---- one reading

pub DecodesParcel-unique : (bytes : List ℕ) (parcel other : Parcel) → DecodesParcel bytes parcel
    → DecodesParcel bytes other → parcel ≡ other
DecodesParcel-unique bytes parcel other d e =
    let same =
    HasImage-same bytes parcel other d.reported e.reported d.image e.image in
    same.0

-- ---- one first fault

same_bad_image : (bytes : List ℕ) (cause other : ImageCause) → BadImage bytes cause → BadImage bytes other
    → bad_image cause ≡ bad_image other
unfolding BadImage
same_bad_image bytes cause other f g = ⊎_elim
    (λ short. ⊎_elim
    (λ too. ap bad_image (short.1 ∙ sym too.1))
    (λ faulty.
    absurd (numbers_not_short bytes faulty.cpu faulty.fill faulty.first faulty.missed faulty.image faulty.numbers
    short.0))
    g)
    (λ faulty. ⊎_elim
    (λ short.
    absurd (numbers_not_short bytes faulty.cpu faulty.fill faulty.first faulty.missed faulty.image faulty.numbers
    short.0))
    (λ too.
    let same =
    HasNumbers-same bytes faulty.cpu too.cpu faulty.fill too.fill faulty.first too.first faulty.missed too.missed
    faulty.image too.image faulty.numbers too.numbers in
    ap bad_image
    (FirstImageFault-unique too.image cause other
    (subst (λ (b : List ℕ). FirstImageFault b cause) same.images faulty.fault) too.fault))
    g)
    f

pub FirstParcelFault-unique : (bytes : List ℕ) (fault other : ParcelCause) → FirstParcelFault bytes fault
    → FirstParcelFault bytes other → fault ≡ other
FirstParcelFault-unique bytes bad_cpu bad_cpu f g = refl
FirstParcelFault-unique bytes bad_cpu (bad_image cause) f g =
    absurd (cpu_not_bad_image bytes cause f (bad_image_is bytes cause g))
FirstParcelFault-unique bytes bad_cpu number_overflow f g =
    absurd (image_not_bad_cpu bytes g.parcel g.reported g.image f)
FirstParcelFault-unique bytes bad_cpu missed_too_many f g =
    absurd (image_not_bad_cpu bytes g.parcel g.reported g.image f)
FirstParcelFault-unique bytes bad_cpu missed_differs f g =
    absurd (image_not_bad_cpu bytes g.parcel g.reported g.image f)
FirstParcelFault-unique bytes (bad_image cause) bad_cpu f g =
    absurd (cpu_not_bad_image bytes cause g (bad_image_is bytes cause f))
FirstParcelFault-unique bytes (bad_image cause) (bad_image other) f g =
    same_bad_image bytes cause other (bad_image_is bytes cause f) (bad_image_is bytes other g)
FirstParcelFault-unique bytes (bad_image cause) number_overflow f g =
    absurd (image_not_bad bytes g.parcel g.reported cause g.image (bad_image_is bytes cause f))
FirstParcelFault-unique bytes (bad_image cause) missed_too_many f g =
    absurd (image_not_bad bytes g.parcel g.reported cause g.image (bad_image_is bytes cause f))
FirstParcelFault-unique bytes (bad_image cause) missed_differs f g =
    absurd (image_not_bad bytes g.parcel g.reported cause g.image (bad_image_is bytes cause f))
FirstParcelFault-unique bytes number_overflow bad_cpu f g =
    absurd (image_not_bad_cpu bytes f.parcel f.reported f.image g)
FirstParcelFault-unique bytes number_overflow (bad_image cause) f g =
    absurd (image_not_bad bytes f.parcel f.reported cause f.image (bad_image_is bytes cause g))
FirstParcelFault-unique bytes number_overflow number_overflow f g = refl
FirstParcelFault-unique bytes number_overflow missed_too_many f g =
    absurd (fits_not_past bytes g.parcel g.reported g.image g.numbers_fit f)
FirstParcelFault-unique bytes number_overflow missed_differs f g =
    absurd (fits_not_past bytes g.parcel g.reported g.image g.sound.numbers_fit f)
FirstParcelFault-unique bytes missed_too_many bad_cpu f g =
    absurd (image_not_bad_cpu bytes f.parcel f.reported f.image g)
FirstParcelFault-unique bytes missed_too_many (bad_image cause) f g =
    absurd (image_not_bad bytes f.parcel f.reported cause f.image (bad_image_is bytes cause g))
FirstParcelFault-unique bytes missed_too_many number_overflow f g =
    absurd (fits_not_past bytes f.parcel f.reported f.image f.numbers_fit g)
FirstParcelFault-unique bytes missed_too_many missed_too_many f g = refl
FirstParcelFault-unique bytes missed_too_many missed_differs f g =
    absurd (few_not_many bytes g.parcel g.reported g.image g.sound.missed_fit f)
FirstParcelFault-unique bytes missed_differs bad_cpu f g =
    absurd (image_not_bad_cpu bytes f.parcel f.reported f.image g)
FirstParcelFault-unique bytes missed_differs (bad_image cause) f g =
    absurd (image_not_bad bytes f.parcel f.reported cause f.image (bad_image_is bytes cause g))
FirstParcelFault-unique bytes missed_differs number_overflow f g =
    absurd (fits_not_past bytes f.parcel f.reported f.image f.sound.numbers_fit g)
FirstParcelFault-unique bytes missed_differs missed_too_many f g =
    absurd (few_not_many bytes f.parcel f.reported f.image f.sound.missed_fit g)
FirstParcelFault-unique bytes missed_differs missed_differs f g = refl

-- ---- one of the two

abbrev IsReadParcel : List ℕ → Type 0
IsReadParcel bytes = (parcel : Parcel) × DecodesParcel bytes parcel

abbrev IsFaultyParcel : List ℕ → Type 0
IsFaultyParcel bytes = (fault : ParcelCause) × FirstParcelFault bytes fault

agrees_or_not : (reported : Missed) (missed : ℕ) → AgreesWith reported missed ⊎ (AgreesWith reported missed → ⊥)
agrees_or_not none missed = ⊎_elim (λ low. inl (omega arith)) (λ high. inr (λ is. omega arith)) (cases_lt missed 1)
agrees_or_not unknown missed = ⊎_elim (λ low. inl low) (λ high. inr (λ is. omega arith)) (cases_lt 0 missed)
agrees_or_not (counted events) missed =
    ⊎_elim (λ low. ⊎_elim
    (λ less. inr (λ is. omega (arith, is.1)))
    (λ le. ⊎_elim (λ more. inr (λ is. omega (arith, is.1))) (λ ge. inl (low, omega arith)) (cases_lt missed events))
    (cases_lt events missed))
    (λ high. inr (λ is. omega (arith, is.0)))
    (cases_lt 0 missed)

-- an image's fault, if the numbers are there
fault_from : (bytes : List ℕ) (cause : ImageCause) → HasBadImage bytes cause → IsFaultyParcel bytes
fault_from bytes too_short f = let long = f.numbers.long in let short = f.fault in absurd (omega arith)
fault_from bytes bad_size f = (bad_image bad_size, f)
fault_from bytes bad_count f = (bad_image bad_count, f)
fault_from bytes (bad_word cause at) f = (bad_image (bad_word cause at), f)

from_image : (bytes : List ℕ) (parcel : Parcel) (reported : Missed) → HasImage bytes parcel reported
    → IsReadParcel bytes ⊎ IsFaultyParcel bytes
from_image bytes parcel reported h =
    ⊎_elim (λ fits.
    ⊎_elim (λ past.
    inr (
      missed_too_many,
      record { parcel = parcel; reported = reported; image = h; numbers_fit = fits; past = past },
    ))
    (λ few.
    let sound : IsParcel parcel = record { cpu_known = h.cpu_known; numbers_fit = fits; missed_fit = few } in
    ⊎_elim (λ agrees. inl (parcel, record { reported = reported; image = h; sound = sound; agrees = agrees }))
    (λ differs.
    inr (
      missed_differs,
      record { parcel = parcel; reported = reported; image = h; sound = sound; differs = differs },
    ))
    (agrees_or_not reported parcel.missed))
    (cases_lt parcel.first parcel.missed))
    (λ past. inr (number_overflow, record { parcel = parcel; reported = reported; image = h; past = past }))
    (cases_lt (parcel.first + length parcel.records) (2 ^ 64))

from_numbers : (bytes : List ℕ) (cpu fill first missed : ℕ) (image : List ℕ)
    → HasNumbers bytes cpu fill first missed image → AreBytes image → IsReadParcel bytes ⊎ IsFaultyParcel bytes
from_numbers bytes cpu fill first missed image h small =
    ⊎_elim (λ known.
    ⊎_elim
    (λ read.
    from_image bytes (record { cpu = cpu; fill = fill; first = first; missed = missed; records = read.3 }) read.2
    (record { image = image; numbers = h; cpu_known = known; time = read.0; size = read.1; reads = read.4 }))
    (λ faulty.
    inr (fault_from bytes faulty.0
    (record {
      cpu = cpu;
      fill = fill;
      first = first;
      missed = missed;
      image = image;
      numbers = h;
      cpu_known = known;
      fault = faulty.1;
    })))
    (image_read_or_faulty image small))
    (λ past.
    inr (
      bad_cpu,
      record {
        cpu = cpu;
        fill = fill;
        first = first;
        missed = missed;
        image = image;
        numbers = h;
        unknown_cpu = past;
      },
    ))
    (cases_lt cpu MAX_CPUS)

pub parcel_read_or_faulty : (bytes : List ℕ) → AreBytes bytes → IsReadParcel bytes ⊎ IsFaultyParcel bytes
parcel_read_or_faulty bytes small = ⊎_elim
    (λ short. inr (bad_image too_short, short))
    (λ long. from_numbers bytes _ _ _ _ (drop 32 bytes) (HasNumbers-of bytes small long) (AreBytes-drop 32 bytes small))
    (cases_lt (length bytes) 48)

-- ---- the bytes that are written

pub length-bytes_of_parcel : (parcel : Parcel) (time : ℕ) (contents : List ℕ) (size : ℕ) → length contents ≤ size
    → length (bytes_of_parcel parcel time contents size) ≡ 48 + size
length-bytes_of_parcel parcel time contents size fits =
    omega (
      arith,
      length-with_numbers parcel.cpu parcel.fill parcel.first parcel.missed
          (image_of time contents parcel.missed size),
      length-image_of time contents parcel.missed size fits,
    )

-- what an image states of the number that it was written with agrees with it
reported_agrees : (missed : ℕ) (some room : Bool) → some ≡ ltb 0 missed
    → AgreesWith (cond (some && room) (counted missed) (cond some unknown none)) missed
reported_agrees missed true true is = (ltb-true 0 missed (sym is), refl)
reported_agrees missed true false is = ltb-true 0 missed (sym is)
reported_agrees missed false room is = let none_missed = ltb-false 0 missed (sym is) in omega arith

pub DecodesParcel-bytes_of_parcel : (parcel : Parcel) (time : ℕ) (contents : List ℕ) (size : ℕ) → IsParcel parcel
    → parcel.fill < 2 ^ 64 → time < 2 ^ 64 → length contents ≤ size → 16 + size ≤ MAX_IMAGE
    → Decodes contents time parcel.records
    → DecodesParcel (bytes_of_parcel parcel time contents size) parcel
DecodesParcel-bytes_of_parcel parcel time contents size sound fill_fits time_fits fits limit reads =
    let cpu_known = sound.cpu_known in
    let numbers_fit = sound.numbers_fit in
    let missed_fit = sound.missed_fit in
    let missed_fits : parcel.missed < 2 ^ 64 = omega arith in
    let image : List ℕ = image_of time contents parcel.missed size in
    let long = length-image_of time contents parcel.missed size fits in
    record {
      reported = missed_reported contents parcel.missed size;
      image = record {
        image = image;
        numbers = record {
          whole = refl;
          cpu_fits = omega arith;
          fill_fits = fill_fits;
          first_fits = omega arith;
          missed_fits = missed_fits;
          long = omega arith;
        };
        cpu_known = cpu_known;
        time = time;
        size = length contents;
        reads =
            DecodesImage-image_of time contents parcel.missed size parcel.records time_fits missed_fits fits limit
            reads;
      };
      sound = sound;
      agrees = reported_agrees parcel.missed (ltb 0 parcel.missed) (has_room contents size) refl;
    }
