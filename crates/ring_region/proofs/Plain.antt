-- What is up to the commit of a slot: as the bytes of a parcel it has one reading, or a fault of a word or of its
-- numbers.
use Rattle.std.proofs.Common.{◌≡◌, ◌∙◌, ℕ, ◌+◌, ◌/◌, ◌%◌, ◌^◌, ◌≤◌, ◌<◌, ⊎_elim, false, List, ◌++◌, length, drop, eqb}
use Rattle.std.proofs.Common.{refl, sym, ap, subst, arith, length-drop}
use Rattle.std.proofs.lemmas.Bool.{false≢true}
use Rattle.std.proofs.lemmas.List.{drop-drop, length-take-le}
use borrow.Author.Tests.{ne_eqb}
use Rattle.trace_model.specs.Record.{Record}
use Rattle.trace_model.specs.Faults.{cut, bad_length, time_overflow}
use Rattle.trace_model.specs.Image.{Commit, HasHeader, Missed, none, unknown, counted, DecodesImage, too_short}
use Rattle.trace_model.specs.Image.{bad_size, bad_count, bad_word, HasBadSize, HasBadCount, from_le64}
use Rattle.trace_model.specs.Parcel.{Parcel}
use Rattle.trace_model.specs.ParcelBytes.{HasNumbers, HasImage, AgreesWith, ParcelCause, bad_cpu, bad_image}
use Rattle.trace_model.specs.ParcelBytes.{number_overflow, missed_too_many, missed_differs, FirstParcelFault}
use Rattle.trace_model.specs.declared.limits.TheConstants.{MAX_CPUS, MAX_SIZE}
use Rattle.trace_model.proofs.images.ImageParts.{HasHeader-is}
use Rattle.trace_model.proofs.images.ParcelParts.{HasNumbers-are}
use Rattle.page_image.specs.Images.{word_fault}
use Rattle.ring_region.specs.declared.faults.SlotCause.{SlotCause}
use Rattle.ring_region.specs.declared.faults.SlotCause.TheVariants.{OtherCpu, Word, NumberOverflow}
use Rattle.ring_region.specs.Headers.{number_in}
use Rattle.ring_region.specs.Slots.{IsCommitted, commit_in, committed_in, FirstSlotFault}
use Rattle.ring_region.proofs.OnePage.{number-take}

-- the bytes are a slot up to its commit: of this CPU, with nothing missed
pub record IsCutPiece (cpu : ℕ) (bytes : List ℕ) : Type 0 where
  pub long : length bytes ≡ 48 + number_in bytes 40
  pub limit : number_in bytes 40 ≤ MAX_SIZE
  pub cpu_is : number_in bytes 0 ≡ cpu
  pub none_missed : number_in bytes 24 ≡ 0

pub cut-of : (cpu : ℕ) (bytes : List ℕ) → length bytes ≤ 48 + MAX_SIZE → IsCommitted cpu bytes
    → IsCutPiece cpu (committed_in bytes)
cut-of cpu bytes limit is =
    let n : ℕ = 48 + commit_in bytes in
    let there = is.there in
    let commits : number_in (committed_in bytes) 40 ≡ commit_in bytes = number-take bytes n 40 (omega arith) in
    record {
      long = length-take-le n bytes there ∙ ap (λ (k : ℕ). 48 + k) (sym commits);
      limit = omega (arith, commits, there);
      cpu_is = number-take bytes n 0 (omega arith) ∙ is.unmissed.of_cpu.cpu_is;
      none_missed = number-take bytes n 24 (omega arith) ∙ is.unmissed.none_missed;
    }

module _ (cpu : ℕ) (bytes : List ℕ) (is : IsCutPiece cpu bytes) where
  image_number : from_le64 (drop 8 (drop 32 bytes)) ≡ number_in bytes 40
  image_number = ap from_le64 (drop-drop 8 32 bytes)

  -- the commit word of the image is the size alone
  plain_size : (time : ℕ) (commit : Commit) (rest : List ℕ) → HasHeader (drop 32 bytes) time commit rest
      → commit.size ≡ number_in bytes 40
  plain_size time commit rest h =
      let limit = is.limit in
      let small : number_in bytes 40 % 2 ^ 30 ≡ number_in bytes 40 = omega arith in
      ap (λ (c : Commit). c.size) (HasHeader-is (drop 32 bytes) time commit rest h).commit_is
      ∙ ap (λ (n : ℕ). n % 2 ^ 30) image_number ∙ small

  plain_flag : (time : ℕ) (commit : Commit) (rest : List ℕ) → HasHeader (drop 32 bytes) time commit rest
      → commit.is_missed ≡ false
  plain_flag time commit rest h =
      let limit = is.limit in
      ap (λ (c : Commit). c.is_missed) (HasHeader-is (drop 32 bytes) time commit rest h).commit_is
      ∙ ap (λ (n : ℕ). eqb (n / 2 ^ 31 % 2) 1) image_number
      ∙ ne_eqb (number_in bytes 40 / 2 ^ 31 % 2) 1 (λ one. absurd (omega arith))

  image_len : length (drop 32 bytes) ≡ 16 + number_in bytes 40
  image_len = let long = is.long in omega (arith, length-drop 32 bytes)

  no_bad_size : HasBadSize (drop 32 bytes) → ⊥
  no_bad_size bad =
      let size = plain_size bad.time bad.commit bad.rest bad.header in
      let long = (HasHeader-is (drop 32 bytes) bad.time bad.commit bad.rest bad.header).long in
      let limit = is.limit in
      ⊎_elim (λ short. omega (arith, size, long, image_len, short)) (λ past. omega (arith, limit, image_len, past))
      bad.wrong

  no_bad_count : HasBadCount (drop 32 bytes) → ⊥
  no_bad_count bad =
      false≢true (sym (plain_flag bad.time bad.commit (bad.contents ++ bad.behind) bad.parts.header) ∙ bad.missed)

  -- no image of a slot states missed records
  pub none_stated : (time size : ℕ) (missed : Missed) (records : List Record)
      → DecodesImage (drop 32 bytes) time size missed records → missed ≡ none
  none_stated time size none records d = refl
  none_stated time size unknown records d =
      absurd (false≢true (sym (plain_flag time d.commit (d.contents ++ d.behind) d.parts.header) ∙ d.reports.0))
  none_stated time size (counted events) records d =
      absurd (false≢true (sym (plain_flag time d.commit (d.contents ++ d.behind) d.parts.header) ∙ d.reports.0))

  no_bad_cpu : cpu < MAX_CPUS → FirstParcelFault bytes bad_cpu → ⊥
  no_bad_cpu known bad =
      let are = HasNumbers-are bytes bad.cpu bad.fill bad.first bad.missed bad.image bad.numbers in
      omega (arith, bad.unknown_cpu, are.cpu_is, is.cpu_is, known)

  image_is : (numbers_cpu fill first missed : ℕ) (image : List ℕ) → HasNumbers bytes numbers_cpu fill first missed image
      → image ≡ drop 32 bytes
  image_is numbers_cpu fill first missed image h = (HasNumbers-are bytes numbers_cpu fill first missed image h).image_is

  missed_is : (numbers_cpu fill first missed : ℕ) (image : List ℕ)
      → HasNumbers bytes numbers_cpu fill first missed image → missed ≡ 0
  missed_is numbers_cpu fill first missed image h =
      (HasNumbers-are bytes numbers_cpu fill first missed image h).missed_is ∙ is.none_missed

  no_large_size : FirstParcelFault bytes (bad_image bad_size) → ⊥
  no_large_size bad =
      no_bad_size (subst HasBadSize (image_is bad.cpu bad.fill bad.first bad.missed bad.image bad.numbers) bad.fault)

  no_lost_count : FirstParcelFault bytes (bad_image bad_count) → ⊥
  no_lost_count bad =
      no_bad_count (subst HasBadCount (image_is bad.cpu bad.fill bad.first bad.missed bad.image bad.numbers) bad.fault)

  no_too_many : FirstParcelFault bytes missed_too_many → ⊥
  no_too_many bad =
      let zero_missed =
      missed_is bad.parcel.cpu bad.parcel.fill bad.parcel.first bad.parcel.missed bad.image.image
      bad.image.numbers in
      omega (arith, bad.past, zero_missed)

  stated_none : (parcel : Parcel) (reported : Missed) → HasImage bytes parcel reported → reported ≡ none
  stated_none parcel reported h = none_stated h.time h.size reported parcel.records
      (subst (λ (b : List ℕ). DecodesImage b h.time h.size reported parcel.records)
      (image_is parcel.cpu parcel.fill parcel.first parcel.missed h.image h.numbers) h.reads)

  no_other_missed : FirstParcelFault bytes missed_differs → ⊥
  no_other_missed bad =
      let zero_missed =
      missed_is bad.parcel.cpu bad.parcel.fill bad.parcel.first bad.parcel.missed bad.image.image
      bad.image.numbers in
      bad.differs (subst (λ (m : Missed). AgreesWith m bad.parcel.missed)
      (sym (stated_none bad.parcel bad.reported bad.image)) zero_missed)

-- ---- the faults that there are

-- the slot's fault, by that of what is up to its commit
abbrev pub slot_cause : ParcelCause → SlotCause
slot_cause bad_cpu = OtherCpu
slot_cause (bad_image too_short) = OtherCpu
slot_cause (bad_image bad_size) = OtherCpu
slot_cause (bad_image bad_count) = OtherCpu
slot_cause (bad_image (bad_word cause at)) = Word (word_fault cause at)
slot_cause number_overflow = NumberOverflow
slot_cause missed_too_many = OtherCpu
slot_cause missed_differs = OtherCpu

-- a first fault of what is up to the commit is one of the slot
pub slot_faulty : (cpu : ℕ) (bytes : List ℕ) (cause : ParcelCause) → cpu < MAX_CPUS → length bytes ≤ 48 + MAX_SIZE
    → IsCommitted cpu bytes
    → FirstParcelFault (committed_in bytes) cause → FirstSlotFault cpu bytes (slot_cause cause)
slot_faulty cpu bytes bad_cpu known limit is bad =
    absurd (no_bad_cpu cpu (committed_in bytes) (cut-of cpu bytes limit is) known bad)
slot_faulty cpu bytes (bad_image too_short) known limit is bad =
    let cut = cut-of cpu bytes limit is in let long = cut.long in absurd (omega (arith, long, bad))
slot_faulty cpu bytes (bad_image bad_size) known limit is bad =
    absurd (no_large_size cpu (committed_in bytes) (cut-of cpu bytes limit is) bad)
slot_faulty cpu bytes (bad_image bad_count) known limit is bad =
    absurd (no_lost_count cpu (committed_in bytes) (cut-of cpu bytes limit is) bad)
slot_faulty cpu bytes (bad_image (bad_word cut at)) known limit is bad = (is, bad)
slot_faulty cpu bytes (bad_image (bad_word bad_length at)) known limit is bad = (is, bad)
slot_faulty cpu bytes (bad_image (bad_word time_overflow at)) known limit is bad = (is, bad)
slot_faulty cpu bytes number_overflow known limit is bad = (is, bad)
slot_faulty cpu bytes missed_too_many known limit is bad =
    absurd (no_too_many cpu (committed_in bytes) (cut-of cpu bytes limit is) bad)
slot_faulty cpu bytes missed_differs known limit is bad =
    absurd (no_other_missed cpu (committed_in bytes) (cut-of cpu bytes limit is) bad)
