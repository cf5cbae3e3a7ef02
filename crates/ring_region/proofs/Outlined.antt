-- From what is read of a slot up to its commit to what the slot is.
use Rattle.std.proofs.Common.{◌≡◌, ◌∙◌, ℕ, ◌+◌, ◌^◌, ◌≤◌, ◌<◌, List, [], ◌∷◌, ◌++◌, length, drop, Result, Ok, Err, IfOk}
use Rattle.std.proofs.Common.{IsErr, Bool, true, false, not, Option, Some, None, ⊎_elim, refl, sym, ap, subst, arith}
use Rattle.std.proofs.Common.{length-append, length-drop}
use Rattle.std.proofs.lemmas.List.{take_all}
use Rattle.std.proofs.lemmas.Bool.{cases_lt, false≢true}
use Rattle.std.specs.Option.{SomeIff, is_some}
use Rattle.trace_model.specs.FirstFault.{AreBytes, FirstFault}
use Rattle.trace_model.specs.Faults.{Cause, cut, bad_length, time_overflow}
use Rattle.trace_model.specs.Image.{Missed, bad_word, HasBadWord, FirstImageFault}
use Rattle.trace_model.specs.ParcelBytes.{HasNumbers, HasImage, AgreesWith, DecodesParcel, bad_image, HasOverflow}
use Rattle.trace_model.specs.ParcelBytes.{FirstParcelFault}
use Rattle.trace_model.specs.declared.limits.TheConstants.{MAX_CPUS, MAX_SIZE}
use Rattle.trace_model.specs.declared.numbers.NoMemory.{NoMemory}
use Rattle.trace_model.specs.Words.{joined}
use Rattle.trace_model.proofs.images.ImageParts.{HasHeader-is}
use Rattle.trace_model.proofs.images.ParcelParts.{HasNumbers-of}
use Rattle.record_words.specs.declared.next.WordFault.{WordFault}
use Rattle.record_words.specs.declared.next.WordFault.TheVariants.{Cut, BadLength, TimeOverflow}
use Rattle.page_image.specs.declared.image.ImageFault.{ImageFault}
use Rattle.page_image.specs.declared.image.ImageFault.TheVariants.{TooShort, BadSize, BadCount, Word as ImageWord}
use Rattle.page_image.specs.declared.image.ImageFault.TheVariants.{NoMemory as ImageMemory}
use Rattle.page_image.specs.declared.image.Outline.{Outline}
use Rattle.page_image.specs.Images.{missed_of, page_in, IsOutlined, IsImageFault}
use Rattle.page_image.specs.Contents.{Contents}
use Rattle.ring_region.specs.declared.faults.SlotCause.TheVariants.{Word}
use Rattle.ring_region.specs.declared.slots.Reading.{Reading}
use Rattle.ring_region.specs.Headers.{number_in}
use Rattle.ring_region.specs.Slots.{faulty, IsSlotOf, IsUnmissed, IsCommitted, commit_in, committed_in, word_at}
use Rattle.ring_region.specs.Answers.{unmissed, reading_seen, IsWithin, IsTold}
use Rattle.ring_region.proofs.Plain.{IsCutPiece, none_stated}

-- ---- the word that can't be read is within the data

some_bytes : (bytes : List ℕ) → (bytes ≡ [] → ⊥) → 0 < length bytes
some_bytes [] some = absurd (some refl)
some_bytes (byte ∷ bytes) some = omega arith

fault_within : (bytes : List ℕ) (time : ℕ) (cause : Cause) (at : ℕ) → FirstFault bytes time cause at → at < length bytes
fault_within bytes time cause at f =
    let left = some_bytes f.rest f.some_left in
    omega (arith, f.at_is, left, ap length f.whole, length-append (joined f.words) f.rest)

bad_within : (image : List ℕ) (cause : Cause) (at : ℕ) → HasBadWord image cause at → 16 + at < length image
bad_within image cause at bad =
    let under = fault_within bad.contents bad.time cause at bad.fault in
    let long = (HasHeader-is image bad.time bad.commit (bad.contents ++ bad.behind) bad.parts.header).long in
    omega (arith, under, long, length-append bad.contents bad.behind)

word_within : (image : List ℕ) (fault : WordFault) → IsImageFault image (ImageWord fault)
    → 16 + word_at fault < length image
word_within image (Cut at) is = bad_within image cut at is
word_within image (BadLength at) is = bad_within image bad_length at is
word_within image (TimeOverflow at) is = bad_within image time_overflow at is

-- ---- a slot up to its commit

pub whole_committed : (bytes : List ℕ) → 48 + commit_in bytes ≡ length bytes → committed_in bytes ≡ bytes
whole_committed bytes commit = take_all (48 + commit_in bytes) bytes (omega (arith, commit))

pub cut-whole : (cpu : ℕ) (bytes : List ℕ) → length bytes ≤ 48 + MAX_SIZE → 48 + commit_in bytes ≡ length bytes
    → IsUnmissed cpu bytes → IsCutPiece cpu bytes
cut-whole cpu bytes limit commit is = record {
  long = sym commit;
  limit = omega (arith, limit, commit);
  cpu_is = is.of_cpu.cpu_is;
  none_missed = is.none_missed;
}

pub committed-whole : (cpu : ℕ) (bytes : List ℕ) → 48 + commit_in bytes ≡ length bytes → IsUnmissed cpu bytes
    → IsCommitted cpu bytes
committed-whole cpu bytes commit is = record { unmissed = is; there = omega (arith, commit) }

-- the fault of a word is one of what is up to the commit
word_faulty : (cpu : ℕ) (bytes : List ℕ) (cause : Cause) (at : ℕ) → cpu < MAX_CPUS → AreBytes bytes
    → IsCutPiece cpu bytes → FirstImageFault (drop 32 bytes) (bad_word cause at)
    → FirstParcelFault bytes (bad_image (bad_word cause at))
word_faulty cpu bytes cause at known small is_cut bad =
    let long = is_cut.long in record {
      cpu = number_in bytes 0;
      fill = number_in bytes 8;
      first = number_in bytes 16;
      missed = number_in bytes 24;
      image = drop 32 bytes;
      numbers = HasNumbers-of bytes small (omega arith);
      cpu_known = omega (arith, is_cut.cpu_is, known);
      fault = bad;
    }

word_slot : (cpu : ℕ) (bytes : List ℕ) (fault : WordFault) → cpu < MAX_CPUS → AreBytes bytes
    → length bytes ≤ 48 + MAX_SIZE → 48 + commit_in bytes ≡ length bytes → IsUnmissed cpu bytes
    → IsImageFault (drop 32 bytes) (ImageWord fault) → IsSlotOf cpu bytes (faulty (Word fault))
word_slot cpu bytes (Cut at) known small limit commit is bad = (
  committed-whole cpu bytes commit is,
  subst (λ (b : List ℕ). FirstParcelFault b (bad_image (bad_word cut at))) (sym (whole_committed bytes commit))
      (word_faulty cpu bytes cut at known small (cut-whole cpu bytes limit commit is) bad),
)
word_slot cpu bytes (BadLength at) known small limit commit is bad = (
  committed-whole cpu bytes commit is,
  subst (λ (b : List ℕ). FirstParcelFault b (bad_image (bad_word bad_length at))) (sym (whole_committed bytes commit))
      (word_faulty cpu bytes bad_length at known small (cut-whole cpu bytes limit commit is) bad),
)
word_slot cpu bytes (TimeOverflow at) known small limit commit is bad = (
  committed-whole cpu bytes commit is,
  subst (λ (b : List ℕ). FirstParcelFault b (bad_image (bad_word time_overflow at)))
      (sym (whole_committed bytes commit))
      (word_faulty cpu bytes time_overflow at known small (cut-whole cpu bytes limit commit is) bad),
)

-- what a fault of the image says of the slot
abbrev SlotRead : (cpu : ℕ) → List ℕ → Reading → Type 0
SlotRead cpu bytes read = IsSlotOf cpu bytes (reading_seen cpu read)

told_error : (P : Reading → Type 0) (result : Result Reading NoMemory) → IsErr result → IfOk result P
told_error P (Ok read) is = absurd (false≢true is)
told_error P (Err refused) is = tt

pub told_slot : (cpu : ℕ) (bytes : List ℕ) (fault : ImageFault) (result : Result Reading NoMemory) → cpu < MAX_CPUS
    → AreBytes bytes → length bytes ≤ 48 + MAX_SIZE → 48 + commit_in bytes ≡ length bytes
    → IsUnmissed cpu bytes → IsImageFault (drop 32 bytes) fault → IsTold fault result → IfOk result (SlotRead cpu bytes)
told_slot cpu bytes (ImageWord fault) result known small limit commit is bad told =
    subst (λ (r : Result Reading NoMemory). IfOk r (SlotRead cpu bytes)) (sym told)
    (word_slot cpu bytes fault known small limit commit is bad)
told_slot cpu bytes TooShort result known small limit commit is bad told = told_error (SlotRead cpu bytes) result told
told_slot cpu bytes BadSize result known small limit commit is bad told = told_error (SlotRead cpu bytes) result told
told_slot cpu bytes BadCount result known small limit commit is bad told = told_error (SlotRead cpu bytes) result told
told_slot cpu bytes ImageMemory result known small limit commit is bad told =
    told_error (SlotRead cpu bytes) result told

pub told_within : (bytes : List ℕ) (fault : ImageFault) (result : Result Reading NoMemory) → 48 ≤ length bytes
    → IsImageFault (drop 32 bytes) fault → IsTold fault result → IfOk result (IsWithin bytes)
told_within bytes (ImageWord fault) result long bad told =
    let within = word_within (drop 32 bytes) fault bad in
    subst (λ (r : Result Reading NoMemory). IfOk r (IsWithin bytes)) (sym told)
    (refl, omega (arith, within, length-drop 32 bytes))
told_within bytes TooShort result long bad told = told_error (IsWithin bytes) result told
told_within bytes BadSize result long bad told = told_error (IsWithin bytes) result told
told_within bytes BadCount result long bad told = told_error (IsWithin bytes) result told
told_within bytes ImageMemory result long bad told = told_error (IsWithin bytes) result told

-- ---- the image has a reading

-- the page of an image under the numbers of its slot
abbrev pub page_of : List ℕ → Outline → Contents
page_of bytes outline =
    record (page_in (drop 32 bytes) outline.time outline.size) { first = number_in bytes 16; fill = number_in bytes 8 }

module _ (cpu : ℕ) (bytes : List ℕ) (outline : Outline) (known : cpu < MAX_CPUS) (small : AreBytes bytes)
    (is_cut : IsCutPiece cpu bytes) (is : IsOutlined (drop 32 bytes) outline) where
  numbers : HasNumbers bytes cpu (number_in bytes 8) (number_in bytes 16) 0 (drop 32 bytes)
  numbers =
      let long = is_cut.long in
      subst (λ (n : ℕ). HasNumbers bytes n (number_in bytes 8) (number_in bytes 16) 0 (drop 32 bytes)) is_cut.cpu_is
      (subst
      (λ (n : ℕ). HasNumbers bytes (number_in bytes 0) (number_in bytes 8) (number_in bytes 16) n (drop 32 bytes))
      is_cut.none_missed
      (HasNumbers-of bytes small (omega arith)))

  has_image : HasImage bytes (unmissed cpu (page_of bytes outline)) (missed_of outline.missed)
  has_image = record {
    image = drop 32 bytes;
    numbers = numbers;
    cpu_known = known;
    time = outline.time;
    size = outline.size;
    reads = is.reads;
  }

  none_missing : AgreesWith (missed_of outline.missed) 0
  none_missing = subst (λ (m : Missed). AgreesWith m 0)
      (sym (none_stated cpu bytes is_cut outline.time outline.size (missed_of outline.missed)
      (unmissed cpu (page_of bytes outline)).records is.reads)) refl

  pub page_reads : number_in bytes 16 + outline.count < 2 ^ 64
      → DecodesParcel bytes (unmissed cpu (page_of bytes outline))
  page_reads fits = record {
    reported = missed_of outline.missed;
    image = has_image;
    sound = record { cpu_known = known; numbers_fit = omega (arith, fits, is.counted); missed_fit = omega arith };
    agrees = none_missing;
  }

  pub page_overflows : 2 ^ 64 ≤ number_in bytes 16 + outline.count → HasOverflow bytes
  page_overflows past = record {
    parcel = unmissed cpu (page_of bytes outline);
    reported = missed_of outline.missed;
    image = has_image;
    past = omega (arith, past, is.counted);
  }

-- ---- what the calls say

-- a sum that a checked one refuses doesn't fit
pub sum_past : (sum : Option ℕ) (empty : Bool) (a b : ℕ) → is_some sum ≡ not empty → empty ≡ true
    → SomeIff sum (a + b < 2 ^ 64) (a + b) → 2 ^ 64 ≤ a + b
sum_past None empty a b some refused is = ⊎_elim (λ fits. absurd (is fits)) (λ past. past) (cases_lt (a + b) (2 ^ 64))
sum_past (Some sum) empty a b some refused is = absurd (false≢true (sym (some ∙ ap not refused)))

pub sum_fits : (sum : Option ℕ) (empty : Bool) (a b : ℕ) → is_some sum ≡ not empty → empty ≡ false
    → SomeIff sum (a + b < 2 ^ 64) (a + b) → a + b < 2 ^ 64
sum_fits None empty a b some refused is = absurd (false≢true (some ∙ ap not refused))
sum_fits (Some sum) empty a b some refused is = is.0

-- the page that is made of an image and its slot's numbers
pub page_made : (bytes image : List ℕ) (outline : Outline) (read numbered new : Contents) (first fill : ℕ)
    → image ≡ drop 32 bytes → read ≡ page_in image outline.time outline.size
    → numbered ≡ record read { first = first; fill = fill } → new ≡ numbered → first ≡ number_in bytes 16
    → fill ≡ number_in bytes 8 → page_of bytes outline ≡ new
page_made bytes image outline read numbered new first fill image_is read_is numbered_is new_is first_is fill_is =
    sym (new_is ∙ numbered_is ∙ (λ i. record (read_is i) { first = first_is i; fill = fill_is i })
    ∙ ap
    (λ (b : List ℕ).
    record (page_in b outline.time outline.size) { first = number_in bytes 16; fill = number_in bytes 8 })
    image_is)
