-- From the parts of an image, as they are read, to its reading or its first fault.
use Rattle.std.proofs.Common.{◌≡◌, ◌⊎◌, ◌↔◌, ℕ, ◌+◌, ◌*◌, ◌^◌, ◌<◌, ◌≤◌, true, List, ◌++◌, length, drop, Result, Ok}
use Rattle.std.proofs.Common.{Err, IfOk, IfErr, refl, sym, ap, ◌∙◌, subst, arith, length-drop}
use Rattle.std.proofs.lemmas.List.{drop-drop}
use Rattle.trace_model.specs.Faults.{Cause, cut, bad_length, time_overflow}
use Rattle.trace_model.specs.FirstFault.{AreBytes, FirstFault}
use Rattle.trace_model.specs.Image.{le64, from_le64, commit_word, HasHeader, Missed, counted, ReportsMissed}
use Rattle.trace_model.specs.Image.{DecodesImage, ImageCause, too_short, bad_size, bad_count, bad_word, HasBadSize}
use Rattle.trace_model.specs.Image.{HasBadWord, FirstImageFault}
use Rattle.trace_model.specs.declared.limits.TheConstants.{MAX_IMAGE}
use Rattle.trace_model.proofs.words.OneWord.{AreBytes-drop}
use Rattle.trace_model.proofs.images.ImageParts.{le64-front, from_le64_lt, HasParts-of}
use Rattle.trace_model.proofs.images.Images.{DecodesImage-FirstImageFault, FirstImageFault-unique}
use Rattle.record_words.specs.declared.next.WordFault.{WordFault}
use Rattle.record_words.specs.declared.next.WordFault.TheVariants.{Cut, BadLength, TimeOverflow}
use Rattle.page_image.specs.declared.image.Image.{Image}
use Rattle.page_image.specs.declared.image.ImageFault.{ImageFault}
use Rattle.page_image.specs.declared.image.ImageFault.TheVariants.{TooShort, BadSize, BadCount, Word, NoMemory}
use Rattle.page_image.specs.declared.image.Outline.{Outline}
use Rattle.page_image.specs.declared.image.header.Commit.{Commit as CommitReported}
use Rattle.page_image.specs.declared.image.header.Header.{Header}
use Rattle.page_image.specs.Contents.{records_of_page}
use Rattle.page_image.specs.Counting.{IsCounted, IsFirstWordFault}
use Rattle.page_image.specs.Images.{missed_of, behind_header, data_in, behind_data, word_fault, IsReadable}
use Rattle.page_image.specs.Images.{IsImageFault, commit_with, IsCommitWord, HasPartsOf, IsOutlined}

-- ---- the header

-- two numbers at the front are a header
pub header_from : (bytes : List ℕ) (time word : ℕ) (reported : CommitReported) → AreBytes bytes → 16 ≤ length bytes
    → time ≡ from_le64 bytes → word ≡ from_le64 (drop 8 bytes) → (w : IsCommitWord word reported)
    → HasHeader bytes time (commit_with reported w.ignored) (behind_header bytes)
header_from bytes time word reported small long time_is word_is w =
    let behind : List ℕ = drop 8 bytes in
    let spelled : from_le64 behind ≡ commit_word (commit_with reported w.ignored) = sym word_is ∙ sym w.word_is in
    record {
      whole = le64-front bytes (omega arith) small
          ∙ ap (λ (b : List ℕ). le64 (from_le64 bytes) ++ b)
          (le64-front behind (omega (arith, length-drop 8 bytes)) (AreBytes-drop 8 bytes small))
          ∙ (λ i. le64 (sym time_is i) ++ (le64 (spelled i) ++ drop-drop 8 8 bytes i));
      time_fits = subst (λ (n : ℕ). n < 2 ^ 64) (sym time_is) (from_le64_lt bytes small);
      size_fits = w.size_fits;
      ignored_fits = w.ignored_fits;
    }

pub bad_size_from : (bytes : List ℕ) (time word : ℕ) (reported : CommitReported) → AreBytes bytes → 16 ≤ length bytes
    → time ≡ from_le64 bytes → word ≡ from_le64 (drop 8 bytes) → IsCommitWord word reported
    → (length (behind_header bytes) < reported.size) ⊎ (MAX_IMAGE < length bytes) → HasBadSize bytes
bad_size_from bytes time word reported small long time_is word_is w wrong =
    record {
      time = time;
      commit = commit_with reported w.ignored;
      rest = behind_header bytes;
      header = header_from bytes time word reported small long time_is word_is w;
      wrong = wrong;
    }

pub parts_from : (bytes : List ℕ) (time word : ℕ) (reported : CommitReported) → AreBytes bytes
    → 16 + reported.size ≤ length bytes → time ≡ from_le64 bytes → word ≡ from_le64 (drop 8 bytes)
    → IsCommitWord word reported → length bytes ≤ MAX_IMAGE
    → HasPartsOf bytes (record { time = time; commit = reported })
parts_from bytes time word reported small there time_is word_is w limit = record {
  ignored = w.ignored;
  parts =
      HasParts-of MAX_IMAGE bytes time (commit_with reported w.ignored) (behind_header bytes)
      (header_from bytes time word reported small (omega arith) time_is word_is w)
      (omega (arith, length-drop 16 bytes)) limit;
}

-- ---- missed events

pub counted_from : (behind : List ℕ) (reported : CommitReported) (number ignored : ℕ) → AreBytes behind
    → reported.is_missed ≡ true → reported.is_stored ≡ true → 8 ≤ length behind → number ≡ from_le64 behind
    → ReportsMissed (commit_with reported ignored) behind (counted number)
counted_from behind reported number ignored small missed stored long number_is = (
  missed,
  stored,
  subst (λ (n : ℕ). n < 2 ^ 64) (sym number_is) (from_le64_lt behind small),
  (drop 8 behind, le64-front behind long small ∙ ap (λ (n : ℕ). le64 n ++ drop 8 behind) (sym number_is)),
)

-- ---- the words

-- what is stated of missed events if these parts are read
abbrev pub ReportsOf : List ℕ → Header → Missed → Type 0
ReportsOf bytes header missed =
    (ignored : ℕ) → ReportsMissed (commit_with header.commit ignored) (behind_data bytes header.commit.size) missed

bad_word_from : (bytes : List ℕ) (header : Header) (missed : Missed) (cause : Cause) (at : ℕ) → HasPartsOf bytes header
    → ReportsOf bytes header missed → FirstFault (data_in bytes header.commit.size) header.time cause at
    → HasBadWord bytes cause at
bad_word_from bytes header missed cause at p reported fault = record {
  time = header.time;
  commit = commit_with header.commit p.ignored;
  contents = data_in bytes header.commit.size;
  behind = behind_data bytes header.commit.size;
  parts = p.parts;
  missed = missed;
  reports = reported p.ignored;
  fault = fault;
}

pub word_faulty : (bytes : List ℕ) (header : Header) (missed : Missed) (f : WordFault) → HasPartsOf bytes header
    → ReportsOf bytes header missed → IsFirstWordFault (data_in bytes header.commit.size) header.time f
    → IsImageFault bytes (Word f)
word_faulty bytes header missed (Cut at) p reported fault = bad_word_from bytes header missed cut at p reported fault
word_faulty bytes header missed (BadLength at) p reported fault =
    bad_word_from bytes header missed bad_length at p reported fault
word_faulty bytes header missed (TimeOverflow at) p reported fault =
    bad_word_from bytes header missed time_overflow at p reported fault

pub outlined : (bytes : List ℕ) (outline : Outline) (reported : CommitReported) → outline.size ≡ reported.size
    → HasPartsOf bytes (record { time = outline.time; commit = reported })
    → ReportsOf bytes (record { time = outline.time; commit = reported }) (missed_of outline.missed)
    → 16 + reported.size ≤ length bytes → IsCounted (data_in bytes reported.size) outline.time outline.count
    → 4 * outline.count ≤ length (data_in bytes reported.size) → IsOutlined bytes outline
outlined bytes outline reported size_is p reports there counts few =
    let size : length (data_in bytes reported.size) ≡ reported.size = p.parts.size_is in
    let limit = p.parts.length_fits in
    subst
    (λ (n : ℕ).
    IsOutlined bytes (record { time = outline.time; size = n; missed = outline.missed; count = outline.count }))
    (sym size_is) (record {
      reads = record {
        commit = commit_with reported p.ignored;
        contents = data_in bytes reported.size;
        behind = behind_data bytes reported.size;
        parts = p.parts;
        size_is = refl;
        reports = reports p.ignored;
        reads = counts.reads;
      };
      data_reads = counts.reads;
      counted = counts.count_is;
      few = omega arith;
      there = there;
      limit = limit;
    })

-- ---- an answer and what the bytes are decide each other

abbrev ReadsAs : List ℕ → Image → Type 0
ReadsAs bytes image = DecodesImage bytes image.time image.size (missed_of image.missed) (records_of_page image.page)

no_fault : (bytes : List ℕ) (fault : ImageCause) → IsReadable bytes → FirstImageFault bytes fault → ⊥
no_fault bytes fault r f = DecodesImage-FirstImageFault bytes r.0 r.1 r.2 r.3 fault r.4 f

-- the fault that names a cause
fault_of : ImageCause → ImageFault
fault_of too_short = TooShort
fault_of bad_size = BadSize
fault_of bad_count = BadCount
fault_of (bad_word cause at) = Word (word_fault cause at)

-- a fault that is reported names the cause that is there
reported_is : (bytes : List ℕ) (reported : ImageFault) (cause : ImageCause) → IsImageFault bytes reported
    → FirstImageFault bytes cause → reported ≡ fault_of cause
unfolding fault_of
reported_is bytes TooShort cause f g = ap fault_of (FirstImageFault-unique bytes too_short cause f g)
reported_is bytes BadSize cause f g = ap fault_of (FirstImageFault-unique bytes bad_size cause f g)
reported_is bytes BadCount cause f g = ap fault_of (FirstImageFault-unique bytes bad_count cause f g)
reported_is bytes (Word (Cut at)) cause f g = ap fault_of (FirstImageFault-unique bytes (bad_word cut at) cause f g)
reported_is bytes (Word (BadLength at)) cause f g =
    ap fault_of (FirstImageFault-unique bytes (bad_word bad_length at) cause f g)
reported_is bytes (Word (TimeOverflow at)) cause f g =
    ap fault_of (FirstImageFault-unique bytes (bad_word time_overflow at) cause f g)
reported_is bytes NoMemory cause f g = absurd (no_fault bytes cause f g)

-- if there is a fault, it is reported
reports_cause : (bytes : List ℕ) (r : Result Image ImageFault) (cause : ImageCause)
    → IfOk r (λ image. ReadsAs bytes image) → IfErr r (λ f. IsImageFault bytes f) → FirstImageFault bytes cause
    → r ≡ Err (fault_of cause)
reports_cause bytes (Ok image) cause reads fault is =
    absurd (DecodesImage-FirstImageFault bytes image.time image.size (missed_of image.missed)
    (records_of_page image.page) cause reads is)
reports_cause bytes (Err reported) cause reads fault is =
    ap (λ (f : ImageFault). Err f) (reported_is bytes reported cause fault is)

-- what is reported is there
is_reported : (bytes : List ℕ) (r : Result Image ImageFault) (reported : ImageFault)
    → IfErr r (λ f. IsImageFault bytes f) → r ≡ Err reported → IsImageFault bytes reported
is_reported bytes r reported fault e =
    subst (λ (x : Result Image ImageFault). IfErr x (λ f. IsImageFault bytes f)) e fault

pub too_short-iff : (bytes : List ℕ) (r : Result Image ImageFault) → IfOk r (λ image. ReadsAs bytes image)
    → IfErr r (λ f. IsImageFault bytes f) → (r ≡ Err TooShort) ↔ FirstImageFault bytes too_short
unfolding fault_of
too_short-iff bytes r reads fault =
    (λ e. is_reported bytes r TooShort fault e, λ is. reports_cause bytes r too_short reads fault is)

pub bad_size-iff : (bytes : List ℕ) (r : Result Image ImageFault) → IfOk r (λ image. ReadsAs bytes image)
    → IfErr r (λ f. IsImageFault bytes f) → (r ≡ Err BadSize) ↔ FirstImageFault bytes bad_size
unfolding fault_of
bad_size-iff bytes r reads fault =
    (λ e. is_reported bytes r BadSize fault e, λ is. reports_cause bytes r bad_size reads fault is)

pub bad_count-iff : (bytes : List ℕ) (r : Result Image ImageFault) → IfOk r (λ image. ReadsAs bytes image)
    → IfErr r (λ f. IsImageFault bytes f) → (r ≡ Err BadCount) ↔ FirstImageFault bytes bad_count
unfolding fault_of
bad_count-iff bytes r reads fault =
    (λ e. is_reported bytes r BadCount fault e, λ is. reports_cause bytes r bad_count reads fault is)

bad_word_is : (bytes : List ℕ) (cause : Cause) (at : ℕ) → IsImageFault bytes (Word (word_fault cause at))
    → HasBadWord bytes cause at
bad_word_is bytes cut at is = is
bad_word_is bytes bad_length at is = is
bad_word_is bytes time_overflow at is = is

pub bad_word-iff : (bytes : List ℕ) (r : Result Image ImageFault) (cause : Cause) (at : ℕ)
    → IfOk r (λ image. ReadsAs bytes image) → IfErr r (λ f. IsImageFault bytes f)
    → (r ≡ Err (Word (word_fault cause at))) ↔ FirstImageFault bytes (bad_word cause at)
unfolding fault_of
bad_word-iff bytes r cause at reads fault = (
  λ e. bad_word_is bytes cause at (is_reported bytes r (Word (word_fault cause at)) fault e),
  λ is. reports_cause bytes r (bad_word cause at) reads fault is,
)
