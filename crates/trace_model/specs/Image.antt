-- Page images: a page as the reader gets it, its header first. After kernel/trace/ring_buffer.c (struct
-- buffer_data_page, RB_MISSED_EVENTS, RB_MISSED_STORED, ring_buffer_read_page); what is this project's
-- own is stated in docs/formats/pages.md, "Page image".
use Rattle.std.specs.Prelude.{◌≡◌, ℕ, ◌+◌, ◌-◌, ◌*◌, ◌^◌, ◌<◌, ◌≤◌, ◌⊎◌, Bool, true, false, ◌&&◌, if◌then◌else◌, nat_lt}
use Rattle.std.specs.Prelude.{nat_le, List, [], ◌++◌, length, replicate}
use Rattle.std.specs.Int.{to_le_bytes, from_le_bytes, w64}
use Rattle.trace_model.specs.Record.{Record}
use Rattle.trace_model.specs.Words.{Decodes}
use Rattle.trace_model.specs.Faults.{Cause}
use Rattle.trace_model.specs.FirstFault.{FirstFault}
use Rattle.trace_model.specs.declared.limits.TheConstants.{MAX_IMAGE}

-- a number below 2^64 as eight bytes, the lowest first
unfoldable pub le64 : ℕ → List ℕ
le64 n = to_le_bytes w64 n

-- the number in the first eight bytes, the lowest first
unfoldable pub from_le64 : List ℕ → ℕ
from_le64 bytes = from_le_bytes w64 bytes

-- The commit word: bits 0 to 29 are the size of the data in bytes, bit 30 says that a count of missed records
-- is stored, bit 31 that records were missed before the page. Bits 32 to 63 mean nothing: kernel 6.1
-- sets them all if bit 31 is set.
pub record Commit : Type 0 where
  pub size : ℕ
  pub is_stored : Bool
  pub is_missed : Bool
  pub ignored : ℕ

-- the commit word as one number
abbrev pub commit_word : Commit → ℕ
commit_word commit =
    commit.size
    + (if commit.is_stored then 2 ^ 30 else 0)
    + (if commit.is_missed then 2 ^ 31 else 0)
    + 2 ^ 32 * commit.ignored

-- The bytes begin with a header: the time of the page and its commit word. The rest follows.
pub record HasHeader (bytes : List ℕ) (time : ℕ) (commit : Commit) (rest : List ℕ) : Type 0 where
  pub whole : bytes ≡ le64 time ++ (le64 (commit_word commit) ++ rest)
  pub time_fits : time < 2 ^ 64
  pub size_fits : commit.size < 2 ^ 30
  pub ignored_fits : commit.ignored < 2 ^ 32

-- The bytes are the parts of an image of at most `limit` bytes: a header, data of the size that it
-- states, and what follows the data.
pub record HasParts (limit : ℕ) (bytes : List ℕ) (time : ℕ) (commit : Commit) (contents behind : List ℕ) : Type 0 where
  pub header : HasHeader bytes time commit (contents ++ behind)
  pub size_is : length contents ≡ commit.size
  pub length_fits : length bytes ≤ limit

-- what an image states of records that were missed before it: none were; some were, of unknown number; how many
pub data Missed : Type 0 where
  none : Missed
  unknown : Missed
  counted : (events : ℕ) → Missed

-- The commit word and the bytes after the data state this of missed records. The count is right after the
-- data, and bytes after it are ignored; bit 30 alone means nothing.
abbrev pub ReportsMissed : Commit → List ℕ → Missed → Type 0
ReportsMissed commit behind none = commit.is_missed ≡ false
ReportsMissed commit behind unknown = (commit.is_missed ≡ true) × (commit.is_stored ≡ false)
ReportsMissed commit behind (counted number) =
    (commit.is_missed ≡ true)
    × (commit.is_stored ≡ true)
    × (number < 2 ^ 64)
    × ((ignored : List ℕ) × (behind ≡ le64 number ++ ignored))

-- The image, which has at most `limit` bytes, reads as a page of this time, with data of this size in bytes,
-- these missed records and these records.
pub record DecodesImageWithin (limit : ℕ) (bytes : List ℕ) (time size : ℕ) (missed : Missed)
    (records : List Record) : Type 0 where
  pub commit : Commit
  pub contents : List ℕ
  pub behind : List ℕ
  pub parts : HasParts limit bytes time commit contents behind
  pub size_is : size ≡ commit.size
  pub reports : ReportsMissed commit behind missed
  pub reads : Decodes contents time records

-- the reading of an image that is short enough to be read
abbrev pub DecodesImage : List ℕ → ℕ → ℕ → Missed → List Record → Type 0
DecodesImage = DecodesImageWithin MAX_IMAGE

-- ---- the image that is written

-- there is room for a count after the data
abbrev pub has_room : List ℕ → ℕ → Bool
has_room contents size = nat_le (length contents + 8) size

-- a count is stored where records were missed and there is room for it
abbrev pub stores_count : List ℕ → ℕ → ℕ → Bool
stores_count contents missed size = nat_lt 0 missed && has_room contents size

-- the commit word that is written for data, a number of missed records and the page's size
abbrev pub commit_of : List ℕ → ℕ → ℕ → Commit
commit_of contents missed size = record {
  size = length contents;
  is_stored = stores_count contents missed size;
  is_missed = nat_lt 0 missed;
  ignored = 0;
}

-- the data, a count where one is stored, and zeros up to the size of the page
abbrev pub filled : List ℕ → List ℕ → ℕ → List ℕ
filled contents stored size = contents ++ (stored ++ replicate (size - length contents - length stored) 0)

-- what is stored after the data: the count, or nothing
abbrev pub stored_count : List ℕ → ℕ → ℕ → List ℕ
stored_count contents missed size = if stores_count contents missed size then le64 missed else []

-- The one image that is written for a page of this time, data, number of missed records and data size.
abbrev pub image_of : ℕ → List ℕ → ℕ → ℕ → List ℕ
image_of time contents missed size =
    le64 time
    ++ (le64 (commit_word (commit_of contents missed size))
    ++ filled contents (stored_count contents missed size) size)

-- what that image states of this number of missed records
abbrev pub missed_reported : List ℕ → ℕ → ℕ → Missed
missed_reported contents missed size =
    if stores_count contents missed size then counted missed else (if nat_lt 0 missed then unknown else none)

-- ---- what is wrong with an image

-- too_short: there is no header. bad_size: the stated size is above the number of bytes after the header, or
-- the image is too long. bad_count: the stored count isn't there. bad_word: the data has this first fault.
pub data ImageCause : Type 0 where
  too_short : ImageCause
  bad_size : ImageCause
  bad_count : ImageCause
  bad_word : (cause : Cause) (at : ℕ) → ImageCause

-- there is a header, and more data is stated than there is, or the image is too long
pub record HasBadSize (bytes : List ℕ) : Type 0 where
  pub time : ℕ
  pub commit : Commit
  pub rest : List ℕ
  pub header : HasHeader bytes time commit rest
  pub wrong : (length rest < commit.size) ⊎ (MAX_IMAGE < length bytes)

-- header and data are there, a count is stated, and there is no room for it
pub record HasBadCount (bytes : List ℕ) : Type 0 where
  pub time : ℕ
  pub commit : Commit
  pub contents : List ℕ
  pub behind : List ℕ
  pub parts : HasParts MAX_IMAGE bytes time commit contents behind
  pub missed : commit.is_missed ≡ true
  pub stored : commit.is_stored ≡ true
  pub no_room : length behind < 8

-- header, data and the count are there, and the data has this first fault
pub record HasBadWord (bytes : List ℕ) (cause : Cause) (at : ℕ) : Type 0 where
  pub time : ℕ
  pub commit : Commit
  pub contents : List ℕ
  pub behind : List ℕ
  pub parts : HasParts MAX_IMAGE bytes time commit contents behind
  pub missed : Missed
  pub reports : ReportsMissed commit behind missed
  pub fault : FirstFault contents time cause at

-- The first fault of an image, the causes being looked at in this order.
abbrev pub FirstImageFault : List ℕ → ImageCause → Type 0
FirstImageFault bytes too_short = length bytes < 16
FirstImageFault bytes bad_size = HasBadSize bytes
FirstImageFault bytes bad_count = HasBadCount bytes
FirstImageFault bytes (bad_word cause at) = HasBadWord bytes cause at
