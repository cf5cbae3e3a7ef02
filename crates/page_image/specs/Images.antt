-- What reading an image answers, in the words of the definitions.
use Rattle.std.specs.Prelude.{◌≡◌, ℕ, ◌+◌, ◌-◌, ◌*◌, ◌^◌, ◌<◌, ◌≤◌, true, List, length, take, drop}
use Rattle.trace_model.specs.Record.{Record}
use Rattle.trace_model.specs.Words.{Decodes}
use Rattle.trace_model.specs.Reading.{records_in}
use Rattle.trace_model.specs.Faults.{Cause, cut, bad_length, time_overflow}
use Rattle.trace_model.specs.declared.limits.TheConstants.{MAX_IMAGE}
use Rattle.trace_model.specs.Image.{Commit, commit_word, HasParts, Missed, none, unknown, counted, DecodesImage}
use Rattle.trace_model.specs.Image.{too_short, bad_size, bad_count, bad_word, FirstImageFault}
use Rattle.record_words.specs.declared.next.WordFault.{WordFault}
use Rattle.record_words.specs.declared.next.WordFault.TheVariants.{Cut, BadLength, TimeOverflow}
use Rattle.page_image.specs.declared.image.Missed.{Missed as MissedAnswer}
use Rattle.page_image.specs.declared.image.Missed.TheVariants.{None as NoneReported, Unknown, Count}
use Rattle.page_image.specs.declared.image.ImageFault.{ImageFault}
use Rattle.page_image.specs.declared.image.ImageFault.TheVariants.{TooShort, BadSize, BadCount, Word, NoMemory}
use Rattle.page_image.specs.declared.image.Outline.{Outline}
use Rattle.page_image.specs.declared.image.header.Commit.{Commit as CommitReported}
use Rattle.page_image.specs.declared.image.header.Header.{Header}
use Rattle.page_image.specs.declared.image.header.TheConstants.{HEADER, NUMBER, STORED}
use Rattle.page_image.specs.Contents.{Contents}

-- what the answer states of missed records
abbrev pub missed_of : MissedAnswer → Missed
missed_of NoneReported = none
missed_of Unknown = unknown
missed_of (Count events) = counted events

-- the bytes after the header
abbrev pub behind_header : List ℕ → List ℕ
behind_header bytes = drop HEADER bytes

-- the data of the size that is stated, and what follows it
abbrev pub data_in : List ℕ → ℕ → List ℕ
data_in bytes size = take size (behind_header bytes)

abbrev pub behind_data : List ℕ → ℕ → List ℕ
behind_data bytes size = drop size (behind_header bytes)

-- The page in an image: as large as the bytes after the header, its data of the stated size, its records
-- counted; its first number and its fill are 0, since an image doesn't state them.
abbrev pub page_in : List ℕ → ℕ → ℕ → Contents
page_in bytes time size = record {
  time = time;
  first = 0;
  count = length (records_in time (data_in bytes size));
  fill = 0;
  size = length bytes - HEADER;
  bytes = data_in bytes size;
}

-- the fault of a word, by its cause and its offset
abbrev pub word_fault : Cause → ℕ → WordFault
word_fault cut at = Cut at
word_fault bad_length at = BadLength at
word_fault time_overflow at = TimeOverflow at

-- the image has a reading
abbrev pub IsReadable : List ℕ → Type 0
IsReadable bytes =
    (time size : ℕ) × (missed : Missed) × (records : List Record) × DecodesImage bytes time size missed records

-- What an answer without a page says: the first fault, or that memory was refused for a page that reads.
abbrev pub IsImageFault : List ℕ → ImageFault → Type 0
IsImageFault bytes TooShort = FirstImageFault bytes too_short
IsImageFault bytes BadSize = FirstImageFault bytes bad_size
IsImageFault bytes BadCount = FirstImageFault bytes bad_count
IsImageFault bytes (Word (Cut at)) = FirstImageFault bytes (bad_word cut at)
IsImageFault bytes (Word (BadLength at)) = FirstImageFault bytes (bad_word bad_length at)
IsImageFault bytes (Word (TimeOverflow at)) = FirstImageFault bytes (bad_word time_overflow at)
IsImageFault bytes NoMemory = IsReadable bytes

-- the commit word as it is read, with these bits above it
abbrev pub commit_with : CommitReported → ℕ → Commit
commit_with reported ignored = record {
  size = reported.size;
  is_stored = reported.is_stored;
  is_missed = reported.is_missed;
  ignored = ignored;
}

-- the number is this commit word, whatever its bits 32 to 63
pub record IsCommitWord (word : ℕ) (reported : CommitReported) : Type 0 where
  pub ignored : ℕ
  pub word_is : commit_word (commit_with reported ignored) ≡ word
  pub size_fits : reported.size < STORED
  pub ignored_fits : ignored < 2 ^ 32

-- the image has the parts that this header states
pub record HasPartsOf (bytes : List ℕ) (header : Header) : Type 0 where
  pub ignored : ℕ
  pub parts :
      HasParts MAX_IMAGE bytes header.time (commit_with header.commit ignored)
      (data_in bytes header.commit.size)
      (behind_data bytes header.commit.size)

-- a count is stated, and there is no room for it
pub record LacksCount (reported : CommitReported) (behind : List ℕ) : Type 0 where
  pub missed : reported.is_missed ≡ true
  pub stored : reported.is_stored ≡ true
  pub no_room : length behind < NUMBER

-- the image reads, and this is stated of it
pub record IsOutlined (bytes : List ℕ) (outline : Outline) : Type 0 where
  pub reads :
      DecodesImage bytes outline.time outline.size (missed_of outline.missed)
      (records_in outline.time (data_in bytes outline.size))
  pub data_reads :
      Decodes (data_in bytes outline.size) outline.time
      (records_in outline.time (data_in bytes outline.size))
  pub counted : outline.count ≡ length (records_in outline.time (data_in bytes outline.size))
  pub few : 4 * outline.count ≤ outline.size
  pub there : HEADER + outline.size ≤ length bytes
  pub limit : length bytes ≤ MAX_IMAGE
