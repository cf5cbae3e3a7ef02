-- The times of stamps, restored. A stamp has 59 bits of a time. After kernel/trace/ring_buffer.c (rb_fix_abs_ts): a
-- reader that knows the time before a stamp takes the bits above them from it, and adds 2^59 if the stamp would be
-- earlier.
use Rattle.std.specs.Prelude.{ℕ, ◌+◌, ◌-◌, ◌%◌, ◌^◌, if◌then◌else◌, nat_lt, List, [], ◌∷◌, ◌++◌, length, take, drop}
use Rattle.trace_model.specs.Words.{Word, short_data, long_data, padding, time_extend, time_stamp, joined}
use Rattle.trace_model.specs.Words.{word_time_limit}
use Rattle.trace_model.specs.Reading.{words_in}
use Rattle.trace_model.specs.Image.{from_le64}
use Rattle.page_image.specs.Images.{data_in, behind_data}
use Rattle.page_image.specs.Walk.{moment_behind}

-- how long after a time the next one is whose low 59 bits are the stamp's; it may be that time itself
abbrev pub time_until : (before stamp : ℕ) → ℕ
time_until before stamp = (stamp + word_time_limit - before % word_time_limit) % word_time_limit

-- A stamp as an extend from the time before it, which has the same length and leads to the stamp's whole time. Where
-- the time before it has no bit above the 59, nothing is to be restored; other words stay too.
abbrev pub restored_word : (before : ℕ) → Word → Word
restored_word before (time_stamp stamp) =
    if nat_lt before word_time_limit then time_stamp stamp else time_extend (time_until before stamp)
restored_word before (short_data delta payload) = short_data delta payload
restored_word before (long_data delta payload) = long_data delta payload
restored_word before (padding delta skipped) = padding delta skipped
restored_word before (time_extend delta) = time_extend delta

-- the time after a word, as a number of 64 bits: a page in which it passes them has a fault there
abbrev pub restored_time : (before : ℕ) → Word → ℕ
restored_time before w = moment_behind before (restored_word before w) % 2 ^ 64

-- the words of a page, the first of them after this time
abbrev pub restored_words : (before : ℕ) → List Word → List Word
restored_words before [] = []
restored_words before (w ∷ words) = restored_word before w ∷ restored_words (restored_time before w) words

-- the data of a page with this time: its words up to the first fault, and the bytes after them as they are
abbrev pub restored_data : (time : ℕ) → List ℕ → List ℕ
restored_data time bytes =
    joined (restored_words time (words_in bytes)) ++ drop (length (joined (words_in bytes))) bytes

-- the size of the data that the header of an image states
abbrev pub stated_size : List ℕ → ℕ
stated_size bytes = from_le64 (drop 8 bytes) % 2 ^ 30

-- An image whose data is restored. One with fewer bytes than it states has a fault, and stays as it is.
abbrev pub restored_image : List ℕ → List ℕ
restored_image bytes =
    if nat_lt (length bytes) (16 + stated_size bytes) then bytes
    else take 16 bytes
    ++ (restored_data (from_le64 bytes) (data_in bytes (stated_size bytes)) ++ behind_data bytes (stated_size bytes))
