-- A walk over the words of a page's data: how far they are read, and what is stated of a word stepped over.
use Rattle.std.specs.Prelude.{◌≡◌, ℕ, ◌+◌, ◌^◌, nat_lt, if◌then◌else◌, List, [], ◌∷◌, ◌++◌, length, drop, Option, Some}
use Rattle.std.specs.Prelude.{None, unwrap_or}
use Rattle.std.specs.List.{AllByRecursion}
use Rattle.trace_model.specs.Record.{Record}
use Rattle.trace_model.specs.Words.{Word, short_data, long_data, padding, time_extend, time_stamp, joined, IsWord}
use Rattle.trace_model.specs.Words.{stamp_of, delta_of, moment_after, records_at, records_of, FitsTime}
use Rattle.trace_model.specs.Reading.{words_in}
use Rattle.trace_model.specs.Overwriting.{bytes_at}
use Rattle.record_words.specs.declared.put.Place.{Place}
use Rattle.page_image.specs.declared.walk.Reached.{Reached}
use Rattle.page_image.specs.declared.walk.Passed.{Passed}

-- These words are read: they are the data up to the offset, their times fit, and the moment after them and the
-- number of their records are stated.
pub record HasRead (bytes : List ℕ) (time : ℕ) (words : List Word) (reached : Reached) : Type 0 where
  pub whole : bytes ≡ joined words ++ drop reached.at bytes
  pub each : AllByRecursion IsWord words
  pub in_time : FitsTime time words
  pub at_is : reached.at ≡ length (joined words)
  pub moment_is : reached.moment ≡ moment_after time words
  pub count_is : reached.count ≡ length (records_of time words)

-- the record with the payload in this place, if there is one
abbrev pub records_at_place : List ℕ → ℕ → Option Place → List Record
records_at_place bytes moment None = []
records_at_place bytes moment (Some place) =
    record { moment = moment; bytes = bytes_at place.start place.len bytes } ∷ []

-- after the words that were read one more was stepped over, and its record, if it holds one, is stated
pub record HasPassed (bytes : List ℕ) (time : ℕ) (words : List Word) (passed : Passed) : Type 0 where
  pub word : Word
  pub read : HasRead bytes time (words ++ word ∷ []) passed.behind
  pub records_is : records_at time words word ≡ records_at_place bytes passed.behind.moment passed.payload

-- the moment after a word, from the one before it
abbrev pub moment_behind : ℕ → Word → ℕ
moment_behind moment w = unwrap_or (stamp_of w) moment + delta_of w

-- the record that a word holds, if it is data, with the moment after the word
abbrev pub record_held : ℕ → Word → List Record
record_held moment (short_data delta payload) = record { moment = moment; bytes = payload } ∷ []
record_held moment (long_data delta payload) = record { moment = moment; bytes = payload } ∷ []
record_held moment (padding delta skipped) = []
record_held moment (time_extend delta) = []
record_held moment (time_stamp time) = []

-- The records that words hold, with the moment before the words. They end where a moment doesn't fit
-- 64 bits.
abbrev pub records_held : ℕ → List Word → List Record
records_held moment [] = []
records_held moment (w ∷ words) =
    if nat_lt (moment_behind moment w) (2 ^ 64)
    then record_held (moment_behind moment w) w ++ records_held (moment_behind moment w) words
    else []

-- what a walk still comes by: of a page whose data reads, at the front all of its records
abbrev pub records_left : List ℕ → Reached → List Record
records_left bytes reached = records_held reached.moment (words_in (drop reached.at bytes))
