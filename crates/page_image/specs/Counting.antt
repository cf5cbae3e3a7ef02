-- What the reading of a page's data answers.
use Rattle.std.specs.Prelude.{◌≡◌, ℕ, List, length}
use Rattle.trace_model.specs.Words.{Decodes}
use Rattle.trace_model.specs.Reading.{records_in}
use Rattle.trace_model.specs.Faults.{cut, bad_length, time_overflow}
use Rattle.trace_model.specs.FirstFault.{FirstFault}
use Rattle.record_words.specs.declared.next.WordFault.{WordFault}
use Rattle.record_words.specs.declared.next.WordFault.TheVariants.{Cut, BadLength, TimeOverflow}

-- the data reads, as this many records
pub record IsCounted (bytes : List ℕ) (time count : ℕ) : Type 0 where
  pub reads : Decodes bytes time (records_in time bytes)
  pub count_is : count ≡ length (records_in time bytes)

-- the fault is the first one of the data
abbrev pub IsFirstWordFault : List ℕ → ℕ → WordFault → Type 0
IsFirstWordFault bytes time (Cut at) = FirstFault bytes time cut at
IsFirstWordFault bytes time (BadLength at) = FirstFault bytes time bad_length at
IsFirstWordFault bytes time (TimeOverflow at) = FirstFault bytes time time_overflow at
