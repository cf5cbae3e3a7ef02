-- What is given of a listing.
use Rattle.std.specs.Prelude.{◌≡◌, ℕ, ◌+◌, ◌<◌, List, ◌++◌, drop, length, Some, None}
use Rattle.std.specs.List.{slice_get}
use Rattle.trace_model.specs.Listing.{Line}
use Rattle.library_values.specs.declared.listed_collector.listed.LineHead.{LineHead}
use Rattle.library_values.specs.declared.listed_collector.listed.LineNumbers.{LineNumbers}
use Rattle.library_values.specs.declared.listed_collector.listed.Given.{Given}
use Rattle.library_values.specs.declared.listed_collector.listed.Given.TheVariants.{Line as IsLine, NoRoom, End}
use Rattle.library_values.specs.declared.listed_collector.listed.ListedCollector.{ListedCollector}
use Rattle.library_values.specs.CollectorLines.{line_of}

-- these are the line's numbers, and how many bytes it has
pub record AreNumbersOf (line : Line) (numbers : LineNumbers) : Type 0 where
  pub moment_is : numbers.moment.0 ≡ line.moment
  pub cpu_is : numbers.cpu.0 ≡ line.cpu
  pub number_is : numbers.number.0 ≡ line.number
  pub len_is : numbers.len ≡ length line.bytes

-- The line that is next is given: its bytes are at the front of the buffer, and the one after it is next.
pub record IsGiven (old : ListedCollector) (out : List ℕ) (numbers : LineNumbers) (left : List ℕ)
    (new : ListedCollector) : Type 0 where
  pub kept : LineHead × List ℕ
  pub is_next : slice_get old.lines old.given ≡ Some kept
  pub numbers_are : AreNumbersOf (line_of kept) numbers
  pub bytes : left ≡ kept.1 ++ drop (length kept.1) out
  pub new_is : new ≡ record old { given = old.given + 1 }

-- The line that is next has more bytes than the buffer; nothing changes.
pub record LacksRoom (old : ListedCollector) (out : List ℕ) (numbers : LineNumbers) (left : List ℕ)
    (new : ListedCollector) : Type 0 where
  pub kept : LineHead × List ℕ
  pub is_next : slice_get old.lines old.given ≡ Some kept
  pub numbers_are : AreNumbersOf (line_of kept) numbers
  pub short : length out < length kept.1
  pub left_is : left ≡ out
  pub new_is : new ≡ old

-- No line is left; nothing changes.
pub record IsAtEnd (old : ListedCollector) (out left : List ℕ) (new : ListedCollector) : Type 0 where
  pub none : slice_get old.lines old.given ≡ None
  pub left_is : left ≡ out
  pub new_is : new ≡ old

-- What is answered says what the buffer has, and what is next.
abbrev pub GivesSo : ListedCollector → List ℕ → Given → List ℕ → ListedCollector → Type 0
GivesSo old out (IsLine numbers) left new = IsGiven old out numbers left new
GivesSo old out (NoRoom numbers) left new = LacksRoom old out numbers left new
GivesSo old out End left new = IsAtEnd old out left new
