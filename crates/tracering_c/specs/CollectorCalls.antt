-- What the calls of C make of a collector.
use Rattle.std.specs.Prelude.{◌≡◌, ℕ, ◌+◌, ℤ, List, length, ltb, cond, [], Option, Some, None, Result, Ok, Err}
use Rattle.trace_model.specs.Parcel.{Parcel}
use Rattle.trace_model.specs.Collection.{Misses}
use Rattle.trace_model.specs.Listing.{IsListing}
use Rattle.page_image.specs.Contents.{Contents}
use Rattle.page_numbers.specs.Parcels.{parcel_of_page}
use Rattle.library_values.specs.Used.{used_size}
use Rattle.collector.specs.declared.added.Added.{Added}
use Rattle.collector.specs.declared.fault.AddFault.{AddFault}
use Rattle.library_values.specs.declared.listed_collector.adding.AddRefusal.{AddRefusal}
use Rattle.library_values.specs.declared.listed_collector.listed.Given.{Given}
use Rattle.library_values.specs.declared.listed_collector.listed.ListedCollector.{ListedCollector}
use Rattle.library_values.specs.declared.runs.Run.{Run}
use Rattle.library_values.specs.CollectorAdding.{AddsSo, AddsPage}
use Rattle.library_values.specs.CollectorGiving.{GivesSo}
use Rattle.library_values.specs.CollectorLines.{lines_of}
use Rattle.library_values.specs.Runs.{PutsRuns}
use Rattle.tracering_c.specs.declared.codes.TheConstants.{DONE, NO_ROOM}
use Rattle.tracering_c.specs.declared.collected.FaultAt.{FaultAt}
use Rattle.tracering_c.specs.declared.collected.Listed.{Listed}
use Rattle.tracering_c.specs.declared.taken.Taken.{Taken}
use Rattle.tracering_c.specs.declared.ends.Unadded.{Unadded}
use Rattle.tracering_c.specs.declared.ends.HeldReader.{HeldReader}
use Rattle.tracering_c.specs.Codes.{add_code, page_answer, fault_at, given_code, next_line}
use Rattle.tracering_c.specs.Calls.{AreNumbersOf, IsNext, HasNoNext}

-- It keeps no parcel, and has no line to give.
pub record IsEmpty (listed : ListedCollector) : Type 0 where
  pub collector : listed.collector ≡ []
  pub lines : listed.lines ≡ []
  pub given : listed.given ≡ 0

-- The bytes are added to the collector as Rattle's call answers, and the number and the place are those of its answer.
-- The listing stays.
pub record AddsBytes (old : ListedCollector) (bytes : List ℕ) (was : FaultAt) (code : ℤ) (at : FaultAt)
    (new : ListedCollector) : Type 0 where
  pub answer : Result Added AddRefusal
  pub adds : AddsSo old.collector bytes answer new.collector
  pub listing : new ≡ record old { collector = new.collector }
  pub code_is : code ≡ add_code answer
  pub at_is : at ≡ fault_at was answer

-- What becomes of a page and of what is reported: it is reported if it was added, and else the reader keeps it.
abbrev pub IsLeft : Result Added AddFault → Contents → ℕ → (was reported : Taken) → Option Unadded → Type 0
IsLeft (Ok added) page missed was reported unadded =
    AreNumbersOf page missed (48 + used_size page missed) reported × (unadded ≡ None)
IsLeft (Err fault) page missed was reported unadded =
    (reported ≡ was) × (unadded ≡ Some record { page = page; missed = missed })

-- The reader's next page is added to the collector as a parcel of its CPU, as Rattle's call answers, and the number and
-- the place are those of its answer; or no page is next, and nothing of the collector changes. The listing stays.
pub data CollectsSo (old : HeldReader) (listed : ListedCollector) (was : Taken) (was_at : FaultAt) (code : ℤ)
    (reported : Taken) (at : FaultAt) (new : HeldReader) (left : ListedCollector) : Type 0 where
  adds_page : (page : Contents) (missed : ℕ) (answer : Result Added AddFault)
      → code ≡ add_code (page_answer answer)
      → IsNext old page missed new
      → AddsPage listed.collector (parcel_of_page old.cpu.0 page missed) answer left.collector
      → left ≡ record listed { collector = left.collector }
      → at ≡ fault_at was_at (page_answer answer)
      → IsLeft answer page missed was reported new.unadded
      → CollectsSo old listed was was_at code reported at new left
  adds_none : HasNoNext old code new
      → new.unadded ≡ None
      → left ≡ listed
      → at ≡ was_at
      → reported ≡ was
      → CollectsSo old listed was was_at code reported at new left

-- Runs are put as far as there is room, and all are counted: NO_ROOM if there is too little room.
pub record MissesSo (parcels : List Parcel) (cpu : ℕ) (out : List Run) (code : ℤ) (left : List Run) (count : ℕ)
    : Type 0 where
  pub puts : PutsRuns (Misses parcels cpu) out count left
  pub code_is : code ≡ cond (ltb (length out) count) NO_ROOM DONE

-- The collector is listed: its listing's lines are to be given, from the first on.
pub record IsListed (old : ListedCollector) (count : ℕ) (new : ListedCollector) : Type 0 where
  pub listing : IsListing old.collector (lines_of new.lines)
  pub count_is : count ≡ length new.lines
  pub first : new.given ≡ 0
  pub collector : new.collector ≡ old.collector

-- What is given of the listing, by its number; and the numbers of the line that is next, if there is one.
pub record NextSo (old : ListedCollector) (out : List ℕ) (was : Listed) (code : ℤ) (left : List ℕ) (line : Listed)
    (new : ListedCollector) : Type 0 where
  pub answer : Given
  pub gives : GivesSo old out answer left new
  pub code_is : code ≡ given_code answer
  pub line_is : line ≡ next_line was answer
