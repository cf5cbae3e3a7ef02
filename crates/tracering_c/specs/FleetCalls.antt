-- What the calls of C make of a fleet.
use Rattle.std.specs.Prelude.{◌≡◌, ℕ, ℤ, List, length, ltb, cond, [], Option, IfSome, IfNone, unwrap_or, Result}
use Rattle.std.specs.Prelude.{Ok, OnErr}
use Rattle.trace_model.specs.declared.numbers.Moment.{Moment}
use Rattle.library_values.specs.declared.runs.Run.{Run}
use Rattle.stream_collector.specs.declared.added.Marked.{Marked}
use Rattle.stream_collector.specs.declared.added.Marked.TheVariants.{Known}
use Rattle.stream_collector.specs.declared.fault.MarkFault.{MarkFault}
use Rattle.stream_collector.specs.Stream.{Stream}
use Rattle.fleet_collector.specs.Fleet.{stream_at, KeepsOthers}
use Rattle.fleet_collector.specs.Listing.{IsFleetListing, IsListingBefore}
use Rattle.fleet_collector.specs.Frontier.{IsFleetFrontier, AllForgottenBefore, SomeForgottenBefore}
use Rattle.fleet_collector.specs.Changes.{ForgetsBelow, LosesBelow}
use Rattle.fleet_collector.specs.declared.merge_fault.FleetMergeFault.{FleetMergeFault}
use Rattle.library_values.specs.declared.listed_fleet.adding.AddAnswer.{AddAnswer}
use Rattle.library_values.specs.declared.listed_fleet.listed.Given.{Given}
use Rattle.library_values.specs.declared.listed_fleet.listed.ListedFleet.{ListedFleet}
use Rattle.library_values.specs.FleetAdding.{AddsSo}
use Rattle.library_values.specs.Cpus.{IsLeastFrom, HasNoneFrom}
use Rattle.library_values.specs.FleetGiving.{GivesSo}
use Rattle.library_values.specs.FleetLines.{lines_of}
use Rattle.library_values.specs.Merging as merging
use Rattle.library_values.specs.Runs.{PutsRuns}
use Rattle.tracering_c.specs.declared.codes.TheConstants.{DONE, NO_ROOM}
use Rattle.tracering_c.specs.declared.fleet_codes.StreamFault.{StreamFault}
use Rattle.tracering_c.specs.declared.fleet_codes.FleetLine.{FleetLine}
use Rattle.tracering_c.specs.FleetCodes.{answer_code, answer_used, answer_at, marked_code, marked_at, merged_code}
use Rattle.tracering_c.specs.FleetCodes.{merged_at, found_code, frontier_code, frontier_moment, given_code, next_line}

-- No stream is there, and no line is to be given.
pub record IsEmpty (listed : ListedFleet) : Type 0 where
  pub fleet : listed.fleet ≡ []
  pub lines : listed.lines ≡ []
  pub given : listed.given ≡ 0

-- The piece at the front of the bytes is added to the fleet as Rattle's call answers, and the number, the place and how
-- many bytes it has are those of its answer. The listing stays.
pub record AddsPieceSo (old : ListedFleet) (bytes : List ℕ) (was_used : ℕ) (was : StreamFault) (code : ℤ) (used : ℕ)
    (at : StreamFault) (new : ListedFleet) : Type 0 where
  pub answer : AddAnswer
  pub adds : AddsSo old.fleet bytes answer new.fleet
  pub listing : new ≡ record old { fleet = new.fleet }
  pub code_is : code ≡ answer_code answer
  pub used_is : used ≡ answer_used was_used answer
  pub at_is : at ≡ answer_at was answer

-- A bound of a CPU of a stream is raised, or not, as this says of the stream, and the number and the place are those of
-- the answer. All other streams stay, and so does the listing; nothing changes, unless the answer is that the bound is
-- new.
pub record RaisesSo (says : Stream → Stream → Result Marked MarkFault → Type 0) (old : ListedFleet) (stream cpu : ℕ)
    (was : StreamFault) (code : ℤ) (at : StreamFault) (new : ListedFleet) : Type 0 where
  pub answer : Result Marked MarkFault
  pub says_so : says (stream_at old.fleet stream) (stream_at new.fleet stream) answer
  pub others : KeepsOthers old.fleet new.fleet stream
  pub listing : new ≡ record old { fleet = new.fleet }
  pub known : answer ≡ Ok Known → new ≡ old
  pub refused : OnErr answer (new ≡ old)
  pub code_is : code ≡ marked_code answer
  pub at_is : at ≡ marked_at was stream cpu answer

-- so it is with a bound below which all is accounted for
abbrev pub ForgetsSo : ListedFleet → (stream cpu bound : ℕ) → StreamFault → ℤ → StreamFault → ListedFleet → Type 0
ForgetsSo old stream cpu bound was code at new =
    RaisesSo (λ before after answer. ForgetsBelow before after cpu bound answer) old stream cpu was code at new

-- and with one below which what is unknown is given up
abbrev pub GivesUpSo : ListedFleet → (stream cpu bound : ℕ) → StreamFault → ℤ → StreamFault → ListedFleet → Type 0
GivesUpSo old stream cpu bound was code at new =
    RaisesSo (λ before after answer. LosesBelow before after cpu bound answer) old stream cpu was code at new

-- The least number, from one on, of which this holds is given; or there is none, and nothing is.
pub record GivesLeast (holds : ℕ → Type 0) (from was : ℕ) (code : ℤ) (given : ℕ) : Type 0 where
  pub answer : Option ℕ
  pub least : IfSome answer (IsLeastFrom holds from)
  pub none : IfNone answer (HasNoneFrom holds from)
  pub code_is : code ≡ found_code answer
  pub given_is : given ≡ unwrap_or answer was

-- Runs are put as far as there is room, and all are counted: NO_ROOM if there is too little room.
pub record RunsSo (holds : ℕ → Type 0) (out : List Run) (code : ℤ) (left : List Run) (count : ℕ) : Type 0 where
  pub puts : PutsRuns holds out count left
  pub code_is : code ≡ cond (ltb (length out) count) NO_ROOM DONE

-- The fleet is listed: its listing's lines are to be given, from the first on.
pub record IsListed (old : ListedFleet) (count : ℕ) (new : ListedFleet) : Type 0 where
  pub listing : IsFleetListing old.fleet (lines_of new.lines)
  pub count_is : count ≡ length new.lines
  pub first : new.given ≡ 0
  pub fleet : new.fleet ≡ old.fleet

-- What is before the cuts of the CPUs at a moment is listed: its lines are to be given, from the first on.
pub record IsListedBefore (old : ListedFleet) (moment count : ℕ) (new : ListedFleet) : Type 0 where
  pub listing : IsListingBefore old.fleet moment (lines_of new.lines)
  pub count_is : count ≡ length new.lines
  pub first : new.given ≡ 0
  pub fleet : new.fleet ≡ old.fleet

-- Each stream has forgotten what is before the cuts of its CPUs at a moment. The listing stays.
pub record HasForgotten (old : ListedFleet) (moment : ℕ) (new : ListedFleet) : Type 0 where
  pub streams : AllForgottenBefore old.fleet new.fleet moment
  pub listing : new ≡ record old { fleet = new.fleet }

-- Each stream has, or is as it was. The listing stays.
pub record HasForgottenSome (old : ListedFleet) (moment : ℕ) (new : ListedFleet) : Type 0 where
  pub streams : SomeForgottenBefore old.fleet new.fleet moment
  pub listing : new ≡ record old { fleet = new.fleet }

-- The fleet's frontier is answered, or that there is none: all is complete.
pub record FrontierSo (listed : ListedFleet) (was : ℕ) (code : ℤ) (moment : ℕ) : Type 0 where
  pub answer : Option Moment
  pub frontier : IsFleetFrontier listed.fleet answer
  pub code_is : code ≡ frontier_code answer
  pub moment_is : moment ≡ frontier_moment was answer

-- What is given of the listing, by its number; and the numbers of the line that is next, if there is one.
pub record NextSo (old : ListedFleet) (out : List ℕ) (was : FleetLine) (code : ℤ) (left : List ℕ) (line : FleetLine)
    (new : ListedFleet) : Type 0 where
  pub answer : Given
  pub gives : GivesSo old out answer left new
  pub code_is : code ≡ given_code answer
  pub line_is : line ≡ next_line was answer

-- A fleet is merged with another one as Rattle's call answers, and the number and the place are those of its answer.
pub record MergesSo (old other : ListedFleet) (was : StreamFault) (code : ℤ) (at : StreamFault) (new : ListedFleet)
    : Type 0 where
  pub fault : Option FleetMergeFault
  pub merges : merging.MergesSo old other.fleet fault new
  pub code_is : code ≡ merged_code fault
  pub at_is : at ≡ merged_at was fault
