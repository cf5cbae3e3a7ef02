-- What a reader's thread returns, and what the gate answers it.
use Rattle.std.specs.Prelude.{◌≡◌, ℕ, Bool, true, false, List, [], ◌∷◌, ◌++◌, Result, Ok, Err}
use Rattle.trace_model.specs.Parcel.{Parcel}
use Rattle.page_numbers.specs.Parcels.{as_parcels}
use Rattle.ring_shared.specs.Takes.{SameRing}
use Rattle.trace_run.specs.declared.writers.gate.Who.{Who}
use Rattle.trace_run.specs.declared.writers.gate.Who.TheVariants as who
use Rattle.trace_run.specs.readers.Value.{ReaderEndValue}
use Rattle.trace_run.specs.declared.threaded.reading.Stop.{Stop}
use Rattle.trace_run.specs.declared.threaded.reading.Stop.TheVariants.{NoMemory, Shut}
use Rattle.trace_run.specs.threaded.Asked.{HaveReadersPassed}

-- if the gate stopped the reader of this CPU, it may answer false to it at this fill
abbrev pub IsStop : {Gate : Type 0} (answers : Gate → Who → (cpu fill : ℕ) → Bool → Type 0) → Gate
    → (cpu : ℕ) → Stop → Type 0
IsStop answers gate cpu NoMemory = Unit {0}
IsStop answers gate cpu (Shut fill) = answers gate who.Reader cpu fill.0 false

-- The gate let the reader pass at the page that it took last.
pub record IsPassedLast {Gate : Type 0} (answers : Gate → Who → (cpu fill : ℕ) → Bool → Type 0) (gate : Gate)
    (cpu : ℕ) (taken : List Parcel)
    : Type 0 where
  pub earlier : List Parcel
  pub last : Parcel
  pub taken_are : taken ≡ earlier ++ last ∷ []
  pub passed : answers gate who.Reader cpu last.fill true

-- What the end takes until it is that one: it is still that of the same reader, and if the gate let this pass at each
-- page that was taken before, it did at each.
pub record TakesOn {Gate : Type 0} (answers : Gate → Who → (cpu fill : ℕ) → Bool → Type 0) (gate : Gate) (cpu : ℕ)
    (before after : ReaderEndValue)
    : Type 0 where
  pub cpu_is : after.cpu ≡ before.cpu
  pub same : SameRing before.reader after.reader
  pub passed : HaveReadersPassed answers gate cpu (as_parcels before.taken)
      → HaveReadersPassed answers gate cpu (as_parcels after.taken)

-- the end with what it took; or the gate, or refused memory, stopped it
abbrev pub HasTaken : {Gate : Type 0} (answers : Gate → Who → (cpu fill : ℕ) → Bool → Type 0) → Gate
    → (cpu : ℕ) → ReaderEndValue → Result ReaderEndValue Stop → Type 0
HasTaken answers gate cpu before (Ok after) = TakesOn answers gate cpu before after
HasTaken answers gate cpu before (Err stop) = IsStop answers gate cpu stop
