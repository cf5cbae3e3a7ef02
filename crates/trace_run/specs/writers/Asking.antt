-- What a writer asks the gate: after each fill that it has closed, with one more than the fill's number.
use Rattle.std.specs.Prelude.{◌≡◌, ℕ, ◌+◌, ◌<◌, ◌≤◌, Bool, true, false, Result, Ok, Err}
use Rattle.trace_model.specs.declared.numbers.FillNo.{FillNo}
use Rattle.ring_shared.specs.Value.{WriterValue, SameWriter}
use Rattle.ring_shared.specs.Calls.{IsWriter}
use Rattle.trace_run.specs.declared.writers.gate.Who.{Who}
use Rattle.trace_run.specs.declared.writers.gate.Who.TheVariants as who
use Rattle.trace_run.specs.declared.writers.writer.LineWriter.{LineWriter}
use Rattle.trace_run.specs.writers.LineWriters.{IsLineWriter}

-- The writer was let pass at each fill that was closed after the first `from` and among the first `to`.
pub record HavePassed {Gate : Type 0} (answers : Gate → Who → (cpu fill : ℕ) → Bool → Type 0) (gate : Gate)
    (cpu from to : ℕ)
    : Type 0 where
  pub forward : from ≤ to
  pub each : (closed : ℕ) → from ≤ closed → closed < to → answers gate who.Writer cpu (closed + 1) true

-- It was let pass at each of these fills before one, and not at that one: with this number it was asked.
pub record IsShutAt {Gate : Type 0} (answers : Gate → Who → (cpu fill : ℕ) → Bool → Type 0) (gate : Gate)
    (cpu from to asked : ℕ)
    : Type 0 where
  pub closed : ℕ
  pub asked_is : asked ≡ closed + 1
  pub below : closed < to
  pub before : HavePassed answers gate cpu from closed
  pub shut : answers gate who.Writer cpu asked false

-- it was let pass at all fills that were closed meanwhile; or this is what it was asked with where it wasn't
abbrev pub HasAsked : {Gate : Type 0} (answers : Gate → Who → (cpu fill : ℕ) → Bool → Type 0) → Gate
    → (cpu from to : ℕ) → Result Unit FillNo → Type 0
HasAsked answers gate cpu from to (Ok done) = HavePassed answers gate cpu from to
HasAsked answers gate cpu from to (Err asked) = IsShutAt answers gate cpu from to asked.0

-- Calls of a writer, after which it has asked for each fill that they closed.
pub record Asks {Gate : Type 0} (answers : Gate → Who → (cpu fill : ℕ) → Bool → Type 0) (gate : Gate) (cpu : ℕ)
    (old new : LineWriter) (result : Result Unit FillNo)
    : Type 0 where
  pub is : IsLineWriter new
  pub same : SameWriter old.writer new.writer
  pub asked : HasAsked answers gate cpu old.writer.part.done new.writer.part.done result

-- The gate shut when the ring's writer had reached some state, in which the fill was closed.
pub record IsShut {Gate : Type 0} (answers : Gate → Who → (cpu fill : ℕ) → Bool → Type 0) (gate : Gate) (cpu : ℕ)
    (before : WriterValue) (asked : FillNo)
    : Type 0 where
  pub after : WriterValue
  pub is : IsWriter after
  pub same : SameWriter before after
  pub at : IsShutAt answers gate cpu before.part.done after.part.done asked.0
