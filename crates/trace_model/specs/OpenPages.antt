-- How the data of a page holds a fill of which some records are still being written.
-- After kernel/trace/ring_buffer.c (__rb_reserve_next, rb_commit): a reserved event has its header and its place
-- in the page at once, and its payload is the writer's until it commits. docs/formats/pages.md, "Record words".
use Rattle.std.specs.Prelude.{◌≡◌, ℕ, List, [], ◌∷◌, length, IfSome}
use Rattle.trace_model.specs.Record.{Record}
use Rattle.trace_model.specs.Words.{Decodes}
use Rattle.trace_model.specs.Reading.{records_in, EndsInRecord}
use Rattle.trace_model.specs.History.{Reservation}
use Rattle.trace_model.specs.Packing.{fill_len}

-- A record of the data is the reserved one: it has its moment and as many bytes as its slot; once its frame has left,
-- it has its very bytes.
pub record IsOf (r : Record) (s : Reservation) : Type 0 where
  pub moment_is : r.moment ≡ s.moment
  pub fills_slot : length r.bytes ≡ s.len
  pub bytes_are : IfSome s.bytes (λ bytes. r.bytes ≡ bytes)

-- records are those of reservations, one by one
abbrev pub AreOf : List Record → List Reservation → Type 0
AreOf [] [] = Unit {0}
AreOf [] (s ∷ reservations) = ⊥
AreOf (r ∷ records) [] = ⊥
AreOf (r ∷ records) (s ∷ reservations) = IsOf r s × AreOf records reservations

-- the moment of the first record, 0 where there is none
abbrev pub first_moment : List Reservation → ℕ
first_moment [] = 0
first_moment (r ∷ records) = r.moment

-- Data of this time holds the records of a fill: it reads as them, takes exactly the bytes that they need, and one more
-- may follow.
pub record HoldsRecords (time : ℕ) (bytes : List ℕ) (fill : List Reservation) : Type 0 where
  pub reads : Decodes bytes time (records_in time bytes)
  pub each : AreOf (records_in time bytes) fill
  pub time_is : time ≡ first_moment fill
  pub len_is : length bytes ≡ fill_len fill
  pub ends : EndsInRecord bytes
