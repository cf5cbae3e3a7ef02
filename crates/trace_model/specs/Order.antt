-- The order of records in time, the last moment of a list of them, and what a writer can put.
use Rattle.std.specs.Prelude.{◌≡◌, ℕ, ◌+◌, ◌^◌, ◌<◌, ◌≤◌, ⊤, List, [], ◌∷◌, length, Option, Some, None}
use Rattle.trace_model.specs.declared.limits.TheConstants.{MOMENT_LIMIT}
use Rattle.trace_model.specs.Record.{Record}
use Rattle.trace_model.specs.Words.{slot_len}

-- the moment of the last record, if there is one
abbrev pub moment_of_last : List Record → Option ℕ
moment_of_last [] = None
moment_of_last (r ∷ []) = Some r.moment
moment_of_last (r ∷ s ∷ records) = moment_of_last (s ∷ records)

-- there is a last record, and this is its moment
abbrev pub EndsAt : List Record → ℕ → Type 0
EndsAt records moment = moment_of_last records ≡ Some moment

-- the moment of the first record, or the time given where there is none
abbrev pub first_moment_or : ℕ → List Record → ℕ
first_moment_or time [] = time
first_moment_or time (r ∷ records) = r.moment

-- after a moment, no record has a smaller moment than the one before it
abbrev pub NeverFallsFrom : ℕ → List Record → Type 0
NeverFallsFrom moment [] = ⊤
NeverFallsFrom moment (r ∷ records) = (moment ≤ r.moment) × NeverFallsFrom r.moment records

-- no record has a smaller moment than the one before it
abbrev pub NeverFalls : List Record → Type 0
NeverFalls records = NeverFallsFrom 0 records

-- what a writer can put: a moment that an extend can reach, and bytes that fill a slot and fit a length word
abbrev pub IsWritable : Record → Type 0
IsWritable r = (r.moment < MOMENT_LIMIT) × (slot_len (length r.bytes) ≡ length r.bytes) × (length r.bytes + 4 < 2 ^ 32)
