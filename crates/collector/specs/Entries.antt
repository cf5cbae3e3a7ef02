-- The record that a parcel has under a number.
use Rattle.std.specs.Prelude.{ℕ, ◌-◌, Option}
use Rattle.std.specs.List.{slice_get}
use Rattle.trace_model.specs.Record.{Record}
use Rattle.trace_model.specs.Parcel.{Parcel}

-- the record under a number of the parcel's CPU, if the number isn't before the parcel's first
abbrev pub record_of : Parcel → ℕ → Option Record
record_of parcel number = slice_get parcel.records (number - parcel.first)

-- a record and its number, as an entry gives them
abbrev pub numbered : ℕ → Record → ℕ × Record
numbered number r = (number, r)
