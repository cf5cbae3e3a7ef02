-- The lines of each CPU.
use Rattle.std.specs.Prelude.{ℕ, suc, List, [], ◌∷◌, map}
use Rattle.trace_model.specs.Record.{Record}
use Rattle.trace_model.specs.Listing.{Line as ModelLine}
use Rattle.time_merge.specs.LineOrder.{line_of}

-- the lines of the records of each CPU, from this one on
abbrev pub lines_of_each : (cpu : ℕ) → List (List (ℕ × Record)) → List (List ModelLine)
lines_of_each cpu [] = []
lines_of_each cpu (list ∷ records) = map (line_of cpu) list ∷ lines_of_each (suc cpu) records
