-- What a replay prints: its log, and its collectors. docs/formats/program.md, "Printed text" and "Log".
use Rattle.std.specs.Prelude.{ℕ, Bool, if◌then◌else◌, List, [], ◌∷◌, ◌++◌, flat_map, codes}
use Rattle.std.specs.Fmt.{decimal}
use Rattle.std.specs.List.{enumerate_from}
use Rattle.trace_model.specs.Listing.{Line}
use Rattle.text_model.specs.Text.{hex_text, line_feed, space}
use Rattle.text_model.specs.Log.{LogLine}
use Rattle.text_model.specs.Printing.{printed_log_line}

-- a record's line: its CPU, its number, its moment and its payload
abbrev pub printed_line : Line → List ℕ
printed_line line =
    decimal line.cpu ++ space ∷ decimal line.number ++ space ∷ decimal line.moment
    ++ space ∷ hex_text line.bytes ++ line_feed ∷ []

-- a run of missing numbers of a CPU: the first and the last
abbrev pub printed_missing : ℕ → ℕ × ℕ → List ℕ
printed_missing cpu run =
    codes "missing " ++ decimal cpu ++ space ∷ decimal run.0 ++ codes "-" ++ decimal run.1 ++ line_feed ∷ []

-- the missing runs of each CPU, by rising CPU
abbrev pub printed_runs : List (List (ℕ × ℕ)) → List ℕ
printed_runs runs = flat_map (λ of_cpu. flat_map (printed_missing of_cpu.0) of_cpu.1) (enumerate_from 0 runs)

-- What is printed of a collector: its lines, and the missing runs of each CPU.
pub record Shown : Type 0 where
  pub lines : List Line
  pub runs : List (List (ℕ × ℕ))

-- a collector of this number
abbrev pub printed_collector : ℕ → Shown → List ℕ
printed_collector collector shown =
    codes "collector " ++ decimal collector ++ line_feed ∷ flat_map printed_line shown.lines ++ printed_runs shown.runs

-- collectors, numbered from 0
abbrev pub printed_collectors : List Shown → List ℕ
printed_collectors collectors = flat_map (λ pair. printed_collector pair.0 pair.1) (enumerate_from 0 collectors)

-- what a replay prints: its log, if it is asked for, and then its collectors
abbrev pub printed_world : Bool → List LogLine → List Shown → List ℕ
printed_world asked log collectors =
    (if asked then flat_map printed_log_line log else []) ++ printed_collectors collectors
