-- What a run prints: its collectors, each with its audit. docs/formats/program.md, "Printed text".
use Rattle.std.specs.Prelude.{ℕ, List, [], ◌∷◌, ◌++◌, flat_map, codes}
use Rattle.std.specs.Fmt.{decimal}
use Rattle.std.specs.List.{enumerate_from}
use Rattle.trace_model.specs.Parcel.{Parcel}
use Rattle.text_model.specs.Text.{line_feed, space}
use Rattle.world_model.specs.Printing.{Shown, printed_collector}
use Rattle.collector_text.specs.Prints.{IsPrintOf}
use Rattle.run_command.specs.text.Verdicts.{Verdict, IsVerdict, yes, stray, lacks}

-- a CPU and a fill of its ring
abbrev pub key_text : (cpu fill : ℕ) → List ℕ
key_text cpu fill = decimal cpu ++ space ∷ decimal fill

-- a verdict
abbrev pub verdict_text : Verdict → List ℕ
verdict_text yes = codes "yes"
verdict_text (stray cpu fill) = codes "stray " ++ key_text cpu fill
verdict_text (lacks cpu fill) = codes "lacks " ++ key_text cpu fill

-- the line of an audit
abbrev pub printed_audit : Verdict → List ℕ
printed_audit verdict = codes "audit " ++ verdict_text verdict ++ line_feed ∷ []

-- What is printed of a collector of a run: its lines and missing runs, and the verdict of its audit.
pub record AuditedShown : Type 0 where
  pub collector : Shown
  pub verdict : Verdict

-- It states exactly what the collector has and misses, and how its audit against these taken parcels ends.
pub record IsAuditedPrintOf (taken kept : List Parcel) (shown : AuditedShown) : Type 0 where
  pub reports : IsPrintOf kept shown.collector
  pub verdict : IsVerdict kept taken shown.verdict

-- a collector of this number, and its audit
abbrev pub printed_audited : ℕ → AuditedShown → List ℕ
printed_audited number shown = printed_collector number shown.collector ++ printed_audit shown.verdict

-- what a run prints: its collectors, numbered from 0
abbrev pub printed_run : List AuditedShown → List ℕ
printed_run collectors = flat_map (λ pair. printed_audited pair.0 pair.1) (enumerate_from 0 collectors)
