-- What an audit of a collector finds.
use Rattle.std.specs.Prelude.{ℕ, List, Result, Ok, Err}
use Rattle.trace_model.specs.Parcel.{Parcel}
use Rattle.trace_run.specs.ledgers.Audit.{WereTaken, IsAudited, IsStray, IsLacking, IsLeast}
use Rattle.trace_run.specs.declared.ledgers.fault.Audited.{Audited}
use Rattle.trace_run.specs.declared.ledgers.fault.AuditFault.{AuditFault}
use Rattle.trace_run.specs.declared.ledgers.fault.AuditFault.TheVariants.{Stray, Lacks}

-- The collector is the one of the run; or it keeps the parcel of this CPU and fill, which wasn't taken; or it lacks a
-- part of the parcel of this CPU and fill, which was.
pub data Verdict : Type 0 where
  yes : Verdict
  stray : (cpu fill : ℕ) → Verdict
  lacks : (cpu fill : ℕ) → Verdict

-- It is the verdict on the collector that keeps these parcels, after a run in which those were taken.
abbrev pub IsVerdict : (kept taken : List Parcel) → Verdict → Type 0
IsVerdict kept taken yes = IsAudited kept taken
IsVerdict kept taken (stray cpu fill) = IsLeast (IsStray kept taken) cpu fill
IsVerdict kept taken (lacks cpu fill) = WereTaken kept taken × IsLeast (IsLacking kept taken) cpu fill

-- the verdict that an audit answers
abbrev pub verdict_of : Result Audited AuditFault → Verdict
verdict_of (Ok audited) = yes
verdict_of (Err (Stray cpu fill)) = stray cpu.0 fill.0
verdict_of (Err (Lacks cpu fill)) = lacks cpu.0 fill.0
