-- An audit's answer is the verdict on its collector.
use Rattle.std.proofs.Common.{◌≡◌, ◌↔◌, List, Result, Ok, Err, IsOk, refl}
use Rattle.trace_model.specs.Parcel.{Parcel}
use Rattle.trace_model.specs.declared.numbers.CpuId.{CpuId}
use Rattle.trace_model.specs.declared.numbers.FillNo.{FillNo}
use Rattle.trace_run.specs.ledgers.Audit.{WereTaken, IsAudited, IsStray, IsLacking, IsLeast}
use Rattle.trace_run.specs.declared.ledgers.fault.Audited.{Audited}
use Rattle.trace_run.specs.declared.ledgers.fault.AuditFault.{AuditFault}
use Rattle.trace_run.specs.declared.ledgers.fault.AuditFault.TheVariants.{Stray, Lacks}
use Rattle.run_command.specs.text.Verdicts.{IsVerdict, verdict_of}

pub answered : (kept taken : List Parcel) (answer : Result Audited AuditFault) → IsOk answer ↔ IsAudited kept taken
    → ((cpu : CpuId) (fill : FillNo) → (answer ≡ Err (Stray cpu fill)) ↔ IsLeast (IsStray kept taken) cpu.0 fill.0)
    → ((cpu : CpuId) (fill : FillNo) → (answer ≡ Err (Lacks cpu fill))
    ↔ (WereTaken kept taken × IsLeast (IsLacking kept taken) cpu.0 fill.0))
    → IsVerdict kept taken (verdict_of answer)
answered kept taken (Ok done) audited is_stray is_lacking = audited.0 refl
answered kept taken (Err (Stray cpu fill)) audited is_stray is_lacking = (is_stray cpu fill).0 refl
answered kept taken (Err (Lacks cpu fill)) audited is_stray is_lacking = (is_lacking cpu fill).0 refl
