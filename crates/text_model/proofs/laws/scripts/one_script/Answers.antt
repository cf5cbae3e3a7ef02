use Rattle.std.proofs.Common.{sym, ap, ◌∙◌, ℕ}
use Rattle.text_model.specs.ScriptLines.{LineFault}
use Rattle.text_model.proofs.Readings.{same_ok, same_err}
use Rattle.text_model.proofs.ScriptReads.{script_reads, fault_reads}
use Rattle.text_model.proofs.laws.scripts.one_script.Goals as goal

pub returns-clause-script : goal.returns-clause-script
returns-clause-script c text one other h k =
    same_ok one other (sym ((script_reads text one).0 h) ∙ (script_reads text other).0 k)

pub returns-clause-fault : goal.returns-clause-fault
returns-clause-fault c text one other fault another h k =
    let same =
    same_err (one, fault) (other, another)
    (sym ((fault_reads text one fault).0 h) ∙ (fault_reads text other another).0 k) in
    (ap (λ (e : ℕ × LineFault). e.0) same, ap (λ (e : ℕ × LineFault). e.1) same)
