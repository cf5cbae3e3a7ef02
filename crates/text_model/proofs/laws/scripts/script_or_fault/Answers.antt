use Rattle.std.proofs.Common.{◌≡◌, ◌⊎◌, ℕ, inl, inr, Result, Ok, Err, refl, sym, ◌∙◌, List}
use Rattle.text_model.specs.ScriptLines.{LineFault}
use Rattle.text_model.specs.Script.{Script, ParsesScript, FirstScriptFault}
use Rattle.text_model.proofs.Readings.{ok_is_no_err}
use Rattle.text_model.specs.ScriptReading.{script_in}
use Rattle.text_model.proofs.ScriptReads.{script_reads, fault_reads}
use Rattle.text_model.proofs.laws.scripts.script_or_fault.Goals as goal

at : (text : List ℕ) (r : Result Script (ℕ × LineFault)) → script_in text ≡ r
    → ((script : Script) × ParsesScript text script) ⊎
    ((number : ℕ) × (fault : LineFault) × FirstScriptFault text number fault)
at text (Ok script) h = inl (script, (script_reads text script).1 h)
at text (Err e) h = inr (e.0, e.1, (fault_reads text e.0 e.1).1 h)

pub returns-clause-some : goal.returns-clause-some
returns-clause-some c text = at text (script_in text) refl

pub returns-clause-not_both : goal.returns-clause-not_both
returns-clause-not_both c text script number fault parses fails =
    ok_is_no_err script (number, fault)
    (sym ((script_reads text script).0 parses) ∙ (fault_reads text number fault).0 fails)
