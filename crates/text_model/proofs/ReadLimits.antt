-- A script that a text spells is within its limits.
use Rattle.std.proofs.Common.{◌≡◌, ℕ, List, Ok}
use Rattle.text_model.specs.Script.{Script}
use Rattle.text_model.specs.ScriptLimits.{IsWithinLimits}
use Rattle.text_model.specs.ScriptReading.{script_in}
use Rattle.text_model.proofs.ParsedLimits.{ParsesScript-within}
use Rattle.text_model.proofs.ScriptReads.{script_reads}

pub script_in-within : (text : List ℕ) (script : Script) → script_in text ≡ Ok script → IsWithinLimits script
script_in-within text script h = ParsesScript-within text script ((script_reads text script).1 h)
