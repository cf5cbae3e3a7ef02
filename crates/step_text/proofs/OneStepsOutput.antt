-- A text has one output: what `steps` gives for it are the same bytes, with the same exit status.
use Rattle.std.proofs.Common.{◌≡◌, ℕ, List, Ok, refl, sym, ◌∙◌}
use Rattle.std.specs.Prelude.{Result, Err}
use Rattle.text_model.specs.ScriptLines.{LineFault}
use Rattle.text_model.specs.Script.{Script}
use Rattle.text_model.specs.ScriptReading.{script_in}
use Rattle.step_model.proofs.OneStepText.{texts_are_one}
use Rattle.text_model.proofs.ReadLimits.{script_in-within}
use Rattle.step_text.specs.Steps.{StepsOfReading, StepsGives}

one_of_reading : (text bytes others : List ℕ) (status other : ℕ) (r : Result Script (ℕ × LineFault))
    → script_in text ≡ r
    → StepsOfReading r bytes status
    → StepsOfReading r others other
    → (bytes ≡ others) × (status ≡ other)
one_of_reading text bytes others status other (Ok script) is a b = (
  texts_are_one script a.0.world b.0.world bytes others (script_in-within text script is) a.0.is_text b.0.is_text,
  a.1 ∙ sym b.1,
)
one_of_reading text bytes others status other (Err (number, fault)) is a b = (a.0 ∙ sym b.0, a.1 ∙ sym b.1)

pub one_steps_output : (text bytes others : List ℕ) (status other : ℕ)
    → StepsGives text bytes status
    → StepsGives text others other
    → (bytes ≡ others) × (status ≡ other)
one_steps_output text bytes others status other a b =
    one_of_reading text bytes others status other (script_in text) refl a b
