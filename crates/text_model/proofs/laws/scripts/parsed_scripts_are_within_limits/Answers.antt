use Rattle.text_model.proofs.ParsedLimits.{ParsesScript-within}
use Rattle.text_model.proofs.laws.scripts.parsed_scripts_are_within_limits.Goals as goal

pub returns : goal.returns
returns c = ParsesScript-within
