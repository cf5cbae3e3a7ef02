use Rattle.collector_text.proofs.OneText.{same_are_reported, one_text, one_world_text}
use Rattle.collector_text.proofs.laws.texts_are_one.Goals as goal

pub returns : goal.returns
returns c = record { alike = same_are_reported; one = one_text; world = one_world_text }
