use Rattle.fleet_text.proofs.HiddenRuns.{listed_or_hidden}
use Rattle.fleet_text.proofs.laws.a_record_is_listed_or_hidden.Goals as goal

pub returns : goal.returns
returns c = listed_or_hidden
