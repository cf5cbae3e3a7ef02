use Rattle.collector.proofs.Known.{known_stays, record_stays, missing_stays}
use Rattle.collector.proofs.laws.what_is_known_stays.Goals as goal

pub returns : goal.returns
returns c = record { known = known_stays; records = record_stays; missing = missing_stays }
