use Rattle.ring_shared.proofs.DoneSeen as seen
use Rattle.ring_shared.proofs.ReturnedBefore.{what_returned_stands_before}
use Rattle.ring_shared.proofs.laws.what_returned_is_seen.Goals as goal

pub returns-clause-seen : goal.returns-clause-seen
returns-clause-seen c = seen.what_returned_is_seen

pub returns-clause-before : goal.returns-clause-before
returns-clause-before c = what_returned_stands_before
