use Rattle.std.proofs.Common.{refl}
use Rattle.ring_core.proofs.ring.Core.write_rarely.Goals as goal

pub returns-clause-may : goal.returns-clause-may
returns-clause-may c = (c.write_at_once.ensures.may, c.write_at_once.ensures.any refl)
