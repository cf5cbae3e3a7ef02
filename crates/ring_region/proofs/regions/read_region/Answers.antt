use Rattle.ring_region.proofs.Told.{region_reported}
use Rattle.ring_region.proofs.regions.read_region.Goals as goal

pub returns-clause-read_back : goal.returns-clause-read_back
returns-clause-read_back c =
    λ held is. region_reported c.args.bytes.now c.read.result held c.read.ensures.region c.read.ensures.fault is
