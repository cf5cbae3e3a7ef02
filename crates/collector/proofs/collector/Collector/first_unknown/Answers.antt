use Rattle.collector.proofs.OfKind.{known_unless, last_unknown}
use Rattle.collector.proofs.collector.Collector.first_unknown.Goals as goal

pub returns-in-Some-clause-first : goal.returns-in-Some-clause-first
returns-in-Some-clause-first c n from below =
    known_unless c.args.self.now c.args.cpu.0 n (c.in-Some.ensures.first n from below)

pub returns-in-None-clause-unknown : goal.returns-in-None-clause-unknown
returns-in-None-clause-unknown c = last_unknown c.args.self.now c.args.cpu.0 c.parcels-parcels.ensures.sound

pub returns-in-None-clause-first : goal.returns-in-None-clause-first
returns-in-None-clause-first c n from below =
    known_unless c.args.self.now c.args.cpu.0 n (c.in-None.ensures.none n from below)
