use Rattle.std.proofs.Common.{subst}
use Rattle.collector.specs.Sound.{AreSound}
use Rattle.stream_collector.specs.Stream.{Stream}
use Rattle.stream_collector.proofs.stream.StreamCollector.parcels.Goals as goal

pub returns-clause-sound : goal.returns-clause-sound
returns-clause-sound c = subst (λ (s : Stream). AreSound s.parcels) c.self.view_is c.parcels.ensures.sound
