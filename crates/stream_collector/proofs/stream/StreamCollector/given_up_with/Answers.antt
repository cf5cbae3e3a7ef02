use Rattle.stream_collector.proofs.Merging.{no_record_either}
use Rattle.stream_collector.proofs.stream.StreamCollector.given_up_with.Goals as goal

pub returns-in-Ok-clause-none : goal.returns-in-Ok-clause-none
returns-in-Ok-clause-none c = no_record_either c.self.inside.given_up c.other.inside.given_up c.in-Ok.given_up
    c.self.invariant.no_record c.other.invariant.no_record c.in-Ok.ensures.same
