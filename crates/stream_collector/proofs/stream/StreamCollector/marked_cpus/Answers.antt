use Rattle.std.proofs.Common.{subst}
use Rattle.stream_collector.specs.Marks.{AreMarkedCpus}
use Rattle.stream_collector.specs.Stream.{Stream}
use Rattle.stream_collector.proofs.CpusMarked.{marked_of}
use Rattle.stream_collector.proofs.stream.StreamCollector.marked_cpus.Goals as goal

pub returns : goal.returns
returns c = subst (λ (s : Stream). AreMarkedCpus s.marks c.cpus.result) c.self.view_is
    (marked_of c.self.inside.marks.cpus.entries c.cpus.result c.self.invariant.says c.cpus.ensures.rising
    c.cpus.ensures.there)
