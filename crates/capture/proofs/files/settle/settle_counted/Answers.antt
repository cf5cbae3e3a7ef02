use Rattle.std.proofs.Common.{ℕ, Option, map, subst}
use Rattle.capture.specs.files.Files.{parts_of_cpu}
use Rattle.capture.specs.files.Captures.{IsCpuSettled}
use Rattle.capture.specs.files.Giving.{part_seen}
use Rattle.capture.proofs.Settled.{captured-counted}
use Rattle.capture.proofs.files.settle.settle_counted.Goals as goal

pub returns-clause-settled : goal.returns-clause-settled
returns-clause-settled c = λ cpu own.
    captured-counted cpu c.args.counters _ _
    (subst (λ (o : Option ℕ).
    IsCpuSettled cpu o (parts_of_cpu cpu (map part_seen c.args.parts.now)) c.settle_cpu.new.found)
    c.overrun_by.ensures (c.in_ok-settle_cpu.ensures.settled cpu own))
