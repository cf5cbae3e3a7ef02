use Rattle.std.proofs.Common.{◌≡◌, ◌-◌, map}
use Rattle.trace_dat.specs.Parts.{seen}
use Rattle.trace_dat.specs.Fields.{all_at, with_front}
use Rattle.trace_dat.specs.Contents.{recorded_seen}
use Rattle.trace_dat.specs.Buffers.{pages_at}
use Rattle.trace_dat.proofs.buffers.pages_in_order.Given as goal

abbrev pub invariant-loop-cpu : goal.invariant-loop-cpu
invariant-loop-cpu l =
    with_front (map recorded_seen l.cpus.items) (all_at (pages_at l.file) l.cpu (l.count - l.cpu) (seen l.rest))
    ≡ all_at (pages_at l.file) 0 l.count (seen l.part)
