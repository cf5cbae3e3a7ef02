use Rattle.std.proofs.Common.{◌≡◌, ◌-◌, map}
use Rattle.trace_dat.specs.Parts.{seen}
use Rattle.trace_dat.specs.Fields.{all_at, with_front}
use Rattle.trace_dat.specs.Contents.{recorded_seen}
use Rattle.trace_dat.specs.Buffers.{numbered_pages_at}
use Rattle.trace_dat.proofs.buffers.numbered_pages.Given as goal

abbrev pub invariant-loop : goal.invariant-loop
invariant-loop l =
    with_front (map recorded_seen l.cpus.items)
    (all_at (λ _. numbered_pages_at l.file) l.counter (l.count - l.counter) (seen l.rest))
    ≡ all_at (λ _. numbered_pages_at l.file) 0 l.count (seen l.part)
