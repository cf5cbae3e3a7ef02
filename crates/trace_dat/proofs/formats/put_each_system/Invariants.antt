use Rattle.std.proofs.Common.{◌≡◌, ◌-◌, map}
use Rattle.trace_dat.specs.Parts.{seen}
use Rattle.trace_dat.specs.Fields.{all_at, with_front}
use Rattle.trace_dat.specs.Contents.{format_seen}
use Rattle.trace_dat.specs.Formats.{system_at}
use Rattle.trace_dat.proofs.formats.put_each_system.Given as goal

abbrev pub invariant-loop : goal.invariant-loop
invariant-loop l =
    with_front (map format_seen l.formats.items) (all_at (λ _. system_at) l.counter (l.count - l.counter) (seen l.rest))
    ≡ with_front (map format_seen l.fn.formats.items) (all_at (λ _. system_at) 0 l.count (seen l.part))
