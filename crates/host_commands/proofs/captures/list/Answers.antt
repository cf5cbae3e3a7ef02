use Rattle.std.proofs.Common.{◌<◌}
use Rattle.trace_model.specs.declared.limits.TheConstants.{MAX_CPUS}
use Rattle.host_commands.proofs.SameCpus.{All-same}
use Rattle.host_commands.proofs.captures.list.Goals as goal

pub collect_to-collected-requires-clause-cpus : goal.collect_to-collected-requires-clause-cpus
collect_to-collected-requires-clause-cpus c =
    rw c.as_mut_slice.ensures.value
    (All-same (λ input. input.cpu) (λ file. file.cpu) _ _ c.requires.cpus (λ cpu. cpu.0 < MAX_CPUS)
    c.requires.range.cpus)
