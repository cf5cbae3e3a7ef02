use Rattle.std.proofs.Common.{◌≡◌, false, All}
use Rattle.command_io.specs.Ends.{has_failed}
use Rattle.host_commands.proofs.regions.open_regions.Given as goal

abbrev pub invariant-loop-file : goal.invariant-loop-file
invariant-loop-file l = All (λ reader. has_failed reader ≡ false) l.readers.items
