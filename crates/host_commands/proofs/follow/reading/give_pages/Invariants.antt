use Rattle.std.proofs.Common.{◌≡◌, false}
use Rattle.host_commands.proofs.follow.reading.give_pages.Given as goal

abbrev pub invariant-loop : goal.invariant-loop
invariant-loop g l = g.S.Source.failed l.source ≡ false
