use Rattle.std.proofs.Common.{map, take}
use Rattle.fleet_text.specs.Hidden.{IsNoted}
use Rattle.fleet_text.specs.Runs.{run_seen}
use Rattle.fleet_text.proofs.hidden.noted_of.Given as goal

abbrev pub invariant-loop-run : goal.invariant-loop-run
invariant-loop-run l = IsNoted (map run_seen (take l.run-index l.runs)) l.fleet l.noted
