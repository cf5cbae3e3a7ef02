use Rattle.std.proofs.Common.{◌≡◌, ◌<◌, List, ◌++◌, map, length, All}
use Rattle.line_follower.specs.declared.lines.Said.{Said}
use Rattle.line_follower.specs.Known.{Event}
use Rattle.line_follower.specs.Following.{nothing_read}
use Rattle.line_follower.specs.Runs.{IsRun, events_of, given_in}
use Rattle.line_follower.specs.Events.{cpu_of, event_seen}
use Rattle.line_follower.proofs.whole.follow.Given as goal

abbrev pub invariant-loop-event : goal.invariant-loop-event
invariant-loop-event g l = record {
  steps : List (Event g.row.T.Denot × List (Said g.row.T.Denot));
  run : IsRun (nothing_read l.count) steps l.follower;
  parted : events_of steps ++ map event_seen l.events.items ≡ map event_seen l.fn.events.items;
  items : l.given.items ≡ given_in steps;
  there : All (λ event. cpu_of event < l.count) l.events.items;
  cpus : length l.follower.known.cpus ≡ l.count;
}

abbrev pub decreases-loop-event : goal.decreases-loop-event
decreases-loop-event g l = length l.events.items
