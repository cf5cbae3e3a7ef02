use Rattle.std.proofs.Common.{◌≡◌, ◌+◌, ◌≤◌, List, ◌++◌, length, vec_len}
use Rattle.std.specs.Vec.{vec_capacity}
use Rattle.line_follower.specs.declared.lines.Said.{Said}
use Rattle.line_follower.specs.Following.{Gives}
use Rattle.line_follower.specs.Runs.{GivesAll}
use Rattle.line_follower.proofs.follower.Follower.take_rest.Given as goal

abbrev pub invariant-loop-said : goal.invariant-loop-said
invariant-loop-said g l = record {
  room : vec_len l.given + length l.self.waiting ≤ vec_capacity l.given;
  said : List (Said g.row.T.Denot);
  items : l.given.items ≡ l.fn.given.items ++ said;
  gives : GivesAll Gives l.fn.self said l.self;
  count : length l.self.known.cpus ≡ length l.fn.self.known.cpus;
}

abbrev pub decreases-loop-said : goal.decreases-loop-said
decreases-loop-said g l = length l.self.waiting
