use Rattle.line_follower.specs.Inside.{IsNotAfter, IsOfOne}
use Rattle.line_follower.proofs.bounds.front_of.Given as goal

abbrev pub invariant-loop-cpu : goal.invariant-loop-cpu
invariant-loop-cpu l = record {
  least : IsNotAfter l.cpus l.cpu l.front;
  of_one : IsOfOne l.cpus l.front;
}
