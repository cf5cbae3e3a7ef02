use Rattle.line_follower.proofs.Steps.{gives_first}
use Rattle.line_follower.proofs.follower.Follower.next_waiting.Goals as goal

pub returns-clause-given : goal.returns-clause-given
returns-clause-given g c =
    rw (← c.self.view_is)
    (gives_first c.self.inside.bounds _ _ c.self.inside.last c.say.new.last c.in_ok-waiting.waiting c.say.result
    c.in_ok-waiting.ensures.permutation (c.in_ok-waiting.ensures.below_top c.self.invariant) c.say.ensures.said
    c.say.ensures.last)
