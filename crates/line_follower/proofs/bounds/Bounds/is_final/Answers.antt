use Rattle.std.proofs.Common.{arith}
use Rattle.line_follower.proofs.Fronts.{front_from_final}
use Rattle.line_follower.proofs.bounds.Bounds.is_final.Goals as goal

pub returns-clause-is_not : goal.returns-clause-is_not
returns-clause-is_not c =
    rw (← c.self.view_is)
    (λ final. c.has.ensures.beyond (front_from_final c.self.inside.cpus.items c.self.inside.front c.args.place
    (omega arith) (omega arith) c.self.invariant final))
