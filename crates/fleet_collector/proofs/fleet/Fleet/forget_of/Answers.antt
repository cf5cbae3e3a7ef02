use Rattle.std.proofs.Common.{◌≡◌, ◌∙◌, is_some, sym, ap}
use Rattle.std.proofs.lemmas.Result.{on_err_weaker}
use Rattle.fleet_collector.proofs.Changed.{cpus_put, same_put}
use Rattle.fleet_collector.proofs.Forgotten.{cpus_forgotten}
use Rattle.fleet_collector.proofs.fleet.Fleet.forget_of.Goals as goal

pub invariant_of-self : goal.invariant_of-self
invariant_of-self c =
    let old = c.self.inside.streams in
    let after = c.forget_before.new.self in
    let new = c.get_mut.follows.lender after in
    let updates = (c.get_mut.follows.holds after).3 (ap is_some (sym c.in-Some.ensures.value)) in
    cpus_put old.entries new.entries c.args.id after updates.0 c.self.invariant
    (cpus_forgotten c.forget_before.result c.in-Some.known.now after c.args.moment.0 c.forget_before.ensures.forgotten
    c.forget_before.ensures.refused
    (c.self.invariant c.args.id c.in-Some.known.now (sym c.in-Some.ensures.value)))

pub returns-in-Some-clause-refused : goal.returns-in-Some-clause-refused
returns-in-Some-clause-refused c =
    let after = c.forget_before.new.self in
    on_err_weaker c.forget_before.result
    (λ (e : after ≡ c.in-Some.known.now). same_put c.self.inside.streams.entries
    (c.get_mut.follows.lender after).entries c.args.id c.in-Some.known.now after
    (sym c.in-Some.ensures.value) (c.get_mut.follows.holds after).0 e ∙ c.self.view_is)
    c.forget_before.ensures.refused
