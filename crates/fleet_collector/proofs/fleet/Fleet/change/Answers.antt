use Rattle.std.proofs.Common.{◌≡◌, ◌∙◌, ℕ, is_some, sym, ap, subst}
use Rattle.std.specs.BTreeMap.{BTreeMap}
use Rattle.std.proofs.lemmas.Result.{on_err_weaker}
use Rattle.stream_collector.specs.declared.stream.StreamCollector.{StreamCollector}
use Rattle.fleet_collector.specs.Fleet.{AllHaveKnownCpus}
use Rattle.fleet_collector.proofs.Changed.{cpus_put, same_put, cpus_of_none, cpus_inserted}
use Rattle.fleet_collector.proofs.fleet.Fleet.change.Goals as goal

-- ---- the stream is there

pub invariant_of-self : goal.invariant_of-self
invariant_of-self c =
    let old = c.self.inside.streams in
    let after = c.apply.new.known in
    let new = c.get_mut.follows.lender after in
    let updates = (c.get_mut.follows.holds after).3 (ap is_some (sym c.in-Some.ensures.value)) in
    cpus_put old.entries new.entries c.args.stream.0 after updates.0 c.self.invariant
    (c.apply.ensures.cpus (c.self.invariant c.args.stream.0 c.in-Some.known.now (sym c.in-Some.ensures.value)))

pub returns-in-Some-clause-unchanged : goal.returns-in-Some-clause-unchanged
returns-in-Some-clause-unchanged c e =
    let after = c.apply.new.known in
    same_put c.self.inside.streams.entries (c.get_mut.follows.lender after).entries c.args.stream.0
    c.in-Some.known.now after
    (sym c.in-Some.ensures.value) (c.get_mut.follows.holds after).0 (c.apply.ensures.unchanged e) ∙ c.self.view_is

pub returns-in-Some-clause-refused : goal.returns-in-Some-clause-refused
returns-in-Some-clause-refused c =
    let after = c.apply.new.known in
    on_err_weaker c.apply.result
    (λ (e : after ≡ c.in-Some.known.now). same_put c.self.inside.streams.entries
    (c.get_mut.follows.lender after).entries c.args.stream.0 c.in-Some.known.now after
    (sym c.in-Some.ensures.value) (c.get_mut.follows.holds after).0 e ∙ c.self.view_is)
    c.apply.ensures.refused

-- ---- it isn't there

pub invariant_of-self-in-Break-1 : goal.invariant_of-self-in-Break-1
invariant_of-self-in-Break-1 c = subst (λ (m : BTreeMap ℕ StreamCollector). AllHaveKnownCpus m.entries)
    (sym c.get_mut.follows.holds-at-none) c.self.invariant

pub invariant_of-self-else-eq : goal.invariant_of-self-else-eq
invariant_of-self-else-eq c = subst (λ (m : BTreeMap ℕ StreamCollector). AllHaveKnownCpus m.entries)
    (sym c.get_mut.follows.holds-at-none) c.self.invariant

pub invariant_of-self-then-eq : goal.invariant_of-self-then-eq
invariant_of-self-then-eq c =
    let old = c.get_mut.follows.lender-at-none in
    let after = c.apply-2.new.known in
    let known : AllHaveKnownCpus old.entries = subst (λ (m : BTreeMap ℕ StreamCollector). AllHaveKnownCpus m.entries)
    (sym c.get_mut.follows.holds-at-none) c.self.invariant in
    cpus_inserted c.insert.result old.entries c.insert.new.self.entries c.args.stream.0 after
    c.insert.ensures.updates (λ u. u.0) c.insert.ensures.err (λ e. e) known
    (c.apply-2.ensures.cpus (cpus_of_none c.new-first.result c.new-first.ensures.parcels
    c.new-first.ensures.marks c.new-first.ensures.given_up))
