use Rattle.std.proofs.Common.{◌≡◌, ◌∙◌, ℕ, ◌<◌, List, [], ◌∷◌, ◌++◌, Ok, IfOk, IfErr, is_some, rules, sym, ap, subst}
use Rattle.std.specs.BTreeMap.{BTreeMap}
use Rattle.std.proofs.lemmas.Result.{on_err_weaker}
use Rattle.trace_model.specs.declared.limits.TheConstants.{MAX_CPUS}
use Rattle.page_numbers.specs.Parcels.{as_parcel}
use Rattle.stream_collector.specs.Stream.{Stream}
use Rattle.stream_collector.specs.Faults.{IsWithinEnd, IsNotAdded}
use Rattle.stream_collector.specs.declared.stream.StreamCollector.{StreamCollector}
use Rattle.stream_collector.specs.declared.added.Added.{Added}
use Rattle.stream_collector.specs.declared.added.Added.TheVariants.{New, Forgotten}
use Rattle.trace_model.specs.Collection.{Agree}
use Rattle.fleet_collector.specs.Fleet.{stream_at, or_empty, AllHaveKnownCpus}
use Rattle.fleet_collector.proofs.Changed.{cpus_put, same_put, cpus_added, cpus_of_none, cpus_inserted, was_nothing}
use Rattle.fleet_collector.proofs.fleet.Fleet.add.Goals as goal

-- ---- the stream is there

pub invariant_of-self : goal.invariant_of-self
invariant_of-self c =
    let old = c.self.inside.streams in
    let after = c.add.new.self in
    let new = c.get_mut.follows.lender after in
    let updates = (c.get_mut.follows.holds after).3 (ap is_some (sym c.in-Some.ensures.value)) in
    let a = c.add.ensures in
    cpus_put old.entries new.entries c.args.stream.0 after updates.0 c.self.invariant
    (cpus_added c.in-Some.known.now after (as_parcel c.args.parcel)
    (subst (λ (n : ℕ). n < MAX_CPUS) c.cpu-cpu.ensures.cpu c.cpu-cpu.ensures.known)
    (c.self.invariant c.args.stream.0 c.in-Some.known.now (sym c.in-Some.ensures.value)) c.add.result a.new a.known
    a.forgotten_nothing a.refused)

pub returns-in-Some-clause-known : goal.returns-in-Some-clause-known
returns-in-Some-clause-known c e =
    let after = c.add.new.self in
    same_put c.self.inside.streams.entries (c.get_mut.follows.lender after).entries c.args.stream.0
    c.in-Some.known.now after
    (sym c.in-Some.ensures.value) (c.get_mut.follows.holds after).0 (c.add.ensures.known e) ∙ c.self.view_is

pub returns-in-Some-clause-forgotten_nothing : goal.returns-in-Some-clause-forgotten_nothing
returns-in-Some-clause-forgotten_nothing c e =
    let after = c.add.new.self in
    same_put c.self.inside.streams.entries (c.get_mut.follows.lender after).entries c.args.stream.0
    c.in-Some.known.now after
    (sym c.in-Some.ensures.value) (c.get_mut.follows.holds after).0 (c.add.ensures.forgotten_nothing e) ∙ c.self.view_is

pub returns-in-Some-clause-refused : goal.returns-in-Some-clause-refused
returns-in-Some-clause-refused c =
    let after = c.add.new.self in
    on_err_weaker c.add.result
    (λ (e : after ≡ c.in-Some.known.now). same_put c.self.inside.streams.entries
    (c.get_mut.follows.lender after).entries c.args.stream.0 c.in-Some.known.now after
    (sym c.in-Some.ensures.value) (c.get_mut.follows.holds after).0 e ∙ c.self.view_is)
    c.add.ensures.refused

pub returns-in-Some-clause-within : goal.returns-in-Some-clause-within
returns-in-Some-clause-within c =
    let is : stream_at c.self.inside.streams.entries c.args.stream.0 ≡ c.in-Some.known.now = ap or_empty
    (sym c.in-Some.ensures.value) in
    let was : stream_at c.args.self.now c.args.stream.0 ≡ c.in-Some.known.now = ap
    (λ (fleet : List (ℕ × Stream)). stream_at fleet c.args.stream.0) (sym c.self.view_is) ∙ is in
    subst (λ (s : Stream). IfOk c.add.result (λ added. (added ≡ Forgotten → ⊥) → IsWithinEnd s
    (as_parcel c.args.parcel))) (sym was) c.add.ensures.within

pub returns-in-Some-clause-fault : goal.returns-in-Some-clause-fault
returns-in-Some-clause-fault c =
    let is : stream_at c.self.inside.streams.entries c.args.stream.0 ≡ c.in-Some.known.now = ap or_empty
    (sym c.in-Some.ensures.value) in
    let was : stream_at c.args.self.now c.args.stream.0 ≡ c.in-Some.known.now = ap
    (λ (fleet : List (ℕ × Stream)). stream_at fleet c.args.stream.0) (sym c.self.view_is) ∙ is in
    subst (λ (s : Stream). IfErr c.add.result (λ fault. IsNotAdded s (as_parcel c.args.parcel) fault)) (sym was)
    c.add.ensures.fault

-- ---- it isn't there

pub invariant_of-self-in-Break-1 : goal.invariant_of-self-in-Break-1
invariant_of-self-in-Break-1 c = subst (λ (m : BTreeMap ℕ StreamCollector). AllHaveKnownCpus m.entries)
    (sym c.get_mut.follows.holds-at-none) c.self.invariant

pub invariant_of-self-else-eq : goal.invariant_of-self-else-eq
invariant_of-self-else-eq c = subst (λ (m : BTreeMap ℕ StreamCollector). AllHaveKnownCpus m.entries)
    (sym c.get_mut.follows.holds-at-none) c.self.invariant

pub returns-in_err-added-clause-fault : goal.returns-in_err-added-clause-fault
returns-in_err-added-clause-fault c =
    let first = c.new-first.ensures in
    let was : stream_at c.args.self.now c.args.stream.0 ≡ c.new-first.result =
    ap (λ (fleet : List (ℕ × Stream)). stream_at fleet c.args.stream.0) (sym c.self.view_is)
    ∙ was_nothing c.self.inside.streams.entries c.args.stream.0 c.new-first.result (sym c.in_default.ensures.value)
    first.parcels first.marks first.given_up in
    let fault : IsNotAdded (stream_at c.args.self.now c.args.stream.0) (as_parcel c.args.parcel)
    c.in_err-added.field-0.0 =
    subst (λ (s : Stream). IsNotAdded s (as_parcel c.args.parcel) c.in_err-added.field-0.0) (sym was)
    c.in_err-added.ensures.fault in
    search rules

pub invariant_of-self-then-eq : goal.invariant_of-self-then-eq
invariant_of-self-then-eq c =
    let old = c.get_mut.follows.lender-at-none in
    let known : AllHaveKnownCpus old.entries = subst (λ (m : BTreeMap ℕ StreamCollector). AllHaveKnownCpus m.entries)
    (sym c.get_mut.follows.holds-at-none) c.self.invariant in
    let after = c.add-2.new.self in
    let a = c.add-2.ensures in
    let few = cpus_added c.new-first.result after (as_parcel c.args.parcel)
    (subst (λ (n : ℕ). n < MAX_CPUS) c.cpu-cpu.ensures.cpu c.cpu-cpu.ensures.known)
    (cpus_of_none c.new-first.result c.new-first.ensures.parcels
    c.new-first.ensures.marks c.new-first.ensures.given_up) c.add-2.result a.new a.known a.forgotten_nothing
    a.refused in
    cpus_inserted c.insert.result old.entries c.insert.new.self.entries c.args.stream.0 after
    c.insert.ensures.updates (λ u. u.0) c.insert.ensures.err (λ e. e) known few

pub returns-then-is_err-clause-fault : goal.returns-then-is_err-clause-fault
returns-then-is_err-clause-fault c =
    let first = c.new-first.ensures in
    let was : stream_at c.args.self.now c.args.stream.0 ≡ c.new-first.result =
    ap (λ (fleet : List (ℕ × Stream)). stream_at fleet c.args.stream.0) (sym c.self.view_is)
    ∙ was_nothing c.self.inside.streams.entries c.args.stream.0 c.new-first.result (sym c.in_default.ensures.value)
    first.parcels first.marks first.given_up in
    let is : c.in_ok-added.added ≡ New = search rules in
    let fresh : c.add-2.result ≡ Ok New = c.in_ok-added.was ∙ ap (λ (a : Added). Ok a) is in
    let within : IsWithinEnd c.new-first.result (as_parcel c.args.parcel) = c.in_ok-added.ensures.within
    (λ forgotten. cc) in
    let agree : Agree (c.new-first.result.parcels ++ as_parcel c.args.parcel ∷ []) =
    subst (λ (s : Stream). Agree s.parcels) (c.add-2.ensures.new fresh) (c.add-2.ensures.agree fresh) in
    subst (λ (s : Stream). IsWithinEnd s (as_parcel c.args.parcel) × Agree
    (s.parcels ++ as_parcel c.args.parcel ∷ [])) (sym was) (within, agree)

pub returns-clause-within : goal.returns-clause-within
returns-clause-within c =
    let first = c.new-first.ensures in
    let was : stream_at c.args.self.now c.args.stream.0 ≡ c.new-first.result =
    ap (λ (fleet : List (ℕ × Stream)). stream_at fleet c.args.stream.0) (sym c.self.view_is)
    ∙ was_nothing c.self.inside.streams.entries c.args.stream.0 c.new-first.result (sym c.in_default.ensures.value)
    first.parcels first.marks first.given_up in
    subst (λ (s : Stream). (c.in_ok-added.added ≡ Forgotten → ⊥) → IsWithinEnd s (as_parcel c.args.parcel)) (sym was)
    c.in_ok-added.ensures.within
