use Rattle.std.proofs.Common.{ℕ, ◌≤◌, inl, inr, sym, subst}
use Rattle.page_numbers.specs.Parcels.{as_parcel}
use Rattle.stream_collector.specs.Stream.{Stream}
use Rattle.stream_collector.specs.Faults.{IsBeyondEnd, IsWithinEnd}
use Rattle.stream_collector.specs.contracts.stream.StreamCollector.{the_view}
use Rattle.stream_collector.proofs.WithinEnds.{added_standing}
use Rattle.stream_collector.proofs.stream.StreamCollector.add.Goals as goal
use Rattle.stream_collector.proofs.stream.StreamCollector.add.Goals.{in-New, in-Known}

pub returns-in-Some-clause-fault : goal.returns-in-Some-clause-fault
returns-in-Some-clause-fault c =
    subst (λ (cpu : ℕ). IsBeyondEnd c.args.self.now (as_parcel c.args.parcel) cpu c.in-Some.number.0
    × ((least : ℕ) → IsBeyondEnd c.args.self.now (as_parcel c.args.parcel) cpu least → c.in-Some.number.0 ≤ least))
    (sym c.cpu-cpu.ensures.cpu) (c.in-Some.ensures.beyond, c.in-Some.ensures.least)

pub invariant_of-self-2 : goal.invariant_of-self-2
invariant_of-self-2 c =
    added_standing (the_view c.self.inside) (as_parcel c.args.parcel) c.add.new.self c.self.invariant
    (subst (λ (s : Stream). IsWithinEnd s (as_parcel c.args.parcel)) (sym c.self.view_is) c.in_default.ensures.none)
    (elim c.match-branch-2.branch [
      | in-New w ↦ inl (c.add.ensures.new (let was = c.in_ok-add.was in let is = w.in-New.is in cc))
      | in-Known w ↦ inr (c.add.ensures.known (let was = c.in_ok-add.was in let is = w.in-Known.is in cc))
    ])
