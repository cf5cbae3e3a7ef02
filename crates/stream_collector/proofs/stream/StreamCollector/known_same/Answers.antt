use Rattle.std.proofs.Common.{refl, sym, ◌∙◌, subst}
use Rattle.std.proofs.lemmas.Bool.{false≢true}
use Rattle.collector.proofs.CpuWalks.{Leaves, next_there, next_done, all_done, all_left}
use Rattle.collector.specs.Known.{IsCpuKnown}
use Rattle.stream_collector.specs.Same.{IsKnownSame}
use Rattle.stream_collector.proofs.stream.StreamCollector.known_same.Goals as goal

pub loop-cpu-init : goal.loop-cpu-init
loop-cpu-init c = subst (Leaves (IsCpuKnown c.args.self.now.parcels) (IsKnownSame c.args.self.now c.args.other.now))
    (sym c.into_iter-cpu-iterator.ensures.into_iter_gives)
    (all_left (IsKnownSame c.args.self.now c.args.other.now) c.args.self.now.parcels c.known_cpus-cpu-items.result
    c.known_cpus-cpu-items.ensures)

pub loop-cpu-preserved : goal.loop-cpu-preserved
loop-cpu-preserved c = next_done (IsCpuKnown c.args.self.now.parcels) (IsKnownSame c.args.self.now c.args.other.now)
    c.loop-cpu.cpu-iterator c.next.new.self c.in-Some.cpu.0 c.in-Some.ensures.steps
    (c.known_same_on.ensures.0 c.if-not-known_same_on.false) c.loop-cpu.invariant

pub returns-then-not-known_same_on : goal.returns-then-not-known_same_on
returns-then-not-known_same_on c = (
  λ e. absurd (false≢true e),
  λ all.
      let there = next_there (IsCpuKnown c.args.self.now.parcels) (IsKnownSame c.args.self.now c.args.other.now)
      c.loop-cpu.cpu-iterator c.next.new.self c.in-Some.cpu.0 c.in-Some.ensures.steps c.loop-cpu.invariant in
      absurd (false≢true (sym c.if-not-known_same_on.true ∙ c.known_same_on.ensures.1 (all c.in-Some.cpu.0 there))),
)

pub returns : goal.returns
returns c = (
  λ e. all_done (IsCpuKnown c.args.self.now.parcels) (IsKnownSame c.args.self.now c.args.other.now)
      c.loop-cpu.cpu-iterator c.in-None.ensures.steps.0 c.loop-cpu.invariant,
  λ all. refl,
)
