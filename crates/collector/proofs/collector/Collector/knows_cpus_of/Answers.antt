use Rattle.std.proofs.Common.{refl, sym, ◌∙◌, subst}
use Rattle.std.proofs.lemmas.Bool.{false≢true}
use Rattle.collector.specs.Known.{IsCpuKnown}
use Rattle.collector.proofs.CpuWalks.{Leaves, all_left, next_there, next_done, all_done}
use Rattle.collector.proofs.collector.Collector.knows_cpus_of.Goals as goal

pub loop-cpu-init : goal.loop-cpu-init
loop-cpu-init c =
    subst (Leaves (IsCpuKnown c.args.other.now) (IsCpuKnown c.args.self.now))
    (sym c.into_iter-cpu-iterator.ensures.into_iter_gives)
    (all_left (IsCpuKnown c.args.self.now) c.args.other.now c.cpus-cpu-items.result c.cpus-cpu-items.ensures)

pub loop-cpu-preserved : goal.loop-cpu-preserved
loop-cpu-preserved c =
    next_done (IsCpuKnown c.args.other.now) (IsCpuKnown c.args.self.now) c.loop-cpu.cpu-iterator c.next.new.self
    c.in-Some.cpu.0 c.in-Some.ensures.steps (c.knows.ensures.0 c.if-not-knows.false) c.loop-cpu.invariant

pub returns-then-not-knows : goal.returns-then-not-knows
returns-then-not-knows c = (
  λ e. absurd (false≢true e),
  λ all.
      let there = next_there (IsCpuKnown c.args.other.now) (IsCpuKnown c.args.self.now) c.loop-cpu.cpu-iterator
      c.next.new.self c.in-Some.cpu.0 c.in-Some.ensures.steps c.loop-cpu.invariant in
      absurd (false≢true (sym c.if-not-knows.true ∙ c.knows.ensures.1 (all c.in-Some.cpu.0 there))),
)

pub returns : goal.returns
returns c = (
  λ e. all_done (IsCpuKnown c.args.other.now) (IsCpuKnown c.args.self.now) c.loop-cpu.cpu-iterator
      c.in-None.ensures.steps.0 c.loop-cpu.invariant,
  λ all. refl,
)
