use Rattle.std.proofs.Common.{◌-◌, ◌^◌, ◌<◌, ℕ, sym, subst}
use Rattle.std.proofs.lemmas.Bool.{false≢true}
use Rattle.collector.specs.Known.{IsCpuKnown}
use Rattle.collector.specs.Beside.{IsSameAt}
use Rattle.collector.proofs.Merging.{when_true, when_false}
use Rattle.collector.proofs.SideBySide.{same_at}
use Rattle.collector.proofs.CpuWalks.{Leaves, all_left, next_done, all_done, all_same, same_known}
use Rattle.collector.proofs.collector.Collector.same.Goals as goal

pub loop-cpu-init : goal.loop-cpu-init
loop-cpu-init c =
    let ps = c.args.self.now in
    let qs = c.args.other.now in
    subst (Leaves (IsCpuKnown ps) (λ q. (n : ℕ) → n < 2 ^ 64 - 1 → IsSameAt ps qs q n))
    (sym c.into_iter-cpu-iterator.ensures.into_iter_gives)
    (all_left (λ q. (n : ℕ) → n < 2 ^ 64 - 1 → IsSameAt ps qs q n) ps c.cpus-cpu-items.result
    c.cpus-cpu-items.ensures)

pub loop-cpu-preserved : goal.loop-cpu-preserved
loop-cpu-preserved c =
    let ps = c.args.self.now in
    let qs = c.args.other.now in
    next_done (IsCpuKnown ps) (λ q. (n : ℕ) → n < 2 ^ 64 - 1 → IsSameAt ps qs q n)
    c.loop-cpu.cpu-iterator c.next.new.self c.in-Some.cpu.0 c.in-Some.ensures.steps
    (when_true c.same_on.result _ _ c.if-not-same_on.false c.same_on.ensures) c.loop-cpu.invariant

pub returns-then-not-same_on : goal.returns-then-not-same_on
returns-then-not-same_on c = (
  λ e. absurd (false≢true e),
  λ same.
      let apart = when_false c.same_on.result _ _ c.if-not-same_on.true c.same_on.ensures in
      absurd (apart.1 (same_at c.args.self.now c.args.other.now same c.in-Some.cpu.0 apart.0)),
)

pub returns : goal.returns
returns c =
    let ps = c.args.self.now in
    let qs = c.args.other.now in (
      λ known. all_same ps qs c.parcels-kept.ensures.sound c.parcels-others.ensures.sound
          (all_done (IsCpuKnown ps) (λ q. (n : ℕ) → n < 2 ^ 64 - 1 → IsSameAt ps qs q n)
          c.loop-cpu.cpu-iterator c.in-None.ensures.steps.0 c.loop-cpu.invariant)
          (c.knows_cpus_of.ensures.0 known),
      λ same. c.knows_cpus_of.ensures.1 (same_known ps qs same),
    )
