use Rattle.std.proofs.Common.{◌-◌, ◌^◌, ◌<◌, ℕ, ⊎_elim, sym, subst}
use Rattle.collector.specs.Known.{IsCpuKnown}
use Rattle.collector.specs.Beside.{FitTogether}
use Rattle.collector.proofs.OfKind.{known_or_unknown, known_fits}
use Rattle.collector.proofs.SideBySide.{unknown_fits, fit_agree}
use Rattle.collector.proofs.CpuWalks.{Leaves, all_left, next_done, done_before, all_done}
use Rattle.collector.proofs.collector.Collector.look_at_all.Goals as goal

pub loop-cpu-init : goal.loop-cpu-init
loop-cpu-init c =
    let ps = c.args.self.now in
    let qs = c.args.other.now in
    subst (Leaves (IsCpuKnown qs) (λ q. (n : ℕ) → n < 2 ^ 64 - 1 → FitTogether ps qs q n))
    (sym c.into_iter-cpu-iterator.ensures.into_iter_gives)
    (all_left (λ q. (n : ℕ) → n < 2 ^ 64 - 1 → FitTogether ps qs q n) qs c.cpus-cpu-items.result
    c.cpus-cpu-items.ensures)

pub look_at_cpu-requires : goal.look_at_cpu-requires
look_at_cpu-requires c q n lt small =
    let ps = c.args.self.now in
    let qs = c.args.other.now in
    ⊎_elim
    (λ known. done_before (IsCpuKnown qs) (λ q. (n : ℕ) → n < 2 ^ 64 - 1 → FitTogether ps qs q n)
    c.loop-cpu.cpu-iterator c.next.new.self c.in-Some.cpu.0 c.in-Some.ensures.steps c.loop-cpu.invariant
    q lt (n, known) n small)
    (λ unknown. unknown_fits ps qs q n unknown)
    (known_or_unknown qs q n)

pub loop-cpu-preserved : goal.loop-cpu-preserved
loop-cpu-preserved c =
    let ps = c.args.self.now in
    let qs = c.args.other.now in
    next_done (IsCpuKnown qs) (λ q. (n : ℕ) → n < 2 ^ 64 - 1 → FitTogether ps qs q n)
    c.loop-cpu.cpu-iterator c.next.new.self c.in-Some.cpu.0 c.in-Some.ensures.steps
    c.in_ok-look_at_cpu.ensures.fits c.loop-cpu.invariant

pub returns-clause-agree : goal.returns-clause-agree
returns-clause-agree c =
    let ps = c.args.self.now in
    let qs = c.args.other.now in
    fit_agree ps qs c.parcels-kept.ensures.agree c.parcels-others.ensures.agree
    (λ q n. ⊎_elim
    (λ known. all_done (IsCpuKnown qs) (λ q. (n : ℕ) → n < 2 ^ 64 - 1 → FitTogether ps qs q n)
    c.loop-cpu.cpu-iterator c.in-None.ensures.steps.0 c.loop-cpu.invariant q (n, known) n
    (known_fits qs c.parcels-others.ensures.sound q n known))
    (λ unknown. unknown_fits ps qs q n unknown)
    (known_or_unknown qs q n))
