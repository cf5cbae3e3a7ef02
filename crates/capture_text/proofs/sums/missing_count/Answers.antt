use Rattle.std.proofs.Common.{◌+◌, suc, refl, ap, sym, subst, ◌∙◌, arith}
use Rattle.std.proofs.lemmas.Iterator.Consumers.{YieldsList-from_first, YieldsList-end}
use Rattle.trace_model.specs.Collection.{Misses}
use Rattle.world_model.proofs.OneRuns.{one_runs}
use Rattle.collector.specs.Runs.{run_numbers}
use Rattle.capture_text.specs.LossSums.{missing_count}
use Rattle.capture_text.proofs.LossSums.{Rise, count_more, rise_of, rise_lower}
use Rattle.capture_text.proofs.sums.missing_count.Goals as goal

pub loop-first-init : goal.loop-first-init
loop-first-init c =
    let runs = c.missing-first-items.result in (
      refl,
      subst (Rise 0) (sym c.into_iter-first-iterator.ensures.into_iter_gives)
          (rise_of 0 runs c.missing-first-items.ensures.forward c.missing-first-items.ensures.apart
          (λ run at. omega arith)),
    )

pub loop-first-preserved : goal.loop-first-preserved
loop-first-preserved c =
    let first = c.in-Some.first.0 in
    let last = c.in-Some.last.0 in
    let count = c.loop-first.count in
    let rise = subst (Rise count) c.in-Some.ensures.steps c.loop-first.invariant.1 in
    let sum = count_more c.loop-first.yielded (c.in-Some.first, c.in-Some.last) in
    let before = c.loop-first.invariant.0 in
    let length = c.from.ensures in (
      omega (arith, sum, before, length, rise.1),
      rise_lower (suc last) (count + (c.from.result + 1)) _ (omega (arith, length, rise.0, rise.1)) rise.2,
    )

pub returns : goal.returns
returns c = λ runs are.
    let given = c.into_iter-first-iterator.ensures.into_iter_gives in
    let all = YieldsList-end (YieldsList-from_first run_numbers (λ left. left) c.missing-first-items.result given)
    c.loop-first.yielded _ c.loop-first.yielded_by _ _ c.in-None.is c.next.ensures.steps in
    c.loop-first.invariant.0
    ∙ ap missing_count (all.0
    ∙ one_runs (Misses c.args.collector.now c.args.cpu.0) c.missing-first-items.result runs
    c.missing-first-items.ensures are)
