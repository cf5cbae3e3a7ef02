use Rattle.std.proofs.Common.{ℕ, ◌++◌, ◌∙◌, sym, ap, arith, length, map, take, drop}
use Rattle.std.proofs.lemmas.Iterator.Consumers.{YieldsList-from_first, YieldsList-turn, YieldsList-end}
use Rattle.trace_model.specs.Runs.{InRun}
use Rattle.collector.specs.Runs.{run_numbers}
use Rattle.library_values.specs.Runs.{run_of}
use Rattle.library_values.proofs.PutRuns.{is_far_at, put_next}
use Rattle.library_values.proofs.listed_fleet.runs.put_runs.Goals as goal

pub overflow_add-count : goal.overflow_add-count
overflow_add-count c =
    let runs = c.args.runs in
    let given = c.into_iter-first-iterator.ensures.into_iter_gives in
    let turn = YieldsList-turn (YieldsList-from_first run_numbers (λ left. left) runs given) c.loop-first.yielded _
    c.loop-first.yielded_by _ _ _ c.in-Some.is c.next.ensures.steps in
    let far = is_far_at (InRun runs) runs c.requires (length c.loop-first.yielded) _ turn.0 turn.1 in
    let count = c.loop-first.invariant.0 in
    omega arith

pub loop-first-preserved : goal.loop-first-preserved
loop-first-preserved c =
    let put = c.put_run.ensures in
    put_next c.args.out.now c.loop-first.out c.put_run.new.out c.loop-first.yielded (c.in-Some.first, c.in-Some.last)
    c.loop-first.count
    c.loop-first.invariant.0 c.loop-first.invariant.1 put.put put.past

pub returns : goal.returns
returns c =
    let runs = c.args.runs in
    let out = c.args.out.now in
    let given = c.into_iter-first-iterator.ensures.into_iter_gives in
    let all = YieldsList-end (YieldsList-from_first run_numbers (λ left. left) runs given) c.loop-first.yielded _
    c.loop-first.yielded_by _ _ c.in-None.is c.next.ensures.steps in
    let count_is = c.loop-first.invariant.0 ∙ all.1 in
    record {
      count_is = count_is;
      put = c.loop-first.invariant.1
          ∙ (λ i. take (length out) (map run_of (all.0 i)) ++ drop (length (all.0 i)) out)
          ∙ ap (λ (k : ℕ). take (length out) (map run_of runs) ++ drop k out) (sym count_is);
    }
