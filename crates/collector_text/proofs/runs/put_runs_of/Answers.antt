use Rattle.std.proofs.Common.{◌++◌, ◌∙◌, ap, ℕ, List, flat_map}
use Rattle.std.proofs.lemmas.Iterator.Consumers.{YieldsList-from_first, YieldsList-end}
use Rattle.text_values.proofs.Behind.{behind_behind}
use Rattle.collector.specs.Runs.{run_numbers}
use Rattle.world_model.specs.Printing.{printed_missing}
use Rattle.collector_text.proofs.runs.put_runs_of.Goals as goal

pub returns-clause-text : goal.returns-clause-text
returns-clause-text c =
    let runs = c.missing-first-items.result in
    let given = c.into_iter-first-iterator.ensures.into_iter_gives in
    let all = YieldsList-end (YieldsList-from_first run_numbers (λ left. left) runs given) c.loop-first.yielded _
    c.loop-first.yielded_by _ _ c.in-None.is c.next.ensures.steps in (
      runs,
      c.missing-first-items.ensures,
      c.loop-first.invariant
          ∙ ap (λ (rs : List (ℕ × ℕ)). c.args.out.now.items ++ flat_map (printed_missing c.args.cpu.0) rs) all.0,
    )

pub returns-in_err-put_run-clause-behind : goal.returns-in_err-put_run-clause-behind
returns-in_err-put_run-clause-behind c =
    behind_behind c.args.out.now.items c.loop-first.out.items c.put_run.new.out.items (_, c.loop-first.invariant)
    c.put_run.ensures.behind

pub returns-clause-behind : goal.returns-clause-behind
returns-clause-behind c = (_, c.loop-first.invariant)
