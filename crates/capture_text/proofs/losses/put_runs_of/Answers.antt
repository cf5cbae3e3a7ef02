use Rattle.std.proofs.Common.{ℕ, List, flat_map, subst}
use Rattle.std.specs.Option.{option_map}
use Rattle.std.proofs.lemmas.Iterator.Consumers.{YieldsList-from_first, YieldsList-end}
use Rattle.collector.specs.Runs.{run_numbers}
use Rattle.text_values.specs.Putting.{Puts}
use Rattle.capture_text.specs.Window.{bound_seen}
use Rattle.capture_text.specs.Listed.{listed_run}
use Rattle.capture_text.proofs.losses.put_runs_of.Goals as goal

pub returns : goal.returns
returns g c =
    let runs = c.missing-first-items.result in
    let given = c.into_iter-first-iterator.ensures.into_iter_gives in
    let all = YieldsList-end (YieldsList-from_first run_numbers (λ left. left) runs given) c.loop-first.yielded _
    c.loop-first.yielded_by _ _ c.in-None.is c.next.ensures.steps in (
      runs,
      c.missing-first-items.ensures,
      subst (λ (rs : List (ℕ × ℕ)).
          Puts (flat_map (listed_run c.args.form (option_map bound_seen c.args.bound) c.args.cpu.0) rs)
          c.args.out.now c.loop-first.out)
          all.0 c.loop-first.invariant,
    )
