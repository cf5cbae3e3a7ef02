use Rattle.std.proofs.Common.{◌++◌, ◌∙◌, ap, ℕ, List, map}
use Rattle.std.proofs.lemmas.Iterator.Consumers.{YieldsList-from_first, YieldsList-end}
use Rattle.collector.specs.Runs.{run_numbers}
use Rattle.fleet_text.specs.Runs.{run_seen, run_at}
use Rattle.fleet_text.proofs.runs.put_all.Goals as goal

pub returns : goal.returns
returns c =
    let given = c.into_iter-first-iterator.ensures.into_iter_gives in
    let all = YieldsList-end (YieldsList-from_first run_numbers (λ left. left) c.args.of_cpu given) c.loop-first.yielded
    _
    c.loop-first.yielded_by _ _ c.in-None.is c.next.ensures.steps in
    c.loop-first.invariant
    ∙ ap (λ (rs : List (ℕ × ℕ)). map run_seen c.args.runs.now.items ++ map (run_at c.args.stream.0 c.args.cpu.0) rs)
    all.0
