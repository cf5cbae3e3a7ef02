use Rattle.std.proofs.Common.{ℕ, [], ◌∷◌, ◌++◌, ap, ◌∙◌}
use Rattle.std.proofs.lemmas.Result.{on_ok_weaker}
use Rattle.std.specs.Prelude.{codes}
use Rattle.std.specs.Fmt.{decimal}
use Rattle.text_model.specs.Text.{space}
use Rattle.text_values.proofs.Behind.{behind_behind}
use Rattle.collector_text.proofs.Pieces.{run_put}
use Rattle.collector_text.proofs.runs.put_run.Goals as goal

pub returns-in_err-put_between-clause-behind : goal.returns-in_err-put_between-clause-behind
returns-in_err-put_between-clause-behind c = c.put_between.ensures.behind

pub returns-in_err-put_between-2-clause-behind : goal.returns-in_err-put_between-2-clause-behind
returns-in_err-put_between-2-clause-behind c =
    behind_behind _ _ _ c.put_between.ensures.behind c.put_between-2.ensures.behind

pub returns-clause-text : goal.returns-clause-text
returns-clause-text c =
    let cpu = c.in_ok-put_between.ensures.text
    ∙ ap (λ (n : ℕ). c.args.out.now.items ++ (codes "missing " ++ decimal n ++ space ∷ [])) c.from.ensures in
    on_ok_weaker c.put_between-3.result
    (λ last. run_put (decimal c.args.cpu.0) (decimal c.args.first.0) (decimal c.args.last.0) _ _ _ _ cpu
    c.in_ok-put_between-2.ensures.text last)
    c.put_between-3.ensures.text

pub returns-clause-behind : goal.returns-clause-behind
returns-clause-behind c =
    behind_behind _ _ _ (behind_behind _ _ _ c.put_between.ensures.behind c.put_between-2.ensures.behind)
    c.put_between-3.ensures.behind
