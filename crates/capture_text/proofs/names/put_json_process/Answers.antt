use Rattle.std.proofs.Common.{◌≡◌, ◌++◌, List, ap, ap₂, ◌∙◌, arith}
use Rattle.std.specs.Prelude.{ℕ, Option, codes}
use Rattle.std.specs.Int.{w32, cast_signed, cast_unsigned}
use Rattle.std.specs.Fmt.{signed_decimal}
use Rattle.std.proofs.Math.Facts.{to_z-of_z}
use Rattle.text_values.proofs.Chains.{put_then, put_same}
use Rattle.capture_text.specs.Lent.{task_known, tasks_lent}
use Rattle.capture_text.specs.Beside.{json_task}
use Rattle.capture_text.proofs.names.put_json_process.Goals as goal

pub returns : goal.returns
returns g c =
    let same : cast_signed w32 (cast_unsigned w32 c.args.pid) ≡ c.args.pid = grind (arith, to_z-of_z, c.ranges.pid) in
    put_same _ _
    (ap₂ (λ (n : List ℕ) (t : Option (List ℕ)). codes ",\"pid\":" ++ n ++ json_task t)
    (ap signed_decimal (grind (arith, to_z-of_z, c.from.ensures, c.ranges.pid)))
    (c.task_of.ensures ∙ ap (task_known (tasks_lent c.args.tasks)) same))
    (put_then _ _ (put_then _ _ c.put.ensures c.put_signed.ensures) c.put_json_task.ensures)
