use Rattle.std.proofs.Common.{◌≡◌, ap, arith}
use Rattle.std.specs.Prelude.{Option}
use Rattle.std.specs.Prelude.{ℤ}
use Rattle.std.specs.Int.{w32, cast_signed, cast_unsigned}
use Rattle.std.proofs.Math.Facts.{to_z-of_z}
use Rattle.trace_dat.specs.kernel_texts.Names.{Event}
use Rattle.capture_text.specs.Lent.{task_known, tasks_lent}
use Rattle.capture_text.specs.Names.{json_process, json_event, json_print}
use Rattle.text_values.proofs.Chains.{put_as}
use Rattle.capture_text.proofs.Pieces.{json_known}
use Rattle.capture_text.proofs.names.put_json_known.Goals as goal

pub returns : goal.returns
returns g c = λ start text has.
    let same : cast_signed w32 (cast_unsigned w32 c.args.pid) ≡ c.args.pid = grind (arith, to_z-of_z, c.ranges.pid) in
    put_as start _ _ _
    (json_known text _ _ _ _ _ _
    (ap (λ (z : ℤ). json_process z (task_known (tasks_lent c.args.tasks) z)) same)
    (ap (λ (e : Option Event). json_event c.args.id e) c.event-event.ensures)
    (ap (λ (e : Option Event). json_print e c.args.bytes.now) c.event-event.ensures))
    (c.put_json_print.ensures start _ (c.put_json_event.ensures start _
    (c.put.ensures start _ (c.put_json_process.ensures start text has))))
