use Rattle.std.proofs.Common.{◌≡◌, ap, arith}
use Rattle.std.specs.Prelude.{Option}
use Rattle.std.specs.Prelude.{ℤ}
use Rattle.std.specs.Int.{w32, cast_signed, cast_unsigned}
use Rattle.std.proofs.Math.Facts.{to_z-of_z}
use Rattle.trace_dat.specs.kernel_texts.Names.{Event}
use Rattle.capture_text.specs.Lent.{task_known, tasks_lent}
use Rattle.capture_text.specs.Names.{process_part, event_or_number, print_part}
use Rattle.text_values.proofs.Chains.{put_as}
use Rattle.capture_text.proofs.Pieces.{known}
use Rattle.capture_text.proofs.names.put_known.Goals as goal

pub returns : goal.returns
returns g c = λ start text has.
    let same : cast_signed w32 (cast_unsigned w32 c.args.pid) ≡ c.args.pid = grind (arith, to_z-of_z, c.ranges.pid) in
    put_as start _ _ _
    (known text _ _ _ _ _ _
    (ap (λ (z : ℤ). process_part z (task_known (tasks_lent c.args.tasks) z)) same)
    (ap (λ (e : Option Event). event_or_number c.args.id e) c.event-event.ensures)
    (ap (λ (e : Option Event). print_part e c.args.bytes.now) c.event-event.ensures))
    (c.put_print.ensures start _
    (c.put_event_or_number.ensures start _ (c.put.ensures start _ (c.put_process.ensures start text has))))
