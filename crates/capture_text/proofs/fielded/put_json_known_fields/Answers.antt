use Rattle.std.proofs.Common.{◌≡◌, ap, arith, Option}
use Rattle.std.specs.Prelude.{ℤ}
use Rattle.std.specs.Int.{w32, cast_signed, cast_unsigned}
use Rattle.std.proofs.Math.Facts.{to_z-of_z}
use Rattle.trace_dat.specs.kernel_texts.Names.{Event, events_of}
use Rattle.text_values.proofs.Chains.{put_as}
use Rattle.capture_text.specs.Fielded.{json_event_part}
use Rattle.capture_text.specs.Lent.{naming_seen, tables_lent, task_known, tasks_lent}
use Rattle.capture_text.specs.Names.{json_process, json_event}
use Rattle.capture_text.proofs.Details.{tables_at}
use Rattle.capture_text.proofs.Pieces.{json_known}
use Rattle.capture_text.proofs.fielded.put_json_known_fields.Goals as goal

pub returns-clause-text : goal.returns-clause-text
returns-clause-text g c = λ start text has.
    let same : cast_signed w32 (cast_unsigned w32 c.args.pid) ≡ c.args.pid = grind (arith, to_z-of_z, c.ranges.pid) in
    put_as start _ _ _
    (json_known text _ _ _ _ _ _
    (ap (λ (z : ℤ). json_process z (task_known (tasks_lent c.args.beside.tasks) z)) same)
    (ap (λ (e : Option Event). json_event c.args.id e) c.event-event.ensures)
    (ap (λ (e : Option Event). json_event_part (naming_seen c.args.beside) e c.args.payload.now)
    c.event-event.ensures))
    (c.put_json_event_part.ensures.text start _ (c.put_json_event.ensures start _
    (c.put.ensures start _ (c.put_json_process.ensures start text has))))

pub put_json_event_part-requires-clause-tables : goal.put_json_event_part-requires-clause-tables
put_json_event_part-requires-clause-tables g c =
    tables_at (tables_lent c.args.beside.tables) (events_of c.args.names.now) c.args.id _ c.requires.tables
    (omega (arith, c.ranges.id)) c.event-event.ensures
