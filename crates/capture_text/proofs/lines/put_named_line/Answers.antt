use Rattle.std.specs.Fmt.{decimal}
use Rattle.text_model.specs.Text.{hex_text}
use Rattle.trace_dat.specs.kernel_texts.Names.{events_of}
use Rattle.trace_dat.specs.kernel_texts.FirstBytes.{common_fields_in}
use Rattle.capture_text.specs.Lent.{task_known, tasks_lent}
use Rattle.capture_text.specs.Names.{named_part}
use Rattle.text_values.proofs.Chains.{put_as}
use Rattle.capture_text.proofs.Pieces.{named_pieces}
use Rattle.capture_text.proofs.lines.put_named_line.Goals as goal

pub returns : goal.returns
returns g c = λ start text has.
    let line = c.args.line.now in
    let front =
    c.put.ensures start _ (c.put_named.ensures start _ (c.put_numbers.ensures start text has)) in
    put_as start _ _ _
    (named_pieces text (decimal line.cpu.0) (decimal line.number.0) (decimal line.moment.0)
    (named_part (events_of c.args.names.now) (task_known (tasks_lent c.args.tasks)) line.bytes.now
    (common_fields_in line.bytes.now))
    (hex_text line.bytes.now))
    (c.put-2.ensures start _ (c.put_payload.ensures start _ front))
