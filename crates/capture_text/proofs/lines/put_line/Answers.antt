use Rattle.std.specs.Fmt.{decimal}
use Rattle.text_model.specs.Text.{hex_text}
use Rattle.text_values.proofs.Chains.{put_then, put_same}
use Rattle.capture_text.proofs.Pieces.{numbers_and_payload}
use Rattle.capture_text.proofs.lines.put_line.Goals as goal

pub returns : goal.returns
returns g c =
    let line = c.args.line.now in
    put_same _ _
    (numbers_and_payload (decimal line.cpu.0) (decimal line.number.0) (decimal line.moment.0) (hex_text line.bytes.now))
    (put_then _ _ (put_then _ _ c.put_numbers.ensures c.put_payload.ensures) c.put.ensures)
