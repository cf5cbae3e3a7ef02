use Rattle.std.specs.Fmt.{decimal}
use Rattle.text_model.specs.Text.{hex_text}
use Rattle.collector_text.proofs.Pieces.{record_put}
use Rattle.collector_text.proofs.lines.put_line.Goals as goal

put : goal.returns-clause-text
put c =
    let line = c.args.line.now in
    record_put (decimal line.cpu.0) (decimal line.number.0) (decimal line.moment.0) (hex_text line.bytes.now) _ _ _ _
    c.in_ok-put_front.ensures.text c.in_ok-put_payload.ensures.text c.in_ok-push.ensures.items

pub returns-clause-text : goal.returns-clause-text
returns-clause-text c = put c

pub returns-clause-behind : goal.returns-clause-behind
returns-clause-behind c = (_, put c)
