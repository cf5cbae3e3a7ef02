use Rattle.trace_script.proofs.TextParts.{first_place}
use Rattle.trace_script.proofs.lines.line_end.Goals as goal

pub returns : goal.returns
returns c = first_place 10 c.args.text.now c.memchr.result c.memchr.ensures
