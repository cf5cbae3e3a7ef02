use Rattle.event_fields.proofs.LineParts.{line_is}
use Rattle.event_fields.proofs.laws.lines_have_parts.Goals as goal

pub returns : goal.returns
returns c = λ line field read. line_is line field read
