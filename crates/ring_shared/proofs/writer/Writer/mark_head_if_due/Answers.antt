use Rattle.ring_shared.proofs.Turning.{turned_none, turned_once}
use Rattle.ring_shared.specs.Calls.{IsWriter}
use Rattle.ring_shared.proofs.writer.Writer.mark_head_if_due.Goals as goal

pub returns-in-Marking : goal.returns-in-Marking
returns-in-Marking c =
    turned_once c.args.self.now c.mark_head.new.self c.requires.top c.mark_head.result c.mark_head.ensures.makes
    c.mark_head.ensures.nearer c.mark_head.ensures.payloads

pub returns-in_default : goal.returns-in_default
unfolding IsWriter
returns-in_default c = turned_none c.args.self.now c.requires.writer c.requires.top
