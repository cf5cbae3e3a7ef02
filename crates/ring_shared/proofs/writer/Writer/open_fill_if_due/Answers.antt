use Rattle.ring_shared.proofs.Turning.{turned_none, turned_once}
use Rattle.ring_shared.specs.Calls.{IsWriter}
use Rattle.ring_shared.proofs.writer.Writer.open_fill_if_due.Goals as goal

pub returns-in-Opening : goal.returns-in-Opening
returns-in-Opening c =
    turned_once c.args.self.now c.open_fill.new.self c.requires.top c.open_fill.result c.open_fill.ensures.makes
    c.open_fill.ensures.nearer c.open_fill.ensures.payloads

pub returns-in_default : goal.returns-in_default
unfolding IsWriter
returns-in_default c = turned_none c.args.self.now c.requires.writer c.requires.top
