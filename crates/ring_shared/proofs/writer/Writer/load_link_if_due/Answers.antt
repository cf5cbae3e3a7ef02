use Rattle.ring_shared.proofs.Turning.{turned_none, turned_once}
use Rattle.ring_shared.specs.Calls.{IsWriter}
use Rattle.ring_shared.proofs.writer.Writer.load_link_if_due.Goals as goal

pub returns-in-Looking : goal.returns-in-Looking
returns-in-Looking c =
    turned_once c.args.self.now c.load_link.new.self c.requires.top c.load_link.result c.load_link.ensures.makes
    c.load_link.ensures.nearer c.load_link.ensures.payloads

pub returns-in_default : goal.returns-in_default
unfolding IsWriter
returns-in_default c = turned_none c.args.self.now c.requires.writer c.requires.top
