use Rattle.ring_shared.proofs.Turning.{turned_none, turned_once}
use Rattle.ring_shared.specs.Calls.{IsWriter}
use Rattle.ring_shared.proofs.writer.Writer.load_next_if_due.Goals as goal

pub returns-in-LookingNext : goal.returns-in-LookingNext
returns-in-LookingNext c =
    turned_once c.args.self.now c.load_next.new.self c.requires.top c.load_next.result c.load_next.ensures.makes
    c.load_next.ensures.nearer c.load_next.ensures.payloads

pub returns-in_default : goal.returns-in_default
unfolding IsWriter
returns-in_default c = turned_none c.args.self.now c.requires.writer c.requires.top
