use Rattle.ring_shared.proofs.Turning.{turned_none, turned_once}
use Rattle.ring_shared.specs.Calls.{IsWriter}
use Rattle.ring_shared.proofs.writer.Writer.claim_head_if_due.Goals as goal

pub returns-in-Claiming : goal.returns-in-Claiming
returns-in-Claiming c =
    turned_once c.args.self.now c.claim_head.new.self c.requires.top c.claim_head.result c.claim_head.ensures.makes
    c.claim_head.ensures.nearer c.claim_head.ensures.payloads

pub returns-in_default : goal.returns-in_default
unfolding IsWriter
returns-in_default c = turned_none c.args.self.now c.requires.writer c.requires.top
