use Rattle.ring_shared.proofs.Turning.{turned_none, turned_once}
use Rattle.ring_shared.specs.Calls.{IsWriter}
use Rattle.ring_shared.proofs.writer.Writer.clear_update_if_due.Goals as goal

pub returns-in-Clearing : goal.returns-in-Clearing
returns-in-Clearing c =
    turned_once c.args.self.now c.clear_update.new.self c.requires.top c.clear_update.result
    c.clear_update.ensures.makes c.clear_update.ensures.nearer c.clear_update.ensures.payloads

pub returns-in_default : goal.returns-in_default
unfolding IsWriter
returns-in_default c = turned_none c.args.self.now c.requires.writer c.requires.top
