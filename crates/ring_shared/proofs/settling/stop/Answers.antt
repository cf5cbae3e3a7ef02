use Rattle.ring_shared.proofs.Stops.{ends_stop}
use Rattle.ring_shared.proofs.settling.stop.Goals as goal

pub returns : goal.returns
returns c = ends_stop c.args.writer _ c.args.reader _ c.writer.view_is c.reader.view_is c.settle.ensures.parts
