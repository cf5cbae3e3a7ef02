use Rattle.ring_shared.proofs.writer.Writer.reserve_on.Goals as goal

pub returns-clause-reserves : goal.returns-clause-reserves
returns-clause-reserves c = (c.reserve_top.result, c.met_first.ensures, c.reserve_top.ensures.reserves)
