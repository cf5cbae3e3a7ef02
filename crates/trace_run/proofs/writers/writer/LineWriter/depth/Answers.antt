use Rattle.trace_run.proofs.writers.writer.LineWriter.depth.Goals as goal

pub returns : goal.returns
returns c = c.depth.ensures.part c.requires
