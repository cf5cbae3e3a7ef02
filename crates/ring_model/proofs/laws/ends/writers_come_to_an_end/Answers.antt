use Rattle.ring_model.proofs.seats.WriterEnds.{writer_steps_lower, writer_ends_lower, writers_near}
use Rattle.ring_model.proofs.laws.ends.writers_come_to_an_end.Goals as goal

pub returns : goal.returns
returns c = record { steps = writer_steps_lower; ends = writer_ends_lower; near = writers_near }
