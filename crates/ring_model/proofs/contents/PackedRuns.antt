-- What was done on a ring is packed in pages.
use Rattle.trace_model.proofs.packing.PackedHistories.{is_packed}
use Rattle.ring_model.specs.HistoryLaws.{RunsArePacked}

pub runs_packed : RunsArePacked
runs_packed n size start c r = is_packed size c.history r.packed.room r.packed.fit
