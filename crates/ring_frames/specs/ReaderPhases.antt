-- The reader's phases as the ring's model has them.
use Rattle.trace_model.specs.Ring as ring
use Rattle.ring_frames.specs.declared.reader.ReaderPhase.{ReaderPhase}
use Rattle.ring_frames.specs.declared.reader.ReaderPhase.TheVariants.{LoadingHead, LoadingDone, StoringSpareLink}
use Rattle.ring_frames.specs.declared.reader.ReaderPhase.TheVariants.{Swapping}

abbrev pub reader_phase_of : ReaderPhase → ring.ReaderPhase
reader_phase_of LoadingHead = ring.loading_head
reader_phase_of (LoadingDone page fill) = ring.loading_done page fill
reader_phase_of (StoringSpareLink page fill) = ring.storing_spare_link page fill
reader_phase_of (Swapping page fill) = ring.swapping page fill
