use Rattle.ring_frames.proofs.Late.{late_private}
use Rattle.ring_frames.proofs.frames.Frames.begin_again.Goals as goal

pub returns-clause-late : goal.returns-clause-late
returns-clause-late c = λ own.
    let (noted, is, passed) = c.requires.passed in
    late_private _ _ _ noted c.requires.top is own c.again.ensures.again
