use Rattle.ring_shared.proofs.WholeAppends.{writes_reserve, refused_writes_reserve_none, refused_writes_keep_frames}
use Rattle.ring_shared.proofs.WholeAppends.{padded_twice}
use Rattle.ring_shared.proofs.laws.writes_reserve_their_record.Goals as goal

pub returns : goal.returns
returns c = assumption (writes_reserve, refused_writes_reserve_none, refused_writes_keep_frames, padded_twice)
