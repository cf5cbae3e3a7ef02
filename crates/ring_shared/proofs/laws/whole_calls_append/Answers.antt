use Rattle.ring_shared.proofs.WholeAppends.{finishes_reserve, finishes_refused, finishes_close, finishes_left}
use Rattle.ring_shared.proofs.WholeAppends.{writes_append, refused_writes_append}
use Rattle.ring_shared.proofs.laws.whole_calls_append.Goals as goal

pub returns : goal.returns
returns c =
    assumption (finishes_reserve, finishes_refused, finishes_close, finishes_left, writes_append, refused_writes_append)
