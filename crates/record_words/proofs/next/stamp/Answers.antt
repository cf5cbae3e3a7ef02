use Rattle.std.proofs.Common.{arith}
use Rattle.record_words.proofs.WordReads.{stamp_read}
use Rattle.record_words.proofs.next.stamp.Goals as goal

pub returns-clause-read : goal.returns-clause-read
returns-clause-read c =
    stamp_read c.args.data.now c.args.at _ c.args.low (λ i. omega (arith, c.type_inv.data i)) c.requires.type_is
    c.requires.low_is c.in_ok-time.ensures.whole c.in_ok-time.ensures.time
