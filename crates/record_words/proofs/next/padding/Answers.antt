use Rattle.std.proofs.Common.{arith}
use Rattle.record_words.proofs.WordReads.{padding_read}
use Rattle.record_words.proofs.next.padding.Goals as goal

pub returns-clause-read : goal.returns-clause-read
returns-clause-read c =
    padding_read c.args.data.now c.args.at _ (λ i. omega (arith, c.type_inv.data i)) c.requires.type_is
    c.requires.delta_is c.in_ok-next.ensures.good c.in_ok-next.ensures.end
