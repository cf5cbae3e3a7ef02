use Rattle.std.proofs.Common.{arith}
use Rattle.record_words.proofs.WordReads.{ending_read}
use Rattle.record_words.proofs.next.word_at.Goals as goal

pub returns-in-29-clause-read : goal.returns-in-29-clause-read
returns-in-29-clause-read c = let is = c.in-29.is in
    let first = c.requires.first_is in
    ending_read c.args.data.now c.args.at c.requires.head (omega arith) (omega arith)
