use Rattle.std.proofs.Common.{arith, refl}
use Rattle.record_words.proofs.WordReads.{short_read, faulty_short}
use Rattle.record_words.proofs.next.short_record.Goals as goal

pub returns-then-data-start-clause-fault : goal.returns-then-data-start-clause-fault
returns-then-data-start-clause-fault c =
    faulty_short c.args.data.now c.args.at c.requires.head c.requires.counts
    (let is = c.requires.type_is in omega arith)

pub returns-clause-read : goal.returns-clause-read
returns-clause-read c = rw c.record_between.ensures
    (short_read c.args.data.now c.args.at c.args.words c.args.delta _ (λ i. omega (arith, c.type_inv.data i))
    c.requires.head c.requires.counts c.requires.type_is c.requires.delta_is refl (omega arith))
