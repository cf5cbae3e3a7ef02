use Rattle.std.proofs.Common.{arith, rules}
use Rattle.page_image.proofs.ImageReads.{counted_from}
use Rattle.page_image.proofs.image.header.read_missed.Goals as goal

pub returns-clause-reported : goal.returns-clause-reported
returns-clause-reported c = λ ignored.
    counted_from c.args.behind.now c.args.commit c.number_at.result ignored (λ i. omega (arith, c.type_inv.behind i))
    (search rules) (search rules) (omega arith) c.number_at.ensures
