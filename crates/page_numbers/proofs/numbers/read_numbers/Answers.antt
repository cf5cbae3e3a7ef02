use Rattle.std.proofs.Common.{arith}
use Rattle.trace_model.proofs.images.ParcelParts.{HasNumbers-of}
use Rattle.page_numbers.proofs.numbers.read_numbers.Goals as goal

pub returns-clause-numbers : goal.returns-clause-numbers
returns-clause-numbers c =
    rw (c.number_at.ensures, c.number_at-2.ensures, c.number_at-3.ensures, c.number_at-4.ensures)
    (HasNumbers-of c.args.bytes.now (λ i. omega (arith, c.type_inv.bytes i)) (omega arith))
