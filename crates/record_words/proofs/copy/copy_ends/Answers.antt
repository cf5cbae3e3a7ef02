use Rattle.std.proofs.Common.{◌+◌, ℕ, List, refl, ◌∙◌, arith}
use Rattle.record_words.proofs.Copies.{last_puts}
use Rattle.record_words.proofs.copy.copy_ends.Goals as goal

pub returns : goal.returns
returns g c =
    let payload : List ℕ = c.args.payload.now in
    let least = c.requires.least in let most = c.requires.most in
    let first = c.copy_part.ensures.front 0 (omega arith) refl in
    let last = c.copy_part-2.ensures.front (0 + g.row.N) (omega arith) first in
    last_puts g.row.N c.args.out.now c.copy_part-2.new.out payload least last
    (c.copy_part-2.ensures.behind ∙ c.copy_part.ensures.behind)
