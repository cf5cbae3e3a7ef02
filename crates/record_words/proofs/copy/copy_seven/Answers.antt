use Rattle.std.proofs.Common.{◌+◌, ◌-◌, ℕ, List, length, refl, ◌∙◌, arith}
use Rattle.record_words.proofs.Copies.{last_puts}
use Rattle.record_words.proofs.copy.copy_seven.Goals as goal

pub returns : goal.returns
returns c =
    let payload : List ℕ = c.args.payload.now in
    let least = c.requires.least in let most = c.requires.most in
    let one = c.copy_part.ensures.front 0 (omega arith) refl in
    let two = c.copy_part-2.ensures.front 16 (omega arith) one in
    let three = c.copy_part-3.ensures.front 32 (omega arith) two in
    let four = c.copy_part-4.ensures.front 48 (omega arith) three in
    let five = c.copy_part-5.ensures.front 64 (omega arith) four in
    let six = c.copy_part-6.ensures.front (length payload - 48 + 16) (omega arith) five in
    let seven = c.copy_part-7.ensures.front (length payload - 32 + 16) (omega arith) six in
    last_puts 16 c.args.out.now c.copy_part-7.new.out payload (omega arith) seven
    (c.copy_part-7.ensures.behind
    ∙ (c.copy_part-6.ensures.behind
    ∙ (c.copy_part-5.ensures.behind
    ∙ (c.copy_part-4.ensures.behind
    ∙ (c.copy_part-3.ensures.behind ∙ (c.copy_part-2.ensures.behind ∙ c.copy_part.ensures.behind))))))
