use Rattle.std.proofs.Common.{ℕ, List, sym, subst}
use Rattle.trace_model.specs.Words.{padded}
use Rattle.record_words.specs.Puts.{Puts}
use Rattle.record_words.proofs.Padded.{padded_put, last_word_near}
use Rattle.record_words.proofs.put.put_padded.Goals as goal

pub returns : goal.returns
returns c =
    let payload : List ℕ = c.args.payload.now in
    subst (λ (out : List ℕ). Puts c.args.out.now out (padded payload)) (sym c.copy_to_front.ensures)
    (padded_put c.args.out.now c.put_number.new.out payload c.args.slot c.requires.slot c.requires.room
    (last_word_near payload c.args.slot c.requires.slot) c.put_number.ensures)
