use Rattle.std.proofs.Common.{◌≡◌, ◌+◌, ◌/◌, ℕ, length, refl, sym, subst, arith}
use Rattle.trace_model.specs.Words.{padded, slot_len, first_word}
use Rattle.trace_model.proofs.words.Lengths.{length-padded}
use Rattle.record_words.specs.Puts.{Puts}
use Rattle.record_words.proofs.Headers.{length-le32, bytes-data_word_of, data_header-short, puts_behind}
use Rattle.record_words.proofs.put.put_short_payload.Goals as goal

pub returns-clause-put : goal.returns-clause-put
returns-clause-put c =
    let len : ℕ = length c.args.payload.now in
    let words : (c.max-len.result + 3) / 4 ≡ slot_len len / 4 = omega arith in
    rw (
      bytes-data_word_of c.args.delta (slot_len len) (padded c.args.payload.now) (length-padded c.args.payload.now),
      data_header-short c.args.delta (slot_len len) (omega (arith, c.requires.limit)),
    )
    (puts_behind _ _ _ _ _ 4 _ (sym (length-le32 _)) refl
    (subst (λ (w : ℕ). Puts c.args.out.now c.put_word.new.out (first_word w c.args.delta)) words c.put_word.ensures)
    c.put_padded.ensures)
