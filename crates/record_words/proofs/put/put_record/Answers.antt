use Rattle.std.proofs.Common.{◌≡◌, length, refl, length-append}
use Rattle.trace_model.specs.Words.{bytes_of_word, time_extend}
use Rattle.record_words.proofs.Headers.{encoding-extended, puts_behind, length-le32}
use Rattle.record_words.proofs.put.put_record.Goals as goal

pub returns-clause-put : goal.returns-clause-put
returns-clause-put c =
    let extend_len : 8 ≡ length (bytes_of_word (time_extend c.args.delta)) = simp (length-append, length-le32) in
    rw (
      ← c.slot_len-slot.ensures,
      encoding-extended c.args.delta c.args.first _ c.if-first.false c.if-delta-lt-EXTEND_FROM.false,
    )
    (puts_behind _ _ _ _ _ 8 _ extend_len refl c.put_extend.ensures c.put_data-place.ensures.put)
