use Rattle.std.proofs.Common.{refl, sym, ◌∙◌}
use Rattle.trace_model.specs.Words.{padded}
use Rattle.trace_model.proofs.words.Lengths.{length-padded}
use Rattle.record_words.proofs.Headers.{bytes-data_word_of, length-data_header, puts_behind}
use Rattle.record_words.proofs.put.put_padded_data.Goals as goal

pub returns-clause-put : goal.returns-clause-put
returns-clause-put c =
    rw (bytes-data_word_of c.args.delta c.slot_len-slot.result (padded c.args.payload.now)
    (length-padded c.args.payload.now ∙ sym c.slot_len-slot.ensures))
    (puts_behind _ _ _ _ _ _ _
    (c.put_header-start.ensures.len ∙ sym (length-data_header c.args.delta c.slot_len-slot.result)) refl
    c.put_header-start.ensures.put c.put_padded.ensures)
