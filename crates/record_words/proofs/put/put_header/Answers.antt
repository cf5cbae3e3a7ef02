use Rattle.std.proofs.Common.{sym, refl}
use Rattle.record_words.proofs.Headers.{length-le32, puts_behind, data_header-long}
use Rattle.record_words.proofs.put.put_header.Goals as goal

pub returns-else-slot-le-SHORT_LIMIT-clause-put : goal.returns-else-slot-le-SHORT_LIMIT-clause-put
returns-else-slot-le-SHORT_LIMIT-clause-put c =
    rw (data_header-long c.args.delta c.args.slot c.if-slot-le-SHORT_LIMIT.false)
    (puts_behind _ _ _ _ _ 4 _ (sym (length-le32 _)) refl c.put_word-else-slot-le-SHORT_LIMIT.ensures
    c.put_number.ensures)
