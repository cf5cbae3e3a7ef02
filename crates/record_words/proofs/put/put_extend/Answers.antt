use Rattle.std.proofs.Common.{sym, refl}
use Rattle.record_words.proofs.Headers.{length-le32, puts_behind}
use Rattle.record_words.proofs.put.put_extend.Goals as goal

pub returns : goal.returns
returns c = puts_behind _ _ _ _ _ 4 _ (sym (length-le32 _)) refl c.put_word.ensures c.put_number.ensures
