use Rattle.std.proofs.Common.{◌≡◌, ℕ, length, replicate, arith, rules}
use Rattle.std.proofs.lemmas.List.{length-replicate}
use Rattle.trace_model.specs.Words.{encoding, encoded_len, slot_len}
use Rattle.trace_model.proofs.words.Lengths.{length-encoding}
use Rattle.page_image.proofs.Behind.{take-put_behind}
use Rattle.page_image.proofs.put.put_any.Goals as goal

pub returns : goal.returns
returns c =
    let size : length (encoding c.args.delta c.args.first (replicate {A = ℕ} (slot_len c.args.len) 0))
    ≡ encoded_len c.args.len c.args.delta c.args.first =
    length-encoding c.args.len c.args.delta c.args.first _ (length-replicate _ _) in
    record {
      bytes =
          take-put_behind c.args.body.now c.put_record-place.new.out _ _ c.args.end _ _ (omega arith) (omega arith)
          c.put_record-place.ensures.put;
      ends_at = search rules;
      len_is = search rules;
    }
