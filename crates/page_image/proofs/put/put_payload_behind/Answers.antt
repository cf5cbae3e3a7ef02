use Rattle.std.proofs.Common.{◌≡◌, length, arith, rules}
use Rattle.trace_model.specs.Words.{encoding, encoded_len, padded}
use Rattle.trace_model.proofs.words.Lengths.{length-encoding, length-padded}
use Rattle.page_image.proofs.Behind.{take-put_behind}
use Rattle.page_image.proofs.put.put_payload_behind.Goals as goal

pub returns : goal.returns
returns c =
    let size : length (encoding c.args.delta c.args.first (padded c.args.payload.now))
    ≡ encoded_len (length c.args.payload.now) c.args.delta c.args.first =
    length-encoding (length c.args.payload.now) c.args.delta c.args.first _ (length-padded _) in
    record {
      bytes =
          take-put_behind c.args.body.now c.put_payload-size.new.out _ _ c.args.end _ _ (omega arith) (omega arith)
          c.put_payload-size.ensures.put;
      ends_at = search rules;
      len_is = search rules;
    }
