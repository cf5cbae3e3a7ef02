use Rattle.text_values.proofs.Chains.{put_then, put_same}
use Rattle.std.proofs.Common.{[], ◌∷◌, ◌++◌}
use Rattle.std.specs.Prelude.{codes}
use Rattle.text_values.specs.Digits.{pairs_of}
use Rattle.capture_text.proofs.Pieces.{two_last}
use Rattle.capture_text.proofs.lines.put_json_payload.Goals as goal

pub returns : goal.returns
returns g c =
    put_same _ _ (two_last (codes ",\"data\":\"" ++ pairs_of c.args.bytes.now) (codes "\"}") (10 ∷ []))
    (put_then _ _ (put_then _ _ c.put.ensures c.put_hex.ensures) c.put-2.ensures)
