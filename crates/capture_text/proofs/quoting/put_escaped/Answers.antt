use Rattle.text_values.proofs.Chains.{put_same}
use Rattle.capture_text.proofs.Texts.{ascii_escaped, high_escaped}
use Rattle.capture_text.proofs.quoting.put_escaped.Goals as goal

pub returns-then-byte-lt128 : goal.returns-then-byte-lt128
returns-then-byte-lt128 g c =
    put_same _ _ (ascii_escaped c.args.is_text c.args.byte c.if-byte-lt128.true) c.put_escaped_ascii.ensures

pub returns-then-is_text : goal.returns-then-is_text
returns-then-is_text g c =
    put_same _ _ (high_escaped _ _ c.args.byte c.if-byte-lt128.false c.if-is_text.true) c.put.ensures

pub returns-else-is_text : goal.returns-else-is_text
returns-else-is_text g c =
    put_same _ _ (high_escaped _ _ c.args.byte c.if-byte-lt128.false c.if-is_text.false) c.put-else-is_text.ensures
