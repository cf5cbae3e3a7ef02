use Rattle.std.proofs.Common.{sym}
use Rattle.text_values.proofs.Chains.{put_then, put_same}
use Rattle.capture_text.proofs.Texts.{name_more}
use Rattle.capture_text.proofs.quoting.put_name.Goals as goal

pub returns-then-is_shown : goal.returns-then-is_shown
returns-then-is_shown g c =
    put_same _ _ (sym (c.is_shown.ensures.0 c.if-is_shown.true)) c.put.ensures

pub loop-byte-preserved : goal.loop-byte-preserved
loop-byte-preserved g c =
    put_same _ _ (name_more c.args.name.now c.loop-byte.byte-index _ c.loop-byte-test.true c.shown_byte.ensures)
    (put_then _ _ c.loop-byte.invariant c.put-in-loop-byte.ensures)
