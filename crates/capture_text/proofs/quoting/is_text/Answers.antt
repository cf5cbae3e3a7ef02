use Rattle.std.proofs.Common.{◌∙◌}
use Rattle.capture_text.proofs.Texts.{is_text_of}
use Rattle.capture_text.proofs.quoting.is_text.Goals as goal

pub returns : goal.returns
returns c = c.is_ok.ensures.value ∙ is_text_of c.args.bytes.now c.from_utf8.result _ _ c.from_utf8.ensures.cases
