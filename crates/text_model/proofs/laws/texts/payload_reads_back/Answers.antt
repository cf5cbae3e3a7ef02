use Rattle.std.proofs.Common.{◌<◌}
use Rattle.std.proofs.lemmas.List.Elements.{recursion_from_All}
use Rattle.text_model.proofs.TextLemmas.{payload_in-hex_text}
use Rattle.text_model.proofs.laws.texts.payload_reads_back.Goals as goal

pub returns : goal.returns
returns c bytes each = payload_in-hex_text bytes (recursion_from_All (λ byte. byte < 256) bytes each)
