use Rattle.std.proofs.Common.{◌∙◌, ap, sym}
use Rattle.std.proofs.lemmas.List.{drop-drop}
use Rattle.trace_model.specs.Reading.{from_le32}
use Rattle.record_words.proofs.next.number_behind.Goals as goal

pub returns-clause-number : goal.returns-clause-number
returns-clause-number c = c.number_at.ensures ∙ sym (ap from_le32 (drop-drop 4 c.args.at c.args.data.now))
