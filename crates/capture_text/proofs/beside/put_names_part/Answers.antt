use Rattle.std.proofs.Common.{sym, ap, ◌∙◌}
use Rattle.text_values.proofs.Chains.{put_then, put_same}
use Rattle.capture_text.specs.Beside.{names_part}
use Rattle.capture_text.proofs.NumberNames.{found_part}
use Rattle.capture_text.proofs.beside.put_names_part.Goals as goal

pub returns-in-Some : goal.returns-in-Some
returns-in-Some g c =
    put_same _ _ (sym (ap names_part c.in-Some.ensures ∙ found_part c.in-Some.found))
    (put_then _ _ c.put.ensures c.put_names.ensures)
