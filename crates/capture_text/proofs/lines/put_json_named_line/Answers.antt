use Rattle.std.proofs.Common.{append_assoc}
use Rattle.capture_text.proofs.lines.put_json_named_line.Goals as goal

pub returns : goal.returns
returns g c = λ start text has.
    let put = c.put_json_payload.ensures start _
    (c.put_json_named.ensures start _ (c.put_json_numbers.ensures start text has)) in
    simp append_assoc (simp append_assoc at put)
