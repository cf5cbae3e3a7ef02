use Rattle.std.proofs.Common.{ap}
use Rattle.std.specs.Fmt.{decimal}
use Rattle.text_values.proofs.Chains.{put_then, put_same}
use Rattle.capture_text.proofs.lines.put_json_numbers.Goals as goal

pub returns : goal.returns
returns g c =
    let cpu = put_then _ _ c.put.ensures (put_same _ _ (ap decimal c.from.ensures) c.put_number.ensures) in
    let number = put_then _ _ (put_then _ _ cpu c.put-2.ensures) c.put_number-2.ensures in
    put_then _ _ (put_then _ _ number c.put-3.ensures) c.put_number-3.ensures
