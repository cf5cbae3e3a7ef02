use Rattle.std.proofs.Common.{append_assoc}
use Rattle.fleet_text.proofs.piece.put_json_mark.Goals as goal

pub returns : goal.returns
returns g c = λ start text has.
    let put0 = c.put_json_cpu.ensures start text has in
    let put1 = c.put.ensures start _ put0 in
    let put2 = rw c.mark_name.ensures at (c.put-2.ensures start _ put1) in
    let put3 = c.put-3.ensures start _ put2 in
    let put = c.put_json_mark_numbers.ensures start _ put3 in
    simp append_assoc (simp append_assoc at put)
