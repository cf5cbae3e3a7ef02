use Rattle.std.proofs.Common.{append_assoc}
use Rattle.fleet_text.proofs.piece.put_piece.Goals as goal

pub returns-in-Json : goal.returns-in-Json
returns-in-Json g c = λ start text has.
    let put0 = c.put-in-Json.ensures start text has in
    let put1 = c.put_json_place.ensures start _ put0 in
    let put2 = c.put-in-Json-2.ensures start _ put1 in
    let put3 = c.put_json.ensures start _ put2 in
    let put = c.put-in-Json-3.ensures start _ put3 in
    rw c.in-Json.is (simp append_assoc (simp append_assoc at put))
