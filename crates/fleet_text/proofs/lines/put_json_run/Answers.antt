use Rattle.std.proofs.Common.{append_assoc}
use Rattle.fleet_text.proofs.lines.put_json_run.Goals as goal

pub returns : goal.returns
returns g c = λ start text has.
    let put0 = c.put.ensures start text has in
    let put1 = c.put_json_cpu.ensures start _ put0 in
    let put2 = c.put-2.ensures start _ put1 in
    let put3 = c.put-3.ensures start _ put2 in
    let put4 = c.put_numbered.ensures start _ put3 in
    let put5 = c.put_numbered-2.ensures start _ put4 in
    let put = c.put-4.ensures start _ put5 in
    simp append_assoc (simp append_assoc at put)
