use Rattle.std.proofs.Common.{append_assoc}
use Rattle.fleet_text.proofs.piece.put_parcel.Goals as goal

pub returns : goal.returns
returns g c = λ start text has.
    let put0 = c.put.ensures start text has in
    let put1 = rw c.cpu.ensures.cpu at (c.put_cpu.ensures start _ put0) in
    let put2 = rw c.fill.ensures at (c.put_numbered.ensures start _ put1) in
    let put3 = rw c.first.ensures.first at (c.put_numbered-2.ensures start _ put2) in
    let put4 = rw c.count.ensures at (c.put_numbered-3.ensures start _ put3) in
    let put = rw c.missed.ensures.missed at (c.put_numbered-4.ensures start _ put4) in
    simp append_assoc (simp append_assoc at put)
