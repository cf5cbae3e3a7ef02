use Rattle.std.proofs.Common.{append_assoc}
use Rattle.fleet_text.proofs.listed.Listed.put.Goals as goal

pub returns : goal.returns
returns g c = λ start text has.
    let put0 = rw c.deref.ensures.value at (c.put_lines.ensures start text has) in
    let put1 = rw c.deref-2.ensures.value at (c.put_runs_of.ensures start _ put0) in
    let put2 = rw c.deref-3.ensures.value at (c.put_runs_of-2.ensures start _ put1) in
    let put3 = rw c.deref-4.ensures.value at (c.put_runs_of-3.ensures start _ put2) in
    let put = rw c.deref-5.ensures.value at (c.put_runs_of-4.ensures start _ put3) in
    simp append_assoc (simp append_assoc at put)
