use Rattle.std.proofs.Common.{append_assoc}
use Rattle.capture_text.proofs.losses.put_text_run.Goals as goal

pub returns : goal.returns
returns g c = λ start text has.
    let front = c.put_number.ensures start _ (c.put_between.ensures start text has) in
    let put = c.put_between-2.ensures start _ front in
    simp append_assoc (simp append_assoc at put)
