use Rattle.std.proofs.Common.{inr}
use Rattle.std.proofs.lemmas.Result.{err_from_is_err_and}
use Rattle.record_words.proofs.WordReads.{from_no_number}
use Rattle.record_words.proofs.next.time_at.Goals as goal

pub returns-in_err-high-clause-fault : goal.returns-in_err-high-clause-fault
returns-in_err-high-clause-fault c = let p = err_from_is_err_and c.from_residual.result c.from_residual.ensures.1 in
    rw (p.1, p.2)
    (from_no_number c.args.data.now c.args.at _ c.requires.head (inr c.requires.high) c.in_err-high.ensures.fault
    c.in_err-high.ensures.head.1)
