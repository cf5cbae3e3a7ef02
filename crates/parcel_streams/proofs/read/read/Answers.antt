use Rattle.std.proofs.Common.{arith}
use Rattle.std.proofs.lemmas.Result.{err_from_is_err_and}
use Rattle.parcel_streams.proofs.Readings.{begins_framed, len_framed, fault_framed}
use Rattle.parcel_streams.proofs.read.read.Goals as goal

pub returns-in_err-piece-clause-fault : goal.returns-in_err-piece-clause-fault
returns-in_err-piece-clause-fault c =
    let p = err_from_is_err_and c.from_residual-in_err-piece.result c.from_residual-in_err-piece.ensures.1 in
    rw (p.1, p.2) (fault_framed c.args.bytes.now c.in_ok-frame.frame c.in_err-piece.field-0.0
    (λ i. omega (arith, c.type_inv.bytes i)) c.in_ok-frame.ensures.frame c.in_err-piece.ensures.fault)

pub returns-clause-piece : goal.returns-clause-piece
returns-clause-piece c =
    begins_framed c.args.bytes.now c.in_ok-frame.frame c.in_ok-piece.piece (λ i. omega (arith, c.type_inv.bytes i))
    c.in_ok-frame.ensures.frame c.in_ok-piece.ensures.piece

pub returns-clause-len : goal.returns-clause-len
returns-clause-len c =
    len_framed c.args.bytes.now c.in_ok-frame.frame c.in_ok-piece.piece c.in_ok-frame.ensures.frame
    c.in_ok-piece.ensures.piece
