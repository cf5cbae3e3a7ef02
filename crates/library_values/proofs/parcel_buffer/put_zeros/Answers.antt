use Rattle.std.proofs.Common.{arith}
use Rattle.std.proofs.lemmas.Slice.{drop-put_mid}
use Rattle.library_values.proofs.parcel_buffer.put_zeros.Goals as goal

pub returns-clause-behind : goal.returns-clause-behind
returns-clause-behind c =
    let len = c.fill.ensures.len in
    let order = c.requires.order in
    let end = c.requires.end in
    drop-put_mid _ _ c.args.out.now c.fill.new.self _ (omega arith) (omega arith) (omega arith)
