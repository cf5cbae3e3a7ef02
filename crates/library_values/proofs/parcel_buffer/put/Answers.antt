use Rattle.std.proofs.Common.{arith}
use Rattle.std.proofs.lemmas.Slice.{drop-put_mid}
use Rattle.library_values.proofs.parcel_buffer.put.Goals as goal

pub returns-clause-behind : goal.returns-clause-behind
returns-clause-behind c =
    let len = c.copy_from_slice.ensures.len in
    let after = c.copy_from_slice.ensures.after in
    let fits = c.requires in
    drop-put_mid _ _ c.args.out.now c.copy_from_slice.new.self _ (omega arith) (omega arith) (omega arith)
