use Rattle.std.proofs.Common.{◌++◌, List, ℕ, length, ap, ◌∙◌, arith}
use Rattle.trace_model.specs.Image.{le64}
use Rattle.parcel_streams.specs.Pieces.{kind_of_mark, numbers_of_mark}
use Rattle.parcel_streams.proofs.Marks.{kind_least, kind_most, length-mark, mark_most}
use Rattle.parcel_streams.proofs.pack.pack_mark.Goals as goal

pub seal-requires-clause-limit : goal.seal-requires-clause-limit
seal-requires-clause-limit c =
    let mark = c.args.mark in
    let one = c.in_ok-put_number.ensures ∙ ap (λ (b : List ℕ). b ++ le64 c.from.result) c.in_ok-body.ensures.items in
    let both = c.deref.ensures.value ∙ c.in_ok-put_mark.ensures
    ∙ ap (λ (b : List ℕ). b ++ numbers_of_mark mark) one in
    let most = mark_most (kind_of_mark mark) (kind_least mark) (kind_most mark) in
    omega (arith, ap length both, length-mark c.from.result mark)
