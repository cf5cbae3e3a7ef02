use Rattle.std.proofs.Common.{sym, arith}
use Rattle.std.proofs.lemmas.List.{length-take-le, take_all}
use Rattle.kernel_names.proofs.calls.first_bytes.Goals as goal

pub slice_bounds-result-end : goal.slice_bounds-result-end
slice_bounds-result-end c =
    sym (length-take-le 256 c.args.text.now (omega (arith, c.if-text-gt-MOST_BYTES.true)))

pub returns-then-text-gt-MOST_BYTES-clause-len : goal.returns-then-text-gt-MOST_BYTES-clause-len
returns-then-text-gt-MOST_BYTES-clause-len c =
    let e = length-take-le 256 c.args.text.now (omega (arith, c.if-text-gt-MOST_BYTES.true)) in
    omega (arith, e, c.if-text-gt-MOST_BYTES.true)

pub returns-clause-bytes : goal.returns-clause-bytes
returns-clause-bytes c = sym (take_all 256 c.args.text.now (omega (arith, c.if-text-gt-MOST_BYTES.false)))
