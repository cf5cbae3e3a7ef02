use Rattle.std.proofs.Common.{List, length, ap, arith}
use Rattle.trace_script.proofs.KeptLemmas.{line_within}
use Rattle.trace_script.proofs.lent.bytes_of.Goals as goal

pub part_of-requires-clause-order : goal.part_of-requires-clause-order
part_of-requires-clause-order c =
    let within =
    line_within 0 0 (length c.args.payloads.now.items) c.args.lines.now c.args.index c.args.line
    c.requires.kept c.requires.at in
    omega (arith, within.0, c.start.ensures)

pub part_of-requires-clause-within : goal.part_of-requires-clause-within
part_of-requires-clause-within c =
    let within =
    line_within 0 0 (length c.args.payloads.now.items) c.args.lines.now c.args.index c.args.line
    c.requires.kept c.requires.at in
    omega (arith, within.1, ap (λ (bs : List _). length bs) c.as_slice.ensures.value)
