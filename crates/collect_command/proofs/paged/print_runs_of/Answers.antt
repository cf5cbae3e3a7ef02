use Rattle.capture_text.specs.Listed.{listed_run}
use Rattle.capture_text.specs.Printed.{bounds_of}
use Rattle.collect_command.proofs.PagedPrints.{put_last, put_no_last}
use Rattle.collect_command.proofs.paged.print_runs_of.Goals as goal

pub returns-then-from-next : goal.returns-then-from-next
returns-then-from-next g c pages is =
    let printer = c.args.printer.now in
    let cpu = c.args.tally.now.cpu.0 in
    put_last (listed_run printer.form (bounds_of printer cpu) cpu) c.args.tally.now pages
    c.deref-first-items.result.now c.loop-first.first-index is c.deref-first-items.ensures.value
    c.loop-first-test.false c.if-from-next.true c.loop-first.invariant c.put_run-then-from-next.ensures

pub returns-else-from-next : goal.returns-else-from-next
returns-else-from-next g c pages is =
    let printer = c.args.printer.now in
    let cpu = c.args.tally.now.cpu.0 in
    put_no_last (listed_run printer.form (bounds_of printer cpu) cpu) c.args.tally.now pages
    c.deref-first-items.result.now c.loop-first.first-index is c.deref-first-items.ensures.value
    c.loop-first-test.false c.if-from-next.false c.loop-first.invariant
