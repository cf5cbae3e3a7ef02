use Rattle.capture.specs.Pages.{unknown_from}
use Rattle.capture_text.specs.Listed.{listed_losses}
use Rattle.capture_text.specs.Printed.{bounds_of}
use Rattle.collect_command.specs.Paged.{RawFile}
use Rattle.collect_command.proofs.PagedPrints.{put_each, put_all, own_unknown}
use Rattle.text_values.proofs.Chains.{put_none}
use Rattle.collect_command.proofs.paged.print_unknown.Goals as goal

pub loop-source-init : goal.loop-source-init
loop-source-init g c = λ raws are. put_none c.args.out.now

pub loop-source-preserved : goal.loop-source-preserved
loop-source-preserved g c = λ raws are.
    let printer = c.args.printer.now in
    let source = c.source-item.result in
    put_each
    (λ (raw : RawFile). listed_losses printer.form (bounds_of printer raw.cpu) raw.cpu (unknown_from 0 raw.pages))
    c.args.sources.now raws c.loop-source.source-index source are c.loop-source-test.true c.source-item.is
    (c.loop-source.invariant raws are)
    (λ raw is. own_unknown printer.form (bounds_of printer) source c.tally-tally.result.now c.deref.result.now raw
    c.tally-tally.ensures.tally c.deref.ensures.value is c.put_unknown_at.ensures)

pub returns : goal.returns
returns g c raws are =
    let printer = c.args.printer.now in
    put_all
    (λ (raw : RawFile). listed_losses printer.form (bounds_of printer raw.cpu) raw.cpu (unknown_from 0 raw.pages))
    c.args.sources.now raws c.loop-source.source-index are c.loop-source-test.false (c.loop-source.invariant raws are)
