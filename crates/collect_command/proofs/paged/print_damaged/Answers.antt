use Rattle.std.proofs.Common.{[], ◌∷◌, ap, ◌∙◌, ℕ}
use Rattle.capture.specs.Pages.{damages_from}
use Rattle.capture.specs.files.Captures.{measured}
use Rattle.capture_text.specs.Listed.{listed_damages}
use Rattle.capture_text.specs.Printed.{bounds_of}
use Rattle.collect_command.specs.Paged.{RawFile, part_of}
use Rattle.collect_command.proofs.PagedPrints.{put_each, put_all, own_damaged}
use Rattle.text_values.proofs.Chains.{put_none}
use Rattle.collect_command.proofs.paged.print_damaged.Goals as goal

pub loop-source-init : goal.loop-source-init
loop-source-init g c = λ raws are. put_none c.args.out.now

pub loop-source-preserved : goal.loop-source-preserved
loop-source-preserved g c = λ raws are.
    let printer = c.args.printer.now in
    let size = c.args.size in
    let source = c.source-item.result in
    put_each
    (λ (raw : RawFile). listed_damages printer.form (bounds_of printer raw.cpu) (measured (part_of size raw) ∷ [])
    raw.cpu (damages_from 0 0 raw.pages))
    c.args.sources.now raws c.loop-source.source-index source are c.loop-source-test.true c.source-item.is
    (c.loop-source.invariant raws are)
    (λ raw is. own_damaged printer.form (bounds_of printer) size source c.tally-tally.result.now c.deref.result.now _
    raw c.tally-tally.ensures.tally c.deref.ensures.value
    (ap (λ (n : ℕ). record { size = size; length = n }) (c.taken.ensures.taken ∙ is.count_is))
    is c.put_damaged_pages.ensures)

pub returns : goal.returns
returns g c raws are =
    let printer = c.args.printer.now in
    let size = c.args.size in
    put_all
    (λ (raw : RawFile). listed_damages printer.form (bounds_of printer raw.cpu) (measured (part_of size raw) ∷ [])
    raw.cpu (damages_from 0 0 raw.pages))
    c.args.sources.now raws c.loop-source.source-index are c.loop-source-test.false (c.loop-source.invariant raws are)
