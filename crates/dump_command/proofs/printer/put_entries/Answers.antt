use Rattle.std.proofs.Common.{◌++◌, ◌∙◌, ap, ℕ, List, flat_map}
use Rattle.std.proofs.lemmas.Iterator.Consumers.{YieldsList-from_first, YieldsList-end}
use Rattle.trace_model.specs.Record.{Record}
use Rattle.text_model.specs.Printing.{printed_image_record}
use Rattle.page_image.specs.Contents.{records_of_page}
use Rattle.page_borrow.specs.Entries.{numbered_record, entries_of}
use Rattle.dump_command.proofs.Lines.{lines_without_numbers}
use Rattle.dump_command.proofs.printer.put_entries.Goals as goal

pub returns : goal.returns
returns c =
    let page = c.args.page.now in
    let all =
    YieldsList-end
    (YieldsList-from_first numbered_record (λ left. left) (entries_of page)
    (c.into_iter-entry-iterator.ensures.into_iter_gives
    ∙ c.records-entry-items.ensures.records c.requires.reads)) c.loop-entry.yielded _ c.loop-entry.yielded_by
    _ _ c.in-None.is c.next.ensures.steps in
    c.loop-entry.invariant
    ∙ ap (λ (pairs : List (ℕ × Record)). c.args.out.now.items ++ flat_map (λ pair. printed_image_record pair.1) pairs)
    all.0
    ∙ ap (λ (text : List ℕ). c.args.out.now.items ++ text)
    (lines_without_numbers printed_image_record page.first (records_of_page page))
