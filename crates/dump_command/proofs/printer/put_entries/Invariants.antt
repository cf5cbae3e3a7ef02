use Rattle.std.proofs.Common.{◌≡◌, ◌++◌, flat_map, map}
use Rattle.text_model.specs.Printing.{printed_image_record}
use Rattle.page_borrow.specs.Entries.{numbered_record}
use Rattle.dump_command.proofs.printer.put_entries.Given as goal

abbrev pub invariant-loop-entry : goal.invariant-loop-entry
invariant-loop-entry l =
    l.out.items ≡ l.initial.out.items ++ flat_map (λ pair. printed_image_record pair.1) (map numbered_record l.yielded)
