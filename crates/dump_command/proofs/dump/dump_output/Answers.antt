use Rattle.std.proofs.Common.{inr}
use Rattle.dump_command.proofs.ImageFaultLemmas.{first_fault_is_printed}
use Rattle.dump_command.proofs.dump.dump_output.Goals as goal

pub returns-in_ok-print_image_fault-in-Err : goal.returns-in_ok-print_image_fault-in-Err
returns-in_ok-print_image_fault-in-Err c =
    let read = c.read_image.ensures in
    inr (first_fault_is_printed c.args.text.now c.read_image.result c.in-Err.fault
    c.in_ok-print_image_fault-in-Err.field-0.items
    (record {
      short = read.is_too_short;
      size = read.has_bad_size;
      count = read.has_bad_count;
      word = read.has_bad_word;
    }) c.in-Err.is c.in_ok-print_image_fault-in-Err.ensures.no_memory
    c.in_ok-print_image_fault-in-Err.ensures.text)
