use Rattle.std.proofs.Common.{codes, refl}
use Rattle.dump_command.proofs.ImageFaultLemmas.{overflow_text}
use Rattle.dump_command.proofs.printer.put_word_fault.Goals as goal

pub returns-in_ok-put_with_offset-in-TimeOverflow : goal.returns-in_ok-put_with_offset-in-TimeOverflow
returns-in_ok-put_with_offset-in-TimeOverflow c =
    overflow_text c.args.fault c.in-TimeOverflow.at (codes "TimeOverflow") c.args.out.now.items
    c.put_with_offset-in-TimeOverflow.new.out.items c.in-TimeOverflow.is refl
    c.in_ok-put_with_offset-in-TimeOverflow.ensures
