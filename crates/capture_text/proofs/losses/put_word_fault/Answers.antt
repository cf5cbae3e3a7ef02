use Rattle.std.proofs.Common.{sym, ap}
use Rattle.dump_command.specs.ImageFaults.{word_fault_text}
use Rattle.text_values.proofs.Chains.{put_same}
use Rattle.capture_text.proofs.losses.put_word_fault.Goals as goal

pub returns-in-Cut : goal.returns-in-Cut
returns-in-Cut g c =
    put_same _ _ (ap word_fault_text (sym c.in-Cut.is)) c.put_cause.ensures

pub returns-in-BadLength : goal.returns-in-BadLength
returns-in-BadLength g c =
    put_same _ _ (ap word_fault_text (sym c.in-BadLength.is)) c.put_cause-in-BadLength.ensures

pub returns-in-TimeOverflow : goal.returns-in-TimeOverflow
returns-in-TimeOverflow g c =
    put_same _ _ (ap word_fault_text (sym c.in-TimeOverflow.is)) c.put_cause-in-TimeOverflow.ensures
