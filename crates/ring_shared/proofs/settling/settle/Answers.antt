use Rattle.std.proofs.Common.{Bool, sym, ap, ◌∙◌}
use Rattle.ring_steps.specs.Seats.{without_slot}
use Rattle.ring_shared.proofs.Settles.{ends_settle}
use Rattle.ring_shared.specs.Value.{WriterValue, ReaderValue}
use Rattle.ring_shared.specs.Calls.{IsWriter}
use Rattle.ring_shared.proofs.settling.settle.Goals as goal

pub returns-clause-ends : goal.returns-clause-ends
returns-clause-ends c = record {
  writing_is = c.settle-seats.ensures.writing ∙ ap (λ (w : WriterValue). w.part) c.writer.view_is;
  reading_is =
      c.settle-seats.ensures.reading ∙ ap (λ (r : ReaderValue). without_slot r.part) c.reader.view_is
      ∙ ap (λ (keeps : Bool). record c.args.reader.part { keeps_spare = keeps })
      (sym (c.requires.reader.empty c.args.writer.part.done c.requires.all_read).no_spare);
}

pub returns-clause-settled : goal.returns-clause-settled
unfolding IsWriter
returns-clause-settled c =
    ends_settle c.args.writer c.args.reader c.into_tail.result c.settle-seats.result c.requires.writer c.requires.reader
    c.requires.at_rest
    c.requires.all_read _ _ c.writer.view_is c.reader.view_is c.settle-seats.ensures.parts c.into_tail.ensures.written
