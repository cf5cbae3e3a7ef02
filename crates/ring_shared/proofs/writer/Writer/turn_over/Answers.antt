use Rattle.ring_shared.specs.Value.{WriterValue}
use Rattle.ring_shared.proofs.Turning.{turned_on}
use Rattle.ring_shared.proofs.writer.Writer.turn_over.Goals as goal

pub returns : goal.returns
returns c =
    let old : WriterValue = c.args.self.now in
    let one : WriterValue = c.load_link_if_due.new.self in
    let two : WriterValue = c.claim_head_if_due.new.self in
    let three : WriterValue = c.load_next_if_due.new.self in
    let four : WriterValue = c.mark_head_if_due.new.self in
    let five : WriterValue = c.clear_update_if_due.new.self in
    let new : WriterValue = c.open_fill_if_due.new.self in
    turned_on old one new c.load_link_if_due.ensures
    (turned_on one two new c.claim_head_if_due.ensures
    (turned_on two three new c.load_next_if_due.ensures
    (turned_on three four new c.mark_head_if_due.ensures
    (turned_on four five new c.clear_update_if_due.ensures c.open_fill_if_due.ensures))))
