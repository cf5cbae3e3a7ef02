use Rattle.std.proofs.Common.{ap, ◌∙◌, subst}
use Rattle.ring_shared.specs.Value.{WriterValue}
use Rattle.ring_shared.specs.FewSteps.{MakesAtMost, most_to_write}
use Rattle.ring_shared.specs.Rooms.{rooms, rooms_of}
use Rattle.ring_shared.proofs.Rooms.{write_rooms}
use Rattle.ring_shared.proofs.CallSteps.{written_few, write_few}
use Rattle.ring_shared.proofs.writer.Writer.write.Goals as goal

pub returns-in-Record-clause-rooms : goal.returns-in-Record-clause-rooms
returns-in-Record-clause-rooms c = ap rooms_of (c.write_at_once.ensures.written c.in-Record.is).frames

pub returns-in-Nothing-clause-rooms : goal.returns-in-Nothing-clause-rooms
returns-in-Nothing-clause-rooms c =
    let v : WriterValue = c.write_at_once.new.self in
    write_rooms v.shape v.part c.write_rarely.new.self.part c.args.moment c.args.payload.now c.write_rarely.result
    c.write_rarely.ensures.written c.write_rarely.ensures.refused
    ∙ ap rooms (c.write_at_once.ensures.nothing c.in-Nothing.is)

pub returns-in-Record-clause-few : goal.returns-in-Record-clause-few
returns-in-Record-clause-few c = written_few _ _ _ _ _ (c.write_at_once.ensures.written c.in-Record.is)

pub returns-in-Nothing-clause-few : goal.returns-in-Nothing-clause-few
returns-in-Nothing-clause-few c =
    let v : WriterValue = c.write_at_once.new.self in
    let new : WriterValue = c.write_rarely.new.self in
    subst (λ (x : WriterValue). MakesAtMost (most_to_write x.shape) x.part new.part)
    (c.write_at_once.ensures.nothing c.in-Nothing.is)
    (write_few v.shape v.part new.part c.args.moment c.args.payload.now c.write_rarely.result
    c.write_rarely.ensures.written c.write_rarely.ensures.refused)
