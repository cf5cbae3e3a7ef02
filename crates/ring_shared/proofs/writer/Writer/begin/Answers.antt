use Rattle.std.proofs.Common.{refl}
use Rattle.trace_model.specs.Steps.{pushes}
use Rattle.ring_steps.specs.Ends.{writing_in}
use Rattle.ring_steps.proofs.PartAfter.{push_leads}
use Rattle.ring_shared.proofs.Privately.{seen_call}
use Rattle.ring_shared.proofs.Rooms.{push_rooms, push_refused_rooms}
use Rattle.ring_shared.specs.Calls.{IsWriter}
use Rattle.ring_shared.proofs.CallSteps.{one_step}
use Rattle.ring_shared.proofs.writer.Writer.begin.Goals as goal

pub note-requires : goal.note-requires
note-requires c =
    record { due = push_leads c.self.inside.seat.shape (writing_in c.self.inside.seat) c.args.moment c.args.len }

pub returns-clause-makes : goal.returns-clause-makes
unfolding IsWriter
returns-clause-makes c =
    seen_call _ _ (λ _. pushes c.args.moment c.args.len) c.push.result _ c.self.view_is c.requires.writer
    c.note.ensures.same.shape c.note.ensures.same.table c.note.ensures.noted refl c.push.ensures.step

pub returns-clause-room : goal.returns-clause-room
unfolding IsWriter
returns-clause-room c pushed =
    push_rooms _ _ c.push.result _ c.args.moment c.args.len (returns-clause-makes c).call pushed

pub returns-clause-refused : goal.returns-clause-refused
unfolding IsWriter
returns-clause-refused c fault refused =
    push_refused_rooms _ _ c.push.result _ c.args.moment c.args.len (returns-clause-makes c).call fault refused

pub returns-clause-few : goal.returns-clause-few
unfolding IsWriter
returns-clause-few c = one_step _ _ _ _ _ (returns-clause-makes c).call

pub returns-clause-ring : goal.returns-clause-ring
unfolding IsWriter
returns-clause-ring c = ((returns-clause-makes c).shape_is, (returns-clause-makes c).table_is)

pub returns-clause-writer : goal.returns-clause-writer
unfolding IsWriter
returns-clause-writer c = (returns-clause-makes c).writer
