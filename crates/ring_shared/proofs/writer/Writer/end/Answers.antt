use Rattle.std.proofs.Common.{refl, sym, subst}
use Rattle.trace_model.specs.Steps.{ends}
use Rattle.ring_frames.specs.Answers.{top_bytes}
use Rattle.ring_shared.specs.Calls.{IsWriter}
use Rattle.ring_shared.proofs.Privately.{end_leads, seen_call}
use Rattle.ring_shared.proofs.Rooms.{end_rooms, end_refused_rooms}
use Rattle.ring_shared.proofs.CallSteps.{one_step}
use Rattle.ring_shared.proofs.writer.Writer.end.Goals as goal

pub note-requires : goal.note-requires
unfolding IsWriter
note-requires c = record { due = end_leads _ (subst IsWriter (sym c.self.view_is) c.requires.writer) }

pub returns-clause-makes : goal.returns-clause-makes
unfolding IsWriter
returns-clause-makes c =
    seen_call _ _ (λ x. ends (top_bytes x.frames.stack x.frames.stack.frames)) c.end.result _ c.self.view_is
    c.requires.writer c.note.ensures.same.shape c.note.ensures.same.table c.note.ensures.noted refl
    c.end.ensures.step

pub returns-clause-rooms : goal.returns-clause-rooms
unfolding IsWriter
returns-clause-rooms c pending = end_rooms _ _ c.end.result _ _ (returns-clause-makes c).call pending

pub returns-clause-refused : goal.returns-clause-refused
unfolding IsWriter
returns-clause-refused c fault refused =
    end_refused_rooms _ _ c.end.result _ _ (returns-clause-makes c).call fault refused

pub returns-clause-few : goal.returns-clause-few
unfolding IsWriter
returns-clause-few c = one_step _ _ _ _ _ (returns-clause-makes c).call

pub returns-clause-ring : goal.returns-clause-ring
unfolding IsWriter
returns-clause-ring c = ((returns-clause-makes c).shape_is, (returns-clause-makes c).table_is)

pub returns-clause-writer : goal.returns-clause-writer
unfolding IsWriter
returns-clause-writer c = (returns-clause-makes c).writer
