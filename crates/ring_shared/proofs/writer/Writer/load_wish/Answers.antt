use Rattle.std.proofs.Common.{refl, ap}
use Rattle.trace_model.specs.Frames.{wishing}
use Rattle.ring_shared.specs.Value.{WriterValue}
use Rattle.ring_shared.specs.Calls.{IsWriter}
use Rattle.ring_shared.specs.contracts.writer.Writer.{the_view}
use Rattle.ring_shared.proofs.Standing.{phase_shown}
use Rattle.ring_shared.proofs.Called.{writer_seen, top_seen, phase_seen}
use Rattle.ring_shared.proofs.PageMoves.{looks_called}
use Rattle.ring_frames.specs.Value.{phase_of}
use Rattle.ring_frames.specs.Phases.{as_answer}
use Rattle.ring_shared.proofs.Nearing.{stays_near}
use Rattle.ring_shared.proofs.writer.Writer.load_wish.Goals as goal

pub load_wish-wish-requires : goal.load_wish-wish-requires
unfolding IsWriter
load_wish-wish-requires c =
    let v : WriterValue = the_view c.self.inside in
    let at =
    phase_shown v (writer_seen c.self.view_is c.requires.framed.writer) wishing
    (top_seen c.self.view_is c.requires.framed.top)
    (phase_seen c.self.view_is c.requires.phase) in record { phase = at }

pub returns-clause-makes : goal.returns-clause-makes
unfolding IsWriter
returns-clause-makes c =
    let (answer, step) = c.load_wish-wish.ensures.step in
    looks_called c.self.view_is c.requires.framed.writer c.requires.framed.top c.load_wish-wish.ensures.same.shape
    c.load_wish-wish.ensures.same.table _ c.load_wish-wish.result (as_answer c.load_wish.result) answer
    c.load_wish.ensures.looks refl step (λ is. is)

pub returns-clause-nearer : goal.returns-clause-nearer
unfolding IsWriter
returns-clause-nearer c =
    stays_near c.self.view_is c.requires.framed.writer c.requires.framed.top (wishing) (ap phase_of c.requires.phase)
    (returns-clause-makes c) c.load_wish-wish.ensures.same.knows tt
