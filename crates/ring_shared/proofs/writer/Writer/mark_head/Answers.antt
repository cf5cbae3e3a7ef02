use Rattle.std.proofs.Common.{◌≡◌, ◌+◌, ◌≤◌, [], refl, sym, ap, ◌∙◌, subst}
use Rattle.trace_model.specs.declared.limits.TheConstants.{MAX_PAGES}
use Rattle.trace_model.specs.Frames.{Phase as ModelPhase, marking, noted_fill}
use Rattle.trace_model.specs.Steps as model
use Rattle.trace_model.specs.Steps.{MayContinue}
use Rattle.ring_steps.specs.Views.{Writing, writing_of}
use Rattle.ring_frames.specs.declared.phase.Phase.{Phase}
use Rattle.ring_frames.specs.Phases.{as_answer}
use Rattle.ring_frames.specs.Value.{phase_of, role_of}
use Rattle.ring_shared.specs.Value.{WriterValue}
use Rattle.ring_shared.specs.Calls.{IsWriter}
use Rattle.ring_shared.specs.contracts.writer.Writer.{the_view}
use Rattle.ring_shared.proofs.Standing.{phase_shown}
use Rattle.ring_shared.proofs.Called.{writer_seen, top_seen, phase_seen}
use Rattle.ring_shared.proofs.Bounds.{opened_now, fits}
use Rattle.ring_shared.proofs.GoingOn.{goes_on_called}
use Rattle.ring_steps.proofs.Linking.{marks_at_next}
use Rattle.ring_steps.proofs.LinkMoves.{noted_after, marked}
use Rattle.ring_shared.proofs.Nearing.{stays_near}
use Rattle.ring_shared.proofs.writer.Writer.mark_head.Goals as goal

pub mark_head-marked-requires-clause-phase : goal.mark_head-marked-requires-clause-phase
unfolding IsWriter
mark_head-marked-requires-clause-phase c =
    let v : WriterValue = the_view c.self.inside in
    let w : IsWriter v = writer_seen c.self.view_is c.requires.framed.writer in
    let some = top_seen c.self.view_is c.requires.framed.top in
    let at : phase_of v.frames.phase ≡ marking (role_of c.args.role) c.args.noted c.args.page c.args.next =
    phase_seen c.self.view_is c.requires.phase in
    let fill =
    subst (λ (y : WriterValue). c.after_lost-after_lost.result + y.shape.pages ≡ c.args.noted + 1)
    (sym c.self.view_is) c.after_lost-after_lost.ensures.fill in
    marks_at_next v.shape.pages v.part (role_of c.args.role) c.args.noted c.args.page c.args.next
    c.after_lost-after_lost.result
    (phase_shown v w (marking (role_of c.args.role) c.args.noted c.args.page c.args.next) some at)
    (subst (MayContinue (role_of c.args.role) c.args.noted) (opened_now v w) (c.stops.ensures.goes_on c.if-stops.false))
    fill

pub mark_head-marked-requires-clause-fits : goal.mark_head-marked-requires-clause-fits
unfolding IsWriter
mark_head-marked-requires-clause-fits c =
    let v : WriterValue = the_view c.self.inside in
    let w : IsWriter v = writer_seen c.self.view_is c.requires.framed.writer in
    fits v w (marking (role_of c.args.role) c.args.noted c.args.page c.args.next)
    (top_seen c.self.view_is c.requires.framed.top)
    (phase_seen c.self.view_is c.requires.phase) (subst (λ (y : WriterValue). y.shape.pages ≤ MAX_PAGES)
    (sym c.self.view_is) c.after_lost-after_lost.ensures.few)

pub returns-clause-makes : goal.returns-clause-makes
unfolding IsWriter
returns-clause-makes c =
    let v : WriterValue = the_view c.self.inside in
    let w : IsWriter v = writer_seen c.self.view_is c.requires.framed.writer in
    let s = c.mark_head-marked.ensures.step in
    let on : MayContinue (role_of c.args.role) c.args.noted s.core.opened =
    subst (MayContinue (role_of c.args.role) c.args.noted)
    (opened_now v w ∙ ap (λ (p : Writing). p.opened) (sym s.before_is)) (c.stops.ensures.goes_on c.if-stops.false) in
    let next : Phase = c.after_next.result in
    goes_on_called c.self.view_is c.requires.framed.writer c.requires.framed.top c.requires.phase c.args.noted next next
    _ refl (ap noted_fill c.after_next.ensures ∙ noted_after (role_of c.args.role) c.args.noted c.args.page) refl
    c.mark_head-marked.ensures.same.shape c.mark_head-marked.ensures.same.table refl c.go_on.ensures.goes_on
    (ap as_answer c.go_on.ensures.answer) s
    (λ frame below step.
    subst (λ (p : ModelPhase). writing_of [] s.next ≡ writing_of [] (model.in_phase s.core frame below p))
    (sym c.after_next.ensures)
    (marked v.shape.pages s.core frame below model.going s.next (role_of c.args.role) c.args.noted c.args.page
    c.args.next on step))

pub returns-clause-nearer : goal.returns-clause-nearer
unfolding IsWriter
returns-clause-nearer c =
    stays_near c.self.view_is c.requires.framed.writer c.requires.framed.top
    (marking (role_of c.args.role) c.args.noted c.args.page c.args.next) (ap phase_of c.requires.phase)
    (returns-clause-makes c) c.mark_head-marked.ensures.same.knows tt
