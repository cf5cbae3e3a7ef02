use Rattle.std.proofs.Common.{◌≡◌, ◌+◌, [], Some, refl, sym, ap, ◌∙◌, subst}
use Rattle.trace_model.specs.Links.{Link, normal_link}
use Rattle.trace_model.specs.Frames.{Phase as ModelPhase, looking_next, noted_fill}
use Rattle.trace_model.specs.Steps as model
use Rattle.trace_model.specs.Steps.{MayContinue}
use Rattle.link_marks.specs.declared.link.Mark.{Mark}
use Rattle.link_marks.specs.ModelLinks.{mark_of, link_of}
use Rattle.ring_steps.specs.Views.{Writing, writing_of}
use Rattle.ring_frames.specs.declared.phase.Phase.TheVariants.{Marking}
use Rattle.ring_frames.specs.declared.phase.Phase.{Phase}
use Rattle.ring_frames.specs.Phases.{as_answer}
use Rattle.ring_frames.specs.Value.{phase_of, role_of}
use Rattle.ring_shared.specs.Value.{WriterValue}
use Rattle.ring_shared.specs.Calls.{IsWriter, MakesSome}
use Rattle.ring_shared.specs.contracts.writer.Writer.{the_view}
use Rattle.ring_shared.proofs.Standing.{phase_shown}
use Rattle.ring_shared.proofs.Called.{writer_seen, top_seen, phase_seen}
use Rattle.ring_shared.proofs.Bounds.{opened_now}
use Rattle.ring_shared.proofs.GoingOn.{Moves, goes_on_called}
use Rattle.ring_steps.proofs.Linking.{looks_at}
use Rattle.ring_steps.proofs.LinkMoves.{noted_after, says_normal, waits, is_passed}
use Rattle.ring_shared.proofs.Nearing.{stays_near}
use Rattle.ring_shared.proofs.writer.Writer.load_next.Goals.{in-Normal, in_default}
use Rattle.ring_shared.proofs.writer.Writer.load_next.Goals.{in_default-via-in-Normal+else-link-after_lost}
use Rattle.ring_shared.proofs.writer.Writer.load_next.Goals.{in_default-via-in_default}
use Rattle.ring_shared.proofs.writer.Writer.load_next.Goals as goal

pub load_next-link-requires : goal.load_next-link-requires
unfolding IsWriter
load_next-link-requires c =
    let v : WriterValue = the_view c.self.inside in
    let w : IsWriter v = writer_seen c.self.view_is c.requires.framed.writer in
    let some = top_seen c.self.view_is c.requires.framed.top in
    let at : phase_of v.frames.phase ≡ looking_next (role_of c.args.role) c.args.noted c.args.page =
    phase_seen c.self.view_is c.requires.phase in
    let fill =
    subst (λ (y : WriterValue). c.after_lost-after_lost.result + y.shape.pages ≡ c.args.noted + 1)
    (sym c.self.view_is) c.after_lost-after_lost.ensures.fill in
    record {
      phase =
          looks_at v.shape.pages v.part (role_of c.args.role) c.args.noted c.args.page c.after_lost-after_lost.result
          (phase_shown v w (looking_next (role_of c.args.role) c.args.noted c.args.page) some at)
          (subst (MayContinue (role_of c.args.role) c.args.noted) (opened_now v w)
          (c.stops.ensures.goes_on c.if-stops.false)) fill;
    }

pub returns-clause-makes : goal.returns-clause-makes
unfolding IsWriter
returns-clause-makes c =
    let v : WriterValue = the_view c.self.inside in
    let w : IsWriter v = writer_seen c.self.view_is c.requires.framed.writer in
    let from : ModelPhase = looking_next (role_of c.args.role) c.args.noted c.args.page in
    let new : WriterValue =
    the_view record { seat = c.load_next-link.new.self; frames = c.go_on.new.self; pages = c.self.inside.pages } in
    let s = c.load_next-link.ensures.step in
    let on : MayContinue (role_of c.args.role) c.args.noted s.core.opened =
    subst (MayContinue (role_of c.args.role) c.args.noted)
    (opened_now v w ∙ ap (λ (p : Writing). p.opened) (sym s.before_is)) (c.stops.ensures.goes_on c.if-stops.false) in
    let fill =
    subst (λ (y : WriterValue). c.after_lost-after_lost.result + y.shape.pages ≡ c.args.noted + 1)
    (sym c.self.view_is) c.after_lost-after_lost.ensures.fill in
    let l = c.load_next-link.result in
    let marked : Mark → Link = λ (m : Mark). record { mark = mark_of m; page = l.page; fill = l.fill } in
    let goes : (p : Phase) → noted_fill (phase_of p) ≡ Some c.args.noted → c.match-link.phase ≡ p
    → Moves v from (phase_of p) s.core s.next
    → MakesSome c.args.self.now model.steps (as_answer c.go_on.result) new =
    λ p noted_is is moves.
    goes_on_called c.self.view_is c.requires.framed.writer c.requires.framed.top c.requires.phase c.args.noted
    c.match-link.phase p _ refl noted_is is c.load_next-link.ensures.same.shape
    c.load_next-link.ensures.same.table refl c.go_on.ensures.goes_on (ap as_answer c.go_on.ensures.answer) s
    moves in
    elim c.match-link.branch [
      | in-Normal b ↦ goes (Marking c.args.role c.args.noted c.args.page l.page) refl b.phase-is
          (λ frame below step.
          waits v.shape.pages s.core frame below model.going s.next (role_of c.args.role) c.args.noted c.args.page
          c.after_lost-after_lost.result (link_of l) on fill s.seen
          (ap marked b.in-Normal.is ∙ ap (normal_link l.page) b.if-link-after_lost.true) step)
      | in_default b ↦ goes b.after_next-phase.result
          (ap noted_fill b.after_next-phase.ensures ∙ noted_after (role_of c.args.role) c.args.noted c.args.page)
          b.phase-is
          (λ frame below step.
          subst (λ (p : ModelPhase). writing_of [] s.next ≡ writing_of [] (model.in_phase s.core frame below p))
          (sym b.after_next-phase.ensures)
          (is_passed v.shape.pages s.core frame below model.going s.next (role_of c.args.role) c.args.noted c.args.page
          c.after_lost-after_lost.result (link_of l) on fill s.seen
          (λ page e. elim b.in_default.branch [
            | in_default-via-in-Normal+else-link-after_lost d ↦ d.if-link-after_lost.false (ap (λ (k : Link). k.fill) e)
            | in_default-via-in_default d ↦ d.in_default.not-Normal (says_normal l.mark (ap (λ (k : Link). k.mark) e))
          ]) step))
    ]

pub returns-clause-nearer : goal.returns-clause-nearer
unfolding IsWriter
returns-clause-nearer c =
    stays_near c.self.view_is c.requires.framed.writer c.requires.framed.top
    (looking_next (role_of c.args.role) c.args.noted c.args.page) (ap phase_of c.requires.phase)
    (returns-clause-makes c) c.load_next-link.ensures.same.knows tt
