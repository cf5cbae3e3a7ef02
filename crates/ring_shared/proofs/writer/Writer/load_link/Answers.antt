use Rattle.std.proofs.Common.{◌≡◌, [], Some, refl, sym, ap, ◌∙◌, subst}
use Rattle.trace_model.specs.Frames.{looking, noted_fill}
use Rattle.trace_model.specs.Ring.{link_into}
use Rattle.trace_model.specs.Steps as model
use Rattle.link_marks.specs.declared.link.Mark.{Mark}
use Rattle.link_marks.specs.declared.link.Mark.TheVariants.{Normal, Header, Update}
use Rattle.link_marks.specs.ModelLinks.{mark_of, link_of}
use Rattle.ring_steps.specs.Views.{Writing, writing_of}
use Rattle.ring_frames.specs.declared.phase.Phase.TheVariants.{Opening, Claiming, LookingNext}
use Rattle.ring_frames.specs.declared.phase.Role.TheVariants.{Helper}
use Rattle.ring_frames.specs.Phases.{as_answer}
use Rattle.ring_frames.specs.declared.phase.Phase.{Phase}
use Rattle.ring_frames.specs.Value.{phase_of}
use Rattle.ring_steps.specs.Linking.{tail_in, found_at}
use Rattle.ring_steps.proofs.LinkMoves.{looked}
use Rattle.ring_shared.specs.Value.{WriterValue}
use Rattle.ring_shared.specs.Calls.{IsWriter, MakesSome}
use Rattle.ring_shared.specs.contracts.writer.Writer.{the_view}
use Rattle.ring_shared.proofs.Standing.{phase_shown}
use Rattle.ring_shared.proofs.Called.{writer_seen, top_seen, phase_seen}
use Rattle.ring_shared.proofs.Bounds.{opened_now}
use Rattle.ring_shared.proofs.GoingOn.{Moves, goes_on_called}
use Rattle.ring_shared.specs.Nearer.{IsNearer}
use Rattle.ring_shared.proofs.Nearing.{nearer_looking}
use Rattle.ring_shared.proofs.writer.Writer.load_link.Goals.{in-Normal, in-Header, in-Update}
use Rattle.ring_shared.proofs.writer.Writer.load_link.Goals as goal

pub load_link-link-requires-clause-phase : goal.load_link-link-requires-clause-phase
unfolding IsWriter
load_link-link-requires-clause-phase c =
    let v : WriterValue = the_view c.self.inside in
    let w : IsWriter v = writer_seen c.self.view_is c.requires.framed.writer in
    phase_shown v w (looking v.part.opened) (top_seen c.self.view_is c.requires.framed.top)
    (phase_seen c.self.view_is c.requires.phase
    ∙ ap looking (c.if-noted-opened.false ∙ c.opened.ensures.begun ∙ opened_now v w))

pub load_link-link-requires-clause-tail : goal.load_link-link-requires-clause-tail
load_link-link-requires-clause-tail c =
    c.tail-tail.ensures ∙ ap (λ (x : WriterValue). tail_in x.part) (sym c.self.view_is)

pub returns-clause-makes : goal.returns-clause-makes
unfolding IsWriter
returns-clause-makes c =
    let v : WriterValue = the_view c.self.inside in
    let w : IsWriter v = writer_seen c.self.view_is c.requires.framed.writer in
    let now : c.args.noted ≡ v.part.opened = c.if-noted-opened.false ∙ c.opened.ensures.begun ∙ opened_now v w in
    let new : WriterValue =
    the_view record { seat = c.load_link-link.new.self; frames = c.go_on.new.self; pages = c.self.inside.pages } in
    let l = c.load_link-link.result in
    let s = c.load_link-link.ensures.step in
    let link : link_into v.shape.pages s.core.links c.args.noted ≡ link_of l =
    ap (link_into v.shape.pages s.core.links) now ∙ s.seen.1 in
    let here : c.args.noted ≡ s.core.opened = now ∙ ap (λ (p : Writing). p.opened) (sym s.before_is) in
    let found : (m : Mark) → l.mark ≡ m
    → Moves v (looking c.args.noted) (found_at (mark_of m) c.args.noted l.page) s.core s.next =
    λ m e frame below step.
    subst
    (λ (k : Mark).
    writing_of [] s.next
    ≡ writing_of [] (model.in_phase s.core frame below (found_at (mark_of k) c.args.noted l.page))) e
    (looked v.shape.pages s.core frame below model.going s.next c.args.noted (link_of l) here link step) in
    let goes : (p : Phase) → noted_fill (phase_of p) ≡ Some c.args.noted → c.match-link.phase ≡ p
    → Moves v (looking c.args.noted) (phase_of p) s.core s.next
    → MakesSome c.args.self.now model.steps (as_answer c.go_on.result) new =
    λ p noted_is is moves.
    goes_on_called c.self.view_is c.requires.framed.writer c.requires.framed.top c.requires.phase c.args.noted
    c.match-link.phase p _ refl noted_is is c.load_link-link.ensures.same.shape
    c.load_link-link.ensures.same.table refl c.go_on.ensures.goes_on (ap as_answer c.go_on.ensures.answer) s
    moves in
    elim c.match-link.branch [
      | in-Normal b ↦ goes (Opening c.args.noted l.page) refl b.phase-is (found Normal b.in-Normal.is)
      | in-Header b ↦ goes (Claiming c.args.noted l.page) refl b.phase-is (found Header b.in-Header.is)
      | in-Update b ↦ goes (LookingNext Helper c.args.noted l.page) refl b.phase-is (found Update b.in-Update.is)
    ]

pub returns-clause-nearer : goal.returns-clause-nearer
unfolding IsWriter
returns-clause-nearer c =
    let v : WriterValue = the_view c.self.inside in
    let w : IsWriter v = writer_seen c.self.view_is c.requires.framed.writer in
    let new : WriterValue =
    the_view record { seat = c.load_link-link.new.self; frames = c.go_on.new.self; pages = c.self.inside.pages } in
    let s = c.load_link-link.ensures.step in
    subst (λ (x : WriterValue). IsNearer x new) c.self.view_is
    (nearer_looking v new c.load_link-link.ensures.same.shape c.load_link-link.ensures.same.knows c.args.noted _
    model.going s
    (phase_shown v w (looking c.args.noted) (top_seen c.self.view_is c.requires.framed.top)
    (phase_seen c.self.view_is c.requires.phase)) s.seen.0)
