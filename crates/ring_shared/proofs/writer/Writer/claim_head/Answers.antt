use Rattle.std.proofs.Common.{◌≡◌, ℕ, ◌+◌, ◌-◌, ◌≤◌, true, false, Some, refl, sym, ap, ◌∙◌, arith, subst}
use Rattle.trace_model.specs.Frames.{claiming, noted_fill}
use Rattle.trace_model.specs.Ring.{link_into}
use Rattle.trace_model.specs.Steps as model
use Rattle.ring_frames.specs.declared.phase.Phase.TheVariants.{Looking, LookingNext}
use Rattle.ring_frames.specs.declared.phase.Role.TheVariants.{Owner}
use Rattle.ring_frames.specs.declared.phase.Phase.{Phase}
use Rattle.ring_frames.specs.Phases.{as_answer}
use Rattle.ring_frames.specs.Value.{phase_of}
use Rattle.ring_steps.specs.Views.{Writing}
use Rattle.ring_steps.specs.Linking.{tail_in}
use Rattle.ring_shared.specs.Value.{WriterValue}
use Rattle.ring_shared.specs.Calls.{IsWriter, MakesSome}
use Rattle.ring_shared.specs.contracts.writer.Writer.{the_view}
use Rattle.ring_shared.proofs.Standing.{phase_shown}
use Rattle.ring_shared.proofs.Called.{writer_seen, top_seen, phase_seen}
use Rattle.ring_shared.proofs.Bounds.{opened_now, fits_called}
use Rattle.ring_shared.proofs.GoingOn.{Moves, goes_on_called}
use Rattle.ring_steps.proofs.LinkMoves.{claimed, not_claimed}
use Rattle.ring_steps.specs.Ends.{passed_in}
use Rattle.ring_shared.proofs.Nearing.{nearer_claiming}
use Rattle.ring_shared.proofs.writer.Writer.claim_head.Goals.{then-claim_head, else-claim_head}
use Rattle.ring_shared.proofs.writer.Writer.claim_head.Goals as goal

pub overflow_sub-lost : goal.overflow_sub-lost
unfolding IsWriter
overflow_sub-lost c =
    let (pages, (round, low, seen)) =
    fits_called c.self.view_is c.requires.framed.writer c.requires.framed.top c.requires.phase c.pages.result
    c.pages.ensures.pages c.pages.ensures.most in
    omega arith

pub claim_head-requires-clause-phase : goal.claim_head-requires-clause-phase
unfolding IsWriter
claim_head-requires-clause-phase c =
    let v : WriterValue = the_view c.self.inside in
    let w : IsWriter v = writer_seen c.self.view_is c.requires.framed.writer in
    phase_shown v w (claiming v.part.opened c.args.page) (top_seen c.self.view_is c.requires.framed.top)
    (phase_seen c.self.view_is c.requires.phase
    ∙ ap (λ noted. claiming noted c.args.page) (c.if-noted-opened.false ∙ c.opened.ensures.begun ∙ opened_now v w))

pub claim_head-requires-clause-tail : goal.claim_head-requires-clause-tail
claim_head-requires-clause-tail c = c.tail-tail.ensures ∙ ap (λ (x : WriterValue). tail_in x.part) (sym c.self.view_is)

pub claim_head-requires-clause-lost : goal.claim_head-requires-clause-lost
unfolding IsWriter
claim_head-requires-clause-lost c =
    let v : WriterValue = the_view c.self.inside in
    let w : IsWriter v = writer_seen c.self.view_is c.requires.framed.writer in
    let (pages, (round, low, seen)) =
    fits_called c.self.view_is c.requires.framed.writer c.requires.framed.top c.requires.phase c.pages.result
    c.pages.ensures.pages c.pages.ensures.most in
    let now : c.args.noted ≡ v.part.opened = c.if-noted-opened.false ∙ c.opened.ensures.begun ∙ opened_now v w in
    omega arith

pub claim_head-requires-clause-fits : goal.claim_head-requires-clause-fits
unfolding IsWriter
claim_head-requires-clause-fits c =
    let (pages, (round, low, seen)) =
    fits_called c.self.view_is c.requires.framed.writer c.requires.framed.top c.requires.phase c.pages.result
    c.pages.ensures.pages c.pages.ensures.most in
    low

pub returns-clause-makes : goal.returns-clause-makes
unfolding IsWriter
returns-clause-makes c =
    let v : WriterValue = the_view c.self.inside in
    let w : IsWriter v = writer_seen c.self.view_is c.requires.framed.writer in
    let now : c.args.noted ≡ v.part.opened = c.if-noted-opened.false ∙ c.opened.ensures.begun ∙ opened_now v w in
    let (pages, (round, low, seen)) =
    fits_called c.self.view_is c.requires.framed.writer c.requires.framed.top c.requires.phase c.pages.result
    c.pages.ensures.pages c.pages.ensures.most in
    let lost : ℕ = c.args.noted - c.pages.result in
    let sum : lost + v.shape.pages ≡ c.args.noted = omega arith in
    let new : WriterValue =
    the_view record { seat = c.claim_head.new.self; frames = c.go_on.new.self; pages = c.self.inside.pages } in
    let s = c.claim_head.ensures.step in
    let here : c.args.noted ≡ s.core.opened = now ∙ ap (λ (p : Writing). p.opened) (sym s.before_is) in
    let there = ap (link_into v.shape.pages s.core.links) now in
    let goes : (p : Phase) → noted_fill (phase_of p) ≡ Some c.args.noted → c.if-claim_head.phase ≡ p
    → Moves v (claiming c.args.noted c.args.page) (phase_of p) s.core s.next
    → MakesSome c.args.self.now model.steps (as_answer c.go_on.result) new =
    λ p noted_is is moves.
    goes_on_called c.self.view_is c.requires.framed.writer c.requires.framed.top c.requires.phase c.args.noted
    c.if-claim_head.phase p _ refl noted_is is c.claim_head.ensures.same.shape
    c.claim_head.ensures.same.table refl c.go_on.ensures.goes_on (ap as_answer c.go_on.ensures.answer) s
    moves in
    elim c.if-claim_head.branch [
      | then-claim_head b ↦ goes (LookingNext Owner c.args.noted c.args.page) refl b.phase-is
          (λ frame below step.
          claimed v.shape.pages s.core frame below model.going s.next c.args.noted c.args.page lost here sum
          (there ∙ s.seen.0 b.if-claim_head.true) step)
      | else-claim_head b ↦ goes (Looking c.args.noted) refl b.phase-is
          (λ frame below step.
          not_claimed v.shape.pages s.core frame below model.going s.next c.args.noted c.args.page lost here sum
          (λ e. let truth : false ≡ true = sym b.if-claim_head.false ∙ s.seen.1 (sym there ∙ e) in cc) step)
    ]

pub returns-clause-nearer : goal.returns-clause-nearer
unfolding IsWriter
returns-clause-nearer c =
    let x : WriterValue = c.args.self.now in
    let m = returns-clause-makes c in
    let (pages, (round, low, seen)) =
    fits_called c.self.view_is c.requires.framed.writer c.requires.framed.top c.requires.phase c.pages.result
    c.pages.ensures.pages c.pages.ensures.most in
    let same = ap (λ (y : WriterValue). y.shape.pages) c.self.view_is in
    let lost = c.claim_head.ensures.passed in
    nearer_claiming x _ m.shape_is
    (subst (λ (y : WriterValue). y.passed ≤ passed_in c.claim_head.new.self) c.self.view_is
    c.claim_head.ensures.same.knows) _ c.args.noted c.args.page m
    (phase_shown x c.requires.framed.writer (claiming c.args.noted c.args.page) c.requires.framed.top
    (ap phase_of c.requires.phase)) (omega arith)
