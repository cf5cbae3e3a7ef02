use Rattle.std.proofs.Common.{◌≡◌, ℕ, suc, ◌+◌, ◌-◌, length, refl, sym, ap, ◌∙◌, subst, arith}
use Rattle.trace_model.specs.Links.{Link, normal_link}
use Rattle.trace_model.specs.Ring.{link_into}
use Rattle.trace_model.specs.Steps as model
use Rattle.trace_model.specs.Steps.{MayContinue}
use Rattle.link_marks.specs.declared.link.Mark.{Mark}
use Rattle.link_marks.specs.ModelLinks.{mark_of, link_of}
use Rattle.nested_writer.specs.Stack.{opened}
use Rattle.ring_frames.specs.declared.answer.Answer.TheVariants.{Going}
use Rattle.ring_frames.specs.declared.phase.Phase.{Phase}
use Rattle.ring_frames.specs.declared.phase.Phase.TheVariants.{LookingNext}
use Rattle.ring_frames.specs.declared.phase.Role.{Role}
use Rattle.ring_frames.specs.declared.phase.Role.TheVariants.{Helper}
use Rattle.ring_frames.specs.Value.{role_of}
use Rattle.ring_core.specs.Value.{CoreValue}
use Rattle.ring_core.specs.Steps.{IsReachedCore, IsStep}
use Rattle.ring_core.proofs.HeadMoves.{is_late, gone_on, says_normal, round_next, next_waits, next_passed}
use Rattle.ring_core.proofs.ring.Core.load_next.Goals.{in-Normal, in_default}
use Rattle.ring_core.proofs.ring.Core.load_next.Goals.{in_default-via-in-Normal+else-link-after_lost}
use Rattle.ring_core.proofs.ring.Core.load_next.Goals.{in_default-via-in_default}
use Rattle.ring_core.proofs.ring.Core.load_next.Goals as goal

pub begin_again-requires-clause-late : goal.begin_again-requires-clause-late
begin_again-requires-clause-late c =
    let (helps, passed) = c.stops.ensures.stops c.if-stops.true in
    is_late c.args.self.now (LookingNext Helper c.args.noted c.args.page) c.args.noted
    (c.requires.phase ∙ ap (λ (r : Role). LookingNext r c.args.noted c.args.page) helps) refl (λ own. own)
    (λ e. passed (e ∙ sym (ap (λ (x : CoreValue). opened x.stack) c.self.view_is)))

pub overflow_sub-after_lost : goal.overflow_sub-after_lost
unfolding IsReachedCore
overflow_sub-after_lost c =
    let (n, size, start, s, core) = c.requires.ring in
    let round =
    round_next n size start c.args.self.now s core c.requires.top c.args.role c.args.noted c.args.page
    c.requires.phase in
    omega (arith, c.positions.ensures.positions)

pub returns-clause-makes : goal.returns-clause-makes
returns-clause-makes c = λ n size start s old.
    let v : CoreValue = c.args.self.now in
    let now : MayContinue (role_of c.args.role) c.args.noted (opened v.stack) =
    subst (MayContinue (role_of c.args.role) c.args.noted) (ap (λ (x : CoreValue). opened x.stack) c.self.view_is)
    (c.stops.ensures.goes_on c.if-stops.false) in
    let round = round_next n size start v s old c.requires.top c.args.role c.args.noted c.args.page c.requires.phase in
    let wide : c.positions.result ≡ length v.links = c.positions.ensures.positions in
    let lost : ℕ = c.args.noted - c.positions.result in
    let sum : lost + length v.links ≡ c.args.noted = omega arith in
    let after_lost : ℕ = lost + 1 in
    let is : after_lost ≡ suc lost = omega arith in
    let l = c.link_into-link.result in
    let link : link_into (length v.links) v.links (suc lost) ≡ link_of l =
    sym (c.link_into-link.ensures ∙ ap (link_into (length v.links) v.links) is) in
    let marked : Mark → Link = λ (m : Mark). record { mark = mark_of m; page = l.page; fill = l.fill } in
    let in_phase : Phase → Type 0 = λ (p : Phase). IsStep n size start s model.steps Going (record v { phase = p }) in
    gone_on n size start s v c.go_on.new.self c.match-link.phase c.go_on.result c.go_on.ensures.answer
    c.go_on.ensures.phase
    (elim c.match-link.branch [
      | in-Normal w ↦ subst in_phase (sym w.phase-is)
          (next_waits n size start v s old c.requires.top c.args.role c.args.noted c.args.page l.page lost
          c.requires.phase now sum
          (link ∙ ap marked w.in-Normal.is ∙ ap (normal_link l.page) (w.if-link-after_lost.true ∙ is)))
      | in_default w ↦ subst in_phase (sym w.phase-is)
          (next_passed n size start v s old c.requires.top c.args.role c.args.noted c.args.page lost
          w.after_next-phase.result c.requires.phase now sum
          (λ next e. elim w.in_default.branch [
            | in_default-via-in-Normal+else-link-after_lost w' ↦ w'.if-link-after_lost.false
                (ap (λ (x : Link). x.fill) (sym link ∙ e) ∙ sym is)
            | in_default-via-in_default w' ↦ w'.in_default.not-Normal
                (says_normal l.mark (ap (λ (x : Link). x.mark) (sym link ∙ e)))
          ])
          w.after_next-phase.ensures)
    ])
