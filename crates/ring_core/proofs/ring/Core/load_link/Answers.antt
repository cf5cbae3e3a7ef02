use Rattle.std.proofs.Common.{◌≡◌, length, refl, sym, ap, ◌∙◌, subst}
use Rattle.trace_model.specs.Links.{Link}
use Rattle.trace_model.specs.Ring.{link_into}
use Rattle.link_marks.specs.declared.link.Mark.{Mark}
use Rattle.link_marks.specs.ModelLinks.{mark_of, link_of}
use Rattle.nested_writer.specs.Stack.{opened}
use Rattle.ring_frames.specs.declared.phase.Phase.{Phase}
use Rattle.ring_frames.specs.declared.phase.Phase.TheVariants.{Looking}
use Rattle.ring_frames.specs.declared.answer.Answer.TheVariants.{Going}
use Rattle.ring_core.specs.Value.{CoreValue}
use Rattle.ring_core.specs.Steps.{IsStep}
use Rattle.trace_model.specs.Steps as model
use Rattle.ring_core.proofs.HeadMoves.{is_late, gone_on, looks_normal, looks_header, looks_update}
use Rattle.ring_core.proofs.ring.Core.load_link.Goals.{in-Normal, in-Header, in-Update}
use Rattle.ring_core.proofs.ring.Core.load_link.Goals as goal

pub begin_again-requires-clause-late : goal.begin_again-requires-clause-late
begin_again-requires-clause-late c =
    is_late c.args.self.now (Looking c.args.noted) c.args.noted c.requires.phase refl (λ own. own)
    (λ e.
    c.if-noted-opened.true
    (e ∙ sym (c.opened.ensures.begun ∙ ap (λ (x : CoreValue). opened x.stack) c.self.view_is)))

pub returns-clause-makes : goal.returns-clause-makes
returns-clause-makes c = λ n size start s old.
    let v : CoreValue = c.args.self.now in
    let now : c.args.noted ≡ opened v.stack =
    c.if-noted-opened.false ∙ c.opened.ensures.begun ∙ ap (λ (x : CoreValue). opened x.stack) c.self.view_is in
    let l = c.link_into-link.result in
    let link : link_into (length v.links) v.links c.args.noted ≡ link_of l = sym c.link_into-link.ensures in
    let marked : Mark → Link = λ (m : Mark). record { mark = mark_of m; page = l.page; fill = l.fill } in
    let in_phase : Phase → Type 0 = λ (p : Phase). IsStep n size start s model.steps Going (record v { phase = p }) in
    gone_on n size start s v c.go_on.new.self c.match-link.phase c.go_on.result c.go_on.ensures.answer
    c.go_on.ensures.phase
    (elim c.match-link.branch [
      | in-Normal w ↦ subst in_phase (sym w.phase-is)
          (looks_normal n size start v s old c.requires.top c.args.noted l.page l.fill c.requires.phase now
          (link ∙ ap marked w.in-Normal.is))
      | in-Header w ↦ subst in_phase (sym w.phase-is)
          (looks_header n size start v s old c.requires.top c.args.noted l.page l.fill c.requires.phase now
          (link ∙ ap marked w.in-Header.is))
      | in-Update w ↦ subst in_phase (sym w.phase-is)
          (looks_update n size start v s old c.requires.top c.args.noted l.page l.fill c.requires.phase now
          (link ∙ ap marked w.in-Update.is))
    ])
