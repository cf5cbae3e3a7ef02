use Rattle.std.proofs.Common.{◌≡◌, refl, sym, ap, ◌∙◌, subst}
use Rattle.trace_model.specs.Steps as model
use Rattle.nested_writer.specs.Stack.{opened}
use Rattle.ring_frames.specs.declared.answer.Answer.TheVariants.{Going}
use Rattle.ring_frames.specs.declared.phase.Phase.{Phase}
use Rattle.ring_frames.specs.declared.phase.Phase.TheVariants.{Claiming}
use Rattle.ring_core.specs.Value.{CoreValue}
use Rattle.ring_core.specs.Steps.{IsStep}
use Rattle.ring_core.proofs.HeadMoves.{is_late, gone_on, claims_head, claims_none}
use Rattle.ring_core.proofs.ring.Core.claim_head.Goals.{then-exchange_head, else-exchange_head}
use Rattle.ring_core.proofs.ring.Core.claim_head.Goals as goal

pub begin_again-requires-clause-late : goal.begin_again-requires-clause-late
begin_again-requires-clause-late c =
    is_late c.args.self.now (Claiming c.args.noted c.args.page) c.args.noted c.requires.phase refl (λ own. own)
    (λ e.
    c.if-noted-opened.true
    (e ∙ sym (c.opened.ensures.begun ∙ ap (λ (x : CoreValue). opened x.stack) c.self.view_is)))

pub returns-clause-makes : goal.returns-clause-makes
returns-clause-makes c = λ n size start s old.
    let v = c.args.self.now in
    let new = c.exchange_head.new.self in
    let now : c.args.noted ≡ opened v.stack =
    c.if-noted-opened.false ∙ c.opened.ensures.begun ∙ ap (λ (x : CoreValue). opened x.stack) c.self.view_is in
    let in_phase : Phase → Type 0 = λ (p : Phase). IsStep n size start s model.steps Going (record new { phase = p }) in
    gone_on n size start s new c.go_on.new.self c.if-exchange_head.phase c.go_on.result c.go_on.ensures.answer
    c.go_on.ensures.phase
    (elim c.if-exchange_head.branch [
      | then-exchange_head w ↦ let (lost, claim) = c.exchange_head.ensures.claimed w.if-exchange_head.true in
          subst in_phase (sym w.phase-is)
          (claims_head n size start v s old c.requires.top c.args.noted c.args.page lost new c.requires.phase now
          claim)
      | else-exchange_head w ↦ let (same, none) = c.exchange_head.ensures.kept w.if-exchange_head.false in
          subst in_phase (sym w.phase-is)
          (claims_none n size start v s old c.requires.top c.args.noted c.args.page new c.requires.phase now same
          none)
    ])
