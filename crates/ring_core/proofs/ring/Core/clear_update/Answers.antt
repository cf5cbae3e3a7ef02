use Rattle.std.proofs.Common.{◌≡◌, length, sym, ap, ◌∙◌, subst}
use Rattle.trace_model.specs.Links.{Link, normal_link}
use Rattle.trace_model.specs.Ring.{links_with}
use Rattle.trace_model.specs.Steps as model
use Rattle.ring_frames.specs.declared.answer.Answer.TheVariants.{Going}
use Rattle.ring_frames.specs.declared.phase.Phase.TheVariants.{Opening}
use Rattle.ring_core.specs.Value.{CoreValue}
use Rattle.ring_core.specs.Steps.{IsStep}
use Rattle.ring_core.proofs.HeadMoves.{gone_on, clears_update}
use Rattle.ring_core.proofs.ring.Core.clear_update.Goals as goal

pub returns-clause-makes : goal.returns-clause-makes
returns-clause-makes c = λ n size start s old.
    let v = c.args.self.now in
    let with_link : Link → CoreValue =
    λ (l : Link). record v { links = links_with (length v.links) v.links c.args.noted l } in
    let is : c.set_link.new.self ≡ with_link (normal_link c.args.page c.args.noted) =
    c.set_link.ensures ∙ ap with_link c.normal.ensures in
    gone_on n size start s c.set_link.new.self c.go_on.new.self (Opening c.args.noted c.args.page) c.go_on.result
    c.go_on.ensures.answer c.go_on.ensures.phase
    (subst
    (λ (x : CoreValue).
    IsStep n size start s model.steps Going (record x { phase = Opening c.args.noted c.args.page })) (sym is)
    (clears_update n size start v s old c.requires.top c.args.noted c.args.page c.requires.phase))
