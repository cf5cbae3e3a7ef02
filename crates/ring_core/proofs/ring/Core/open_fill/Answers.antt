use Rattle.std.proofs.Common.{ℕ, refl, sym, ap, ◌∙◌}
use Rattle.nested_writer.specs.Stack.{opened}
use Rattle.ring_frames.specs.declared.phase.Phase.TheVariants.{Opening}
use Rattle.ring_core.specs.Value.{CoreValue}
use Rattle.ring_core.proofs.HeadMoves.{is_late}
use Rattle.ring_core.proofs.ring.Core.open_fill.Goals as goal

pub begin_again-requires-clause-late : goal.begin_again-requires-clause-late
begin_again-requires-clause-late c =
    is_late c.args.self.now (Opening c.args.noted c.args.page) c.args.noted c.requires.phase refl (λ own. own)
    (λ e.
    c.if-noted-opened.true
    (e ∙ sym (c.opened.ensures.begun ∙ ap (λ (x : CoreValue). opened x.stack) c.self.view_is)))

pub begin_fill-requires-clause-phase : goal.begin_fill-requires-clause-phase
begin_fill-requires-clause-phase c =
    c.requires.phase
    ∙ ap (λ (noted : ℕ). Opening noted c.args.page)
    (c.if-noted-opened.false ∙ c.opened.ensures.begun ∙ ap (λ (x : CoreValue). opened x.stack) c.self.view_is)
