use Rattle.std.specs.Prelude.{◌↔◌}
use Rattle.std.proofs.Common.{◌≡◌, length, refl, ap, ◌∙◌, sym, subst}
use Rattle.nested_writer.specs.declared.stack.write.Wrote.TheVariants as at_once
use Rattle.ring_core.specs.Value.{CoreValue}
use Rattle.ring_core.specs.AtOnce.{MayWriteAlone}
use Rattle.ring_core.proofs.ring.Core.write.Goals as goal

pub returns-then-not-is_empty-clause-may : goal.returns-then-not-is_empty-clause-may
returns-then-not-is_empty-clause-may c = (
  λ e. absurd (cc),
  λ may.
      let yes = c.is_empty.ensures.1 (ap (λ (x : CoreValue). x.stack.frames) c.self.view_is ∙ may.0.0) in
      let both = sym yes ∙ c.if-not-is_empty.true in
      absurd (cc),
)

pub returns-in-Record-clause-may : goal.returns-in-Record-clause-may
returns-in-Record-clause-may c = (λ _. c.write_at_once.ensures.may c.in-Record.is, λ _. refl)

pub returns-in-Nothing-clause-may : goal.returns-in-Nothing-clause-may
returns-in-Nothing-clause-may c =
    subst
    (λ (x : CoreValue).
    (c.write_rarely.result ≡ at_once.Record) ↔ MayWriteAlone x c.args.moment (length c.args.payload.now))
    (c.write_at_once.ensures.nothing c.in-Nothing.is) c.write_rarely.ensures.may
