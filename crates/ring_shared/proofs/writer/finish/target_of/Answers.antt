use Rattle.std.proofs.Common.{◌≡◌, sym, subst, ap}
use Rattle.std.specs.Prelude.{Option}
use Rattle.nested_writer.specs.declared.frame.Purpose.{Purpose}
use Rattle.nested_writer.specs.declared.frame.Progress.{Progress}
use Rattle.nested_writer.specs.declared.frame.Progress.TheVariants.{Reserved}
use Rattle.nested_writer.specs.declared.frame.Slot.{Slot}
use Rattle.nested_writer.specs.declared.frame.Frame.{Frame}
use Rattle.nested_writer.specs.Stack.{kind_of, state_of}
use Rattle.ring_shared.specs.declared.writer.finish.Target.TheVariants.{Step}
use Rattle.ring_shared.specs.Finishing.{IsTargetOf, IsTarget}
use Rattle.ring_shared.proofs.writer.finish.target_of.Goals as goal

reserved_steps : (purpose : Purpose) (progress : Progress) (slot : Slot) → progress ≡ Reserved slot
    → IsTargetOf (kind_of purpose) (state_of progress) Step
reserved_steps purpose progress slot e = (slot.number, ap state_of e)

pub returns-in-Reserved : goal.returns-in-Reserved
returns-in-Reserved c =
    subst (λ (top : Option Frame). IsTarget top Step) (sym c.in-Some.is)
    (reserved_steps c.in-Some.top.purpose c.in-Some.top.progress c.in-Reserved.field-0 c.in-Reserved.is)
