use Rattle.std.proofs.Common.{sym, subst}
use Rattle.ring_shared.specs.Value.{ReaderValue}
use Rattle.ring_shared.specs.Takes.{TakesSteps}
use Rattle.ring_shared.proofs.reader.Reader.take.Goals as goal

pub returns-in-Empty-clause-steps : goal.returns-in-Empty-clause-steps
returns-in-Empty-clause-steps c =
    subst
    (λ (x : ReaderValue). TakesSteps c.args.self.now.shape c.args.self.now.part c.take_by_steps-took.result x.part)
    (sym c.self-2.view_is)
    (subst
    (λ (x : ReaderValue). TakesSteps x.shape x.part c.take_by_steps-took.result c.take_by_steps-took.new.self.part)
    c.self.view_is c.take_by_steps-took.ensures.steps)

pub returns-in_default-clause-steps : goal.returns-in_default-clause-steps
returns-in_default-clause-steps c =
    subst
    (λ (x : ReaderValue). TakesSteps x.shape x.part c.take_by_steps-took.result c.take_by_steps-took.new.self.part)
    c.self.view_is c.take_by_steps-took.ensures.steps
