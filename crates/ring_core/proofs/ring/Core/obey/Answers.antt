use Rattle.std.proofs.Common.{rules, sym, subst}
use Rattle.ring_core.specs.declared.event.Event.{Event}
use Rattle.ring_core.specs.Answers.{StepsLens}
use Rattle.ring_core.proofs.Stepped.{unreserved}
use Rattle.ring_core.proofs.Lens.{keeps_lens, pushes_lens, pushes_none, ends_lens}
use Rattle.ring_core.specs.Steps.{IsReachedCore}
use Rattle.ring_core.proofs.ring.Core.obey.Goals as goal

pub returns-in-Push : goal.returns-in-Push
unfolding IsReachedCore
returns-in-Push c = record {
  step = search rules;
  given_back = search rules;
  payloads = search rules;
  zeros =
      unreserved c.args.self.now c.push.new.self _ c.push.result (λ e. cc) (λ e. cc) c.requires.ring
      c.push.ensures.makes;
  lens =
      subst (λ (event : Event). StepsLens event c.push.result c.args.self.now.stack c.push.new.self.stack)
      (sym c.in-Push.is)
      (pushes_lens c.args.self.now c.push.new.self c.push.result c.requires.ring c.in-Push.moment c.in-Push.len
      c.push.ensures.makes);
}

pub returns-in-PushClose : goal.returns-in-PushClose
unfolding IsReachedCore
returns-in-PushClose c = record {
  step = search rules;
  given_back = search rules;
  payloads = search rules;
  zeros =
      unreserved c.args.self.now c.push_close.new.self _ c.push_close.result (λ e. cc) (λ e. cc) c.requires.ring
      c.push_close.ensures.makes;
  lens =
      subst (λ (event : Event). StepsLens event c.push_close.result c.args.self.now.stack c.push_close.new.self.stack)
      (sym c.in-PushClose.is)
      (pushes_none c.args.self.now c.push_close.new.self c.push_close.result
      c.requires.ring c.push_close.ensures.makes);
}

pub returns-in-End : goal.returns-in-End
unfolding IsReachedCore
returns-in-End c = record {
  step = search rules;
  given_back = search rules;
  payloads = search rules;
  zeros =
      unreserved c.args.self.now c.end.new.self _ c.end.result (λ e. cc) (λ e. cc) c.requires.ring c.end.ensures.makes;
  lens =
      subst (λ (event : Event). StepsLens event c.end.result c.args.self.now.stack c.end.new.self.stack)
      (sym c.in-End.is)
      (ends_lens c.args.self.now c.end.new.self c.end.result c.requires.ring _ c.end.ensures.makes);
}

pub returns-in-Step : goal.returns-in-Step
unfolding IsReachedCore
returns-in-Step c = record {
  step = search rules;
  given_back = search rules;
  payloads = search rules;
  zeros = search rules;
  lens =
      subst (λ (event : Event). StepsLens event c.step_top.result c.args.self.now.stack c.step_top.new.self.stack)
      (sym c.in-Step.is)
      (keeps_lens c.args.self.now c.step_top.new.self c.step_top.result c.requires.ring c.step_top.ensures.makes);
}
