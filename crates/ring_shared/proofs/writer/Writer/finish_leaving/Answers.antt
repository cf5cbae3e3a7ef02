use Rattle.std.specs.Prelude.{Some, None}
use Rattle.std.proofs.Common.{rules, ◌≡◌, sym, ◌∙◌, subst}
use Rattle.ring_frames.specs.declared.answer.Answer.{Answer}
use Rattle.ring_shared.specs.Value.{WriterValue}
use Rattle.ring_shared.specs.Finishing.{Leaves}
use Rattle.ring_shared.proofs.FinishParts.{gone_unrefused}
use Rattle.ring_shared.proofs.WholeWrites.{met_refusal, not_refused}
use Rattle.ring_shared.proofs.writer.Writer.finish_leaving.Goals as goal

pub returns-in-Some : goal.returns-in-Some
returns-in-Some c = record {
  leaves = λ frame below top.
      let v : WriterValue = c.args.self.now in let new : WriterValue = c.leave_on.new.self in
      let (answer, reported, how, leaves) = c.leave_on.ensures.leaves in
      subst (λ (x : Answer). Leaves v.shape below v.part x new.part)
      (met_refusal answer c.in-Some.fault (sym reported ∙ c.in-Some.is)) (leaves frame below top);
  gone = search rules;
  payloads = search rules;
  ring = search rules;
  writer = search rules;
}

pub returns-in-None : goal.returns-in-None
returns-in-None c = record {
  leaves = λ frame below top.
      let v : WriterValue = c.args.self.now in let new : WriterValue = c.leave_on.new.self in
      let (answer, reported, how, leaves) = c.leave_on.ensures.leaves in
      subst (λ (x : Answer). Leaves v.shape below v.part x new.part)
      (gone_unrefused answer how
      (not_refused answer (λ f e. let both : None ≡ Some f = sym c.in-None.is ∙ (reported ∙ e) in cc)))
      (leaves frame below top);
  gone = search rules;
  payloads = search rules;
  ring = search rules;
  writer = search rules;
}
