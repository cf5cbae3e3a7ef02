use Rattle.std.proofs.Common.{rules, refl, subst, inl}
use Rattle.ring_frames.specs.declared.answer.Answer.TheVariants.{Gone}
use Rattle.ring_frames.specs.declared.phase.StepAnswer.{StepAnswer}
use Rattle.ring_shared.specs.Value.{WriterValue}
use Rattle.ring_shared.specs.Finishing.{Closes}
use Rattle.ring_shared.proofs.FinishParts.{closes_still, closes_rest}
use Rattle.ring_frames.proofs.Payloads.{kept_then}
use Rattle.ring_shared.proofs.writer.Writer.leave_on.Goals as goal

pub returns-in-Gone-clause-leaves : goal.returns-in-Gone-clause-leaves
returns-in-Gone-clause-leaves c =
    let v : WriterValue = c.args.self.now in let new : WriterValue = c.close_fills.new.self in (
      Gone,
      refl,
      inl refl,
      λ frame below top.
          subst (λ (t : StepAnswer). Closes v.shape below v.part t new.part) c.in-Gone.is
          (c.close_fills.ensures.closes frame below top),
    )

pub leave_top-requires : goal.leave_top-requires
leave_top-requires c = record {
  writer = search rules;
  top = let (frame, below, top, is) = c.requires.top in
      let v : WriterValue = c.args.self.now in
      closes_still v.shape below v.part c.close_fills.new.self.part c.close_fills.result
      (c.close_fills.ensures.closes frame below top) c.in_default.is;
}

pub returns-clause-leaves : goal.returns-clause-leaves
returns-clause-leaves c =
    let v : WriterValue = c.args.self.now in (
      c.leave_top.result,
      c.met_first.ensures,
      c.leave_top.ensures.gone,
      λ frame below top.
          closes_rest v.shape below v.part c.close_fills.new.self c.close_fills.result
          (c.close_fills.ensures.closes frame below top) c.in_default.is
          c.close_fills.ensures.ring.0 c.leave_top.result c.leave_top.new.self.part c.leave_top.ensures.leaves,
    )

pub returns-clause-payloads : goal.returns-clause-payloads
returns-clause-payloads c =
    kept_then c.args.self.now.frames.stack c.close_fills.new.self.frames.stack c.leave_top.new.self.frames.stack
    c.close_fills.ensures.payloads c.leave_top.ensures.payloads
