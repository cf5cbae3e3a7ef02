use Rattle.std.proofs.Common.{rules, subst}
use Rattle.ring_frames.specs.declared.phase.StepAnswer.{StepAnswer}
use Rattle.ring_shared.specs.Value.{WriterValue}
use Rattle.ring_shared.specs.Finishing.{at_once, Closes}
use Rattle.ring_shared.proofs.Depths.{leaving_top}
use Rattle.ring_shared.proofs.FinishParts.{closes_then, closes_still, closes_rest}
use Rattle.ring_shared.proofs.TopAnswers.{some_stand}
use Rattle.ring_frames.proofs.Payloads.{kept_then}
use Rattle.ring_shared.specs.Calls.{IsWriter}
use Rattle.ring_shared.proofs.writer.Writer.finish_wishing.Goals as goal

pub load_wish-requires-clause-framed : goal.load_wish-requires-clause-framed
unfolding IsWriter
load_wish-requires-clause-framed c = record {
  writer = search rules;
  top = let (frame, below, top, is) = c.requires.leaving.top in
      some_stand c.args.self.now c.requires.leaving.writer frame below top;
}

pub finish_leaving-requires : goal.finish_leaving-requires
finish_leaving-requires c = record {
  writer = search rules;
  top = let (frame, below, top, is) = c.requires.leaving.top in
      let v : WriterValue = c.args.self.now in let one : WriterValue = c.load_wish.new.self in
      closes_still v.shape below v.part one.part c.load_wish.result
      (closes_then v.shape below v.part v.part one.part c.load_wish.result (frame, top, is, at_once)
      c.load_wish.ensures.makes.call) c.in-Going.is;
}

pub returns-in-Going : goal.returns-in-Going
returns-in-Going c = record {
  leaves = λ other others at.
      let (frame, below, top, is) = c.requires.leaving.top in
      let v : WriterValue = c.args.self.now in let one : WriterValue = c.load_wish.new.self in
      closes_rest v.shape others v.part one c.load_wish.result
      (closes_then v.shape others v.part v.part one.part c.load_wish.result
      (other, at, leaving_top v.part.frames frame other below others top is at, at_once)
      c.load_wish.ensures.makes.call) c.in-Going.is
      c.load_wish.ensures.makes.shape_is c.finish_leaving.result c.finish_leaving.new.self.part
      c.finish_leaving.ensures.leaves;
  gone = search rules;
  payloads =
      kept_then c.args.self.now.frames.stack c.load_wish.new.self.frames.stack c.finish_leaving.new.self.frames.stack
      c.load_wish.ensures.payloads c.finish_leaving.ensures.payloads;
  ring = search rules;
  writer = search rules;
}

pub returns-in-Gone : goal.returns-in-Gone
returns-in-Gone c = record {
  leaves = λ other others at.
      let (frame, below, top, is) = c.requires.leaving.top in
      let v : WriterValue = c.args.self.now in let one : WriterValue = c.load_wish.new.self in
      subst (λ (t : StepAnswer). Closes v.shape others v.part t one.part) c.in-Gone.is
      (closes_then v.shape others v.part v.part one.part c.load_wish.result
      (other, at, leaving_top v.part.frames frame other below others top is at, at_once)
      c.load_wish.ensures.makes.call);
  gone = search rules;
  payloads = search rules;
  ring = search rules;
  writer = search rules;
}
