use Rattle.std.proofs.Common.{rules, ◌≡◌, length, sym, ap, ◌∙◌, subst}
use Rattle.trace_model.specs.Frames.{wishing}
use Rattle.ring_frames.specs.declared.answer.Answer.TheVariants.{Going, Gone}
use Rattle.ring_frames.specs.Value.{FramesValue}
use Rattle.ring_frames.specs.Phases.{as_answer}
use Rattle.ring_steps.specs.Views.{Writing}
use Rattle.ring_steps.specs.Paging.{IsTopIn}
use Rattle.ring_shared.specs.Value.{WriterValue}
use Rattle.ring_shared.specs.Calls.{IsWriter}
use Rattle.ring_shared.specs.contracts.writer.Writer.{the_view}
use Rattle.ring_shared.proofs.Called.{writer_seen}
use Rattle.ring_shared.proofs.AtOnce.{none_left, leads_write, frames_mid, wishing_mid, looked, looked_gone, looked_on}
use Rattle.ring_shared.proofs.AtOnce.{looked_further}
use Rattle.ring_frames.specs.Answers.{KeepsPayloads}
use Rattle.ring_frames.proofs.Payloads.{kept_then}
use Rattle.ring_shared.proofs.writer.Writer.write_at_once.Goals as goal

pub note-requires : goal.note-requires
unfolding IsWriter
note-requires c =
    let v : WriterValue = the_view c.self.inside in
    record {
      due =
          leads_write v (writer_seen c.self.view_is c.requires.writer) c.args.moment c.args.payload.now
          c.write.new.self (c.write.ensures.wrote c.in-Record.is) (c.write.ensures.alone c.in-Record.is);
    }

pub load_wish-wish-requires : goal.load_wish-wish-requires
unfolding IsWriter
load_wish-wish-requires c =
    let v : WriterValue = the_view c.self.inside in
    record {
      phase =
          subst (λ (p : Writing). IsTopIn p.frames wishing) (sym c.note.ensures.noted)
          (wishing_mid v (writer_seen c.self.view_is c.requires.writer) c.args.moment c.args.payload.now
          c.write.new.self (c.write.ensures.wrote c.in-Record.is) (c.write.ensures.alone c.in-Record.is));
    }

pub stay-requires-clause-none : goal.stay-requires-clause-none
stay-requires-clause-none c = none_left (c.write.ensures.alone c.in-Record.is)

pub stay-requires-clause-frames : goal.stay-requires-clause-frames
unfolding IsWriter
stay-requires-clause-frames c =
    let v : WriterValue = the_view c.self.inside in
    frames_mid v (writer_seen c.self.view_is c.requires.writer) c.args.moment c.args.payload.now c.write.new.self
    (c.write.ensures.wrote c.in-Record.is) (c.write.ensures.alone c.in-Record.is)

pub returns-then-not-may_be_wished-clause-keeps : goal.returns-then-not-may_be_wished-clause-keeps
unfolding IsWriter
returns-then-not-may_be_wished-clause-keeps c =
    let alone = c.write.ensures.alone c.in-Record.is in
    let l =
    looked c.self.view_is c.requires.writer c.args.moment c.args.payload.now c.write.new.self c.write.new.self
    c.load_wish-wish.result Gone
    (c.write.ensures.wrote c.in-Record.is) (c.write.ensures.alone c.in-Record.is) c.note.ensures.same.shape
    c.note.ensures.same.table c.note.ensures.noted
    c.load_wish-wish.ensures.same c.load_wish-wish.ensures.step
    (c.may_be_wished.ensures.unasked c.if-not-may_be_wished.true c.args.moment (length c.args.payload.now)
    (none_left alone) alone.below alone.closed) in
    record {
      payloads =
          subst (λ (x : WriterValue). KeepsPayloads x.frames.stack c.write.new.self.stack) c.self.view_is
          c.write.ensures.payloads;
      ring = search rules;
      writer = l.makes.writer;
    }

pub returns-then-not-may_be_wished-clause-written : goal.returns-then-not-may_be_wished-clause-written
unfolding IsWriter
returns-then-not-may_be_wished-clause-written c = λ _.
    let alone = c.write.ensures.alone c.in-Record.is in
    let l =
    looked c.self.view_is c.requires.writer c.args.moment c.args.payload.now c.write.new.self c.write.new.self
    c.load_wish-wish.result Gone
    (c.write.ensures.wrote c.in-Record.is) (c.write.ensures.alone c.in-Record.is) c.note.ensures.same.shape
    c.note.ensures.same.table c.note.ensures.noted
    c.load_wish-wish.ensures.same c.load_wish-wish.ensures.step
    (c.may_be_wished.ensures.unasked c.if-not-may_be_wished.true c.args.moment (length c.args.payload.now)
    (none_left alone) alone.below alone.closed) in
    looked_gone l (λ e. cc)

pub returns-in-Gone-clause-keeps : goal.returns-in-Gone-clause-keeps
unfolding IsWriter
returns-in-Gone-clause-keeps c =
    let v : WriterValue = the_view c.self.inside in
    let l =
    looked c.self.view_is c.requires.writer c.args.moment c.args.payload.now c.write.new.self c.stay.new.self
    c.load_wish-wish.result (as_answer c.stay.result)
    (c.write.ensures.wrote c.in-Record.is) (c.write.ensures.alone c.in-Record.is) c.note.ensures.same.shape
    c.note.ensures.same.table c.note.ensures.noted
    c.load_wish-wish.ensures.same c.load_wish-wish.ensures.step c.stay.ensures.looks in
    record {
      payloads = subst (λ (x : WriterValue). KeepsPayloads x.frames.stack c.stay.new.self.stack) c.self.view_is
          (kept_then v.frames.stack c.write.new.self.stack c.stay.new.self.stack c.write.ensures.payloads
          c.stay.ensures.payloads);
      ring = search rules;
      writer = l.makes.writer;
    }

pub returns-in-Gone-clause-written : goal.returns-in-Gone-clause-written
unfolding IsWriter
returns-in-Gone-clause-written c = λ _.
    let l =
    looked c.self.view_is c.requires.writer c.args.moment c.args.payload.now c.write.new.self c.stay.new.self
    c.load_wish-wish.result (as_answer c.stay.result)
    (c.write.ensures.wrote c.in-Record.is) (c.write.ensures.alone c.in-Record.is) c.note.ensures.same.shape
    c.note.ensures.same.table c.note.ensures.noted
    c.load_wish-wish.ensures.same c.load_wish-wish.ensures.step c.stay.ensures.looks in
    looked_gone l (λ e. let both : Gone ≡ Going = sym (ap as_answer c.in-Gone.is) ∙ e in cc)

pub leave_on-refusal-requires : goal.leave_on-refusal-requires
unfolding IsWriter
leave_on-refusal-requires c =
    let l =
    looked c.self.view_is c.requires.writer c.args.moment c.args.payload.now c.write.new.self c.stay.new.self
    c.load_wish-wish.result (as_answer c.stay.result)
    (c.write.ensures.wrote c.in-Record.is) (c.write.ensures.alone c.in-Record.is) c.note.ensures.same.shape
    c.note.ensures.same.table c.note.ensures.noted
    c.load_wish-wish.ensures.same c.load_wish-wish.ensures.step c.stay.ensures.looks in
    record { writer = l.makes.writer; top = looked_on l (ap as_answer c.in-Going.is) }

pub returns-in-Going-clause-written : goal.returns-in-Going-clause-written
unfolding IsWriter
returns-in-Going-clause-written c = λ _.
    let l =
    looked c.self.view_is c.requires.writer c.args.moment c.args.payload.now c.write.new.self c.stay.new.self
    c.load_wish-wish.result (as_answer c.stay.result)
    (c.write.ensures.wrote c.in-Record.is) (c.write.ensures.alone c.in-Record.is) c.note.ensures.same.shape
    c.note.ensures.same.table c.note.ensures.noted
    c.load_wish-wish.ensures.same c.load_wish-wish.ensures.step c.stay.ensures.looks in
    let (last, refusal, how, leaves) = c.leave_on-refusal.ensures.leaves in
    looked_further l last c.leave_on-refusal.new.self.part (ap as_answer c.in-Going.is) leaves

-- ---- nothing is written

same_writer : (v seen : WriterValue) (same : v ≡ seen) (new : FramesValue) → new ≡ v.frames
    → record v { frames = new } ≡ seen
same_writer v seen same new is = ap (λ (f : FramesValue). record v { frames = f }) is ∙ same

pub returns-in_default-clause-nothing : goal.returns-in_default-clause-nothing
returns-in_default-clause-nothing c =
    λ _.
    same_writer (the_view c.self.inside) _ c.self.view_is c.write.new.self
    (c.write.ensures.nothing c.in_default.is)

pub returns-in_default-clause-keeps : goal.returns-in_default-clause-keeps
returns-in_default-clause-keeps c = record {
  payloads =
      subst (λ (x : WriterValue). KeepsPayloads x.frames.stack c.write.new.self.stack) c.self.view_is
      c.write.ensures.payloads;
  ring = search rules;
  writer =
      subst IsWriter
      (sym (same_writer (the_view c.self.inside) _ c.self.view_is c.write.new.self
      (c.write.ensures.nothing c.in_default.is))) c.requires.writer;
}

pub returns-in-Going-clause-keeps : goal.returns-in-Going-clause-keeps
unfolding IsWriter
returns-in-Going-clause-keeps c = record {
  payloads = let v : WriterValue = the_view c.self.inside in
      let end : WriterValue = c.leave_on-refusal.new.self in
      subst (λ (x : WriterValue). KeepsPayloads x.frames.stack end.frames.stack) c.self.view_is
      (kept_then v.frames.stack c.stay.new.self.stack end.frames.stack
      (kept_then v.frames.stack c.write.new.self.stack c.stay.new.self.stack c.write.ensures.payloads
      c.stay.ensures.payloads) c.leave_on-refusal.ensures.payloads);
  ring = search rules;
  writer = search rules;
}
