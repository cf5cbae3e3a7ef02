use Rattle.std.proofs.Common.{◌≡◌, List, ◌∷◌, length, refl, sym, ap, ◌∙◌, subst}
use Rattle.trace_model.specs.Frames.{Frame}
use Rattle.trace_model.specs.Steps as model
use Rattle.ring_frames.specs.declared.answer.Answer.{Answer}
use Rattle.ring_frames.specs.declared.phase.StepAnswer.TheVariants.{Going}
use Rattle.ring_frames.specs.Value.{phase_of}
use Rattle.ring_frames.specs.Phases.{as_answer}
use Rattle.ring_steps.specs.declared.rule.Shape.{Shape}
use Rattle.ring_steps.specs.Views.{Writing}
use Rattle.ring_shared.specs.Value.{WriterValue}
use Rattle.ring_shared.specs.Promises.{HasFrame}
use Rattle.ring_shared.specs.Calls.{IsWriter, IsCall}
use Rattle.ring_shared.specs.Finishing.{Closes, at_once}
use Rattle.ring_shared.proofs.Depths.{leaving_top}
use Rattle.ring_shared.proofs.Finishes.{leaving_unnumbered, call_in, same_writer}
use Rattle.ring_shared.proofs.FinishParts.{closes_then}
use Rattle.ring_shared.proofs.TopAnswers.{some_stand, release_goes}
use Rattle.ring_frames.proofs.Payloads.{same_stack, kept_then}
use Rattle.ring_shared.proofs.writer.Writer.close_fills.Goals as goal

pub loop-self-init : goal.loop-self-init
unfolding IsWriter
loop-self-init c =
    let (frame, below, top, leaves) = c.requires.top in
    record {
      writer = c.requires.writer;
      ring = (refl, refl);
      some = (frame, below, top);
      closes =
          λ other others is.
          (other, is, leaving_top c.args.self.now.part.frames frame other below others top leaves is, at_once);
      payloads = same_stack c.args.self.now.frames.stack c.args.self.now.frames.stack refl;
    }

-- while it closes fills, the frame is on the stack
still_framed : (shape : Shape) (first : Writing) (now : WriterValue) → IsWriter now
    → (frame : Frame) × (below : List Frame) × (first.frames ≡ frame ∷ below)
    → ((frame : Frame) (below : List Frame) → first.frames ≡ frame ∷ below → Closes shape below first Going now.part)
    → HasFrame now
unfolding IsWriter
still_framed shape first now writer (frame, below, top) closes =
    let (next, at, leaves, goes) =
    closes frame below top in
    record { writer = writer; top = some_stand now writer next below at }

pub release_fill-requires-clause-framed : goal.release_fill-requires-clause-framed
release_fill-requires-clause-framed c = let h = c.loop-self.invariant in
    still_framed c.args.self.now.shape c.args.self.now.part c.loop-self.self h.writer h.some h.closes

pub load_wish-requires-clause-framed : goal.load_wish-requires-clause-framed
load_wish-requires-clause-framed c = let h = c.loop-self.invariant in
    still_framed c.args.self.now.shape c.args.self.now.part c.loop-self.self h.writer h.some h.closes

pub loop-self-preserved : goal.loop-self-preserved
unfolding IsWriter
loop-self-preserved c =
    let h = c.loop-self.invariant in
    let old : WriterValue = c.loop-self.self in
    let new : WriterValue = c.release_fill.new.self in
    let shape : Shape = c.args.self.now.shape in
    let makes = c.release_fill.ensures.makes in
    let (frame, below, top) = h.some in
    let (next, at, leaves, goes) = h.closes frame below top in
    let going =
    release_goes old h.writer (as_answer c.release_fill.result) new.part (some_stand old h.writer next below at)
    (ap phase_of
    (ap (λ (x : WriterValue). x.frames.phase) (sym c.self.view_is)
    ∙ (sym c.phase.ensures ∙ c.in-Releasing.is))) makes.call in
    record {
      writer = makes.writer;
      ring = same_writer c.args.self.now old new (as_answer c.release_fill.result) h.ring makes;
      some = h.some;
      closes =
          λ other others is.
          closes_then shape others c.args.self.now.part old.part new.part Going (h.closes other others is)
          (subst (λ (x : Answer). IsCall shape old.part model.steps x new.part) going
          (call_in shape old new (as_answer c.release_fill.result) h.ring.0 makes));
      payloads =
          kept_then c.args.self.now.frames.stack old.frames.stack new.frames.stack h.payloads
          c.release_fill.ensures.payloads;
    }

pub loop-self-smaller : goal.loop-self-smaller
loop-self-smaller c =
    let h = c.loop-self.invariant in
    let old : WriterValue = c.loop-self.self in let new : WriterValue = c.release_fill.new.self in
    let (frame, below, top) = h.some in
    let (next, at, leaves, goes) = h.closes frame below top in
    let (last, stands, still, more) = (loop-self-preserved c).closes frame below top in
    c.release_fill.ensures.nearer next below at (leaving_unnumbered next.kind next.state leaves)
    (ap (length {A = Frame}) stands ∙ ap (length {A = Frame}) (sym at))

pub returns-in-Wishing-clause-closes : goal.returns-in-Wishing-clause-closes
returns-in-Wishing-clause-closes c = λ frame below top.
    let h = c.loop-self.invariant in
    let old : WriterValue = c.loop-self.self in
    let new : WriterValue = c.load_wish.new.self in
    let shape : Shape = c.args.self.now.shape in
    closes_then shape below c.args.self.now.part old.part new.part c.load_wish.result (h.closes frame below top)
    (call_in shape old new (as_answer c.load_wish.result) h.ring.0 c.load_wish.ensures.makes)

pub returns-in-Wishing-clause-payloads : goal.returns-in-Wishing-clause-payloads
returns-in-Wishing-clause-payloads c =
    kept_then c.args.self.now.frames.stack c.loop-self.self.frames.stack c.load_wish.new.self.frames.stack
    c.loop-self.invariant.payloads c.load_wish.ensures.payloads
