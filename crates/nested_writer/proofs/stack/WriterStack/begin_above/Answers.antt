use Rattle.std.proofs.Common.{rules, ◌≡◌, ℕ, ◌+◌, ◌-◌, ◌<◌, ◌≤◌, ◌∷◌, List, length, Option, Some, None}
use Rattle.std.proofs.Common.{sym, ap, ◌∙◌, subst, arith}
use Rattle.trace_model.specs.declared.limits.TheConstants.{MAX_FRAMES}
use Rattle.nested_writer.specs.declared.frame.Frame.{Frame}
use Rattle.nested_writer.specs.declared.frame.Purpose.TheVariants.{Record}
use Rattle.nested_writer.specs.declared.frame.Progress.TheVariants.{Waiting}
use Rattle.nested_writer.specs.Stack.{Stack, tail_fill}
use Rattle.nested_writer.specs.TopFrame.{TopFrame, frame_in}
use Rattle.nested_writer.specs.Inside.{frames_from, stack_of, top_frame}
use Rattle.nested_writer.specs.Calls.{with_frame}
use Rattle.nested_writer.proofs.Pushing.{surely_fits}
use Rattle.nested_writer.proofs.Promises.{begins}
use Rattle.nested_writer.proofs.stack.WriterStack.begin_above.Goals as goal

-- one frame is on top of those below it, or none
one_more : (top : Option Frame) (below : List Frame) → length (frames_from top below) ≤ length below + 1
one_more None below = omega arith
one_more (Some frame) below = omega arith

pub returns : goal.returns
returns c =
    let old : Stack = stack_of c.self.inside in
    let size = old.size in
    let room = c.self.invariant.plain_room in
    let low : c.args.len ≤ size - 12 = omega (arith, c.if-len-self.false, c.ranges.len.fits) in
    let fits = surely_fits size c.args.len c.self.invariant.small low in
    let pushed : Frame = record { purpose = Record c.args.moment c.args.len; progress = Waiting None } in
    let few : length old.frames < MAX_FRAMES =
    omega (
      arith,
      one_more (top_frame c.self.inside) c.self.inside.below.items,
      c.len.ensures,
      c.self.inside.below.ok.0,
      c.if-len-ge-MAX_FRAMES.false,
    ) in
    let fill = c.tail_fill-fill.ensures ∙ ap tail_fill (sym c.self.view_is) in
    let frames : frames_from (frame_in c.wait.new.self (tail_fill old)) c.cover.new.below.items ≡ pushed ∷ old.frames =
    ap (λ (t : TopFrame). frames_from (frame_in t (tail_fill old)) c.cover.new.below.items) c.wait.ensures
    ∙ ap (λ (l : List Frame). pushed ∷ l)
    (c.cover.ensures.items
    ∙ ap (λ (n : ℕ). frames_from (frame_in c.self.inside.top n) c.self.inside.below.items) fill) in
    begins c.args.moment c.args.len c.args.self.now _
    (subst (λ (s : Stack). length s.frames < MAX_FRAMES) c.self.view_is few)
    (search (rules, fits)) (search rules)
    (ap (λ (l : List Frame). record old { frames = l }) frames ∙ ap (λ (s : Stack). with_frame s pushed) c.self.view_is)
