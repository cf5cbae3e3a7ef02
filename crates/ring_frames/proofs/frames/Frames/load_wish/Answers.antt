use Rattle.std.proofs.Common.{◌≢◌, [], sym, ap, ◌∙◌, subst, arith}
use Rattle.trace_model.specs.Steps.{IsGranted}
use Rattle.ring_frames.specs.Value.{FramesValue}
use Rattle.ring_frames.specs.Inside.{frames_in}
use Rattle.ring_frames.specs.AreFrames.{AreFrames, HasFrames}
use Rattle.ring_frames.specs.Steps.{IsFrames}
use Rattle.ring_frames.proofs.Wishing.{is_bottom, goes_away}
use Rattle.ring_frames.proofs.Payloads.{bottom_held}
use Rattle.ring_frames.proofs.frames.Frames.load_wish.Goals as goal

pub pop_bottom-requires-clause-bottom : goal.pop_bottom-requires-clause-bottom
pop_bottom-requires-clause-bottom c =
    let v : FramesValue = frames_in c.self.inside in
    let (n, size, start, m, core) = subst IsFrames (sym c.self.view_is) c.requires.frames in
    is_bottom n size start v m core
    (subst (λ (x : FramesValue). x.stack.frames ≢ []) (sym c.self.view_is) c.requires.top)
    (ap (λ (x : FramesValue). x.phase) c.self.view_is ∙ c.requires.phase)

pub returns-then-opened-done-clause-looks : goal.returns-then-opened-done-clause-looks
returns-then-opened-done-clause-looks c = λ n size start m reached now asks.
    let v : FramesValue = frames_in c.self.inside in
    let core : HasFrames n size start v m =
    record {
      reached = reached;
      are = subst (λ (x : FramesValue). AreFrames n size start x m) (sym c.self.view_is) now;
    } in
    let begun = c.opened.ensures.begun in
    let done = c.done.ensures in
    let last = c.if-opened-done.true in
    let past = c.if-wish-done.true in
    let refuses : IsGranted n m → ⊥ =
    λ granted.
    (let next = sym asks ∙ granted.asks_tail ∙ core.are.opened_is in
    omega (arith, next, begun, done, last, past)) in
    goes_away n size start v m core
    (subst (λ (x : FramesValue). x.stack.frames ≢ []) (sym c.self.view_is) c.requires.top)
    (ap (λ (x : FramesValue). x.phase) c.self.view_is ∙ c.requires.phase) c.pop_bottom.new.self v.phase refuses
    (omega arith) c.pop_bottom.ensures.popped c.pop_bottom.ensures.stack

pub returns-then-opened-done-clause-payloads : goal.returns-then-opened-done-clause-payloads
returns-then-opened-done-clause-payloads c =
    let (n, size, start, m, core) = c.requires.frames in
    bottom_held c.args.self.now.stack c.pop_bottom.new.self
    (is_bottom n size start c.args.self.now m core c.requires.top c.requires.phase)
