use Rattle.std.proofs.Common.{◌≡◌, ◌≢◌, [], sym, ◌∙◌, subst, arith}
use Rattle.ring_frames.specs.declared.phase.Phase.TheVariants.{Wishing}
use Rattle.ring_frames.specs.Value.{FramesValue}
use Rattle.ring_frames.specs.Inside.{frames_in}
use Rattle.ring_frames.specs.AreFrames.{AreFrames}
use Rattle.ring_frames.specs.Steps.{IsFrames}
use Rattle.ring_frames.proofs.Wishing.{is_bottom, closes_more, goes_away}
use Rattle.ring_frames.proofs.Payloads.{bottom_held}
use Rattle.ring_frames.proofs.frames.Frames.load_wish_any.Goals as goal

pub returns-then-done-opened-clause-looks : goal.returns-then-done-opened-clause-looks
returns-then-done-opened-clause-looks c = λ n size start m reached now asks.
    let v : FramesValue = frames_in c.self.inside in
    let (none, stays) = c.grant_wish.ensures.refused c.if-grant_wish.false in
    let same : c.args.self.now ≡ v = sym (c.self.view_is ∙ stays) in
    rw c.set_releasing.ensures
    (closes_more n size start v m
    record { reached = reached; are = subst (λ (x : FramesValue). AreFrames n size start x m) same now }
    (subst (λ (x : FramesValue). x.stack.frames ≢ []) same c.requires.top)
    (subst (λ (x : FramesValue). x.phase ≡ Wishing) same c.requires.phase) (none n size start m now asks)
    (let begun = c.opened-opened.ensures.begun in
    let done = c.done.ensures in
    let more = c.if-done-opened.true in
    omega arith))

pub pop_bottom-requires-clause-bottom : goal.pop_bottom-requires-clause-bottom
pop_bottom-requires-clause-bottom c =
    let v : FramesValue = frames_in c.self.inside in
    let (none, stays) = c.grant_wish.ensures.refused c.if-grant_wish.false in
    let same : c.args.self.now ≡ v = sym (c.self.view_is ∙ stays) in
    let (n, size, start, m, core) = subst IsFrames same c.requires.frames in
    is_bottom n size start v m core (subst (λ (x : FramesValue). x.stack.frames ≢ []) same c.requires.top)
    (subst (λ (x : FramesValue). x.phase ≡ Wishing) same c.requires.phase)

pub returns-clause-looks : goal.returns-clause-looks
returns-clause-looks c = λ n size start m reached now asks.
    let v : FramesValue = frames_in c.self.inside in
    let (none, stays) = c.grant_wish.ensures.refused c.if-grant_wish.false in
    let same : c.args.self.now ≡ v = sym (c.self.view_is ∙ stays) in
    goes_away n size start v m
    record { reached = reached; are = subst (λ (x : FramesValue). AreFrames n size start x m) same now }
    (subst (λ (x : FramesValue). x.stack.frames ≢ []) same c.requires.top)
    (subst (λ (x : FramesValue). x.phase ≡ Wishing) same c.requires.phase) c.pop_bottom.new.self v.phase
    (none n size start m now asks)
    (let begun = c.opened-opened.ensures.begun in
    let done = c.done.ensures in
    let last = c.if-done-opened.false in
    omega arith)
    c.pop_bottom.ensures.popped c.pop_bottom.ensures.stack

pub returns-then-grant_wish-clause-payloads : goal.returns-then-grant_wish-clause-payloads
returns-then-grant_wish-clause-payloads c =
    let (n, size, start, m, core) = c.requires.frames in
    bottom_held c.args.self.now.stack c.grant_wish.new.self.stack
    (is_bottom n size start c.args.self.now m core c.requires.top c.requires.phase)

pub returns-then-done-opened-clause-payloads : goal.returns-then-done-opened-clause-payloads
returns-then-done-opened-clause-payloads c =
    let (n, size, start, m, core) = c.requires.frames in
    bottom_held c.args.self.now.stack (frames_in c.self.inside).stack
    (is_bottom n size start c.args.self.now m core c.requires.top c.requires.phase)

pub returns-clause-payloads : goal.returns-clause-payloads
returns-clause-payloads c =
    let (n, size, start, m, core) = c.requires.frames in
    bottom_held c.args.self.now.stack c.pop_bottom.new.self
    (is_bottom n size start c.args.self.now m core c.requires.top c.requires.phase)
