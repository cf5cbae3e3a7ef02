use Rattle.std.proofs.Common.{◌≡◌, ◌≤◌, ap, ◌∙◌, arith}
use Rattle.std.proofs.lemmas.Bool.{ltb-false}
use Rattle.ring_frames.specs.Value.{FramesValue}
use Rattle.ring_frames.proofs.Staying.{gone_unasked}
use Rattle.ring_frames.proofs.frames.Frames.may_be_wished.Goals as goal

pub returns : goal.returns
returns c = record {
  unasked = λ is moment len none below closed.
      let v : FramesValue = c.args.self.now in
      let done : c.done.result ≡ v.stack.done =
      c.done.ensures ∙ ap (λ (x : FramesValue). x.stack.done) c.self.view_is in
      let past : c.args.wish ≤ c.done.result = ltb-false c.done.result c.args.wish is in
      gone_unasked v c.args.wish moment len none closed (λ next. absurd (omega (arith, next, done, past)));
  past = λ is.
      let done : c.done.result ≡ c.args.self.now.stack.done =
      c.done.ensures ∙ ap (λ (x : FramesValue). x.stack.done) c.self.view_is in
      let past : c.args.wish ≤ c.done.result = ltb-false c.done.result c.args.wish is in
      omega (arith, done, past);
}
