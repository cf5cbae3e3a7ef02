use Rattle.std.proofs.Common.{◌≡◌, ℕ, List, refl, sym, subst}
use Rattle.nested_writer.specs.declared.stack.write.Wrote.{Wrote}
use Rattle.nested_writer.specs.declared.stack.write.Wrote.TheVariants.{Record, Nothing}
use Rattle.nested_writer.specs.Stack.{Stack}
use Rattle.nested_writer.specs.AtOnce.{with_written}
use Rattle.nested_writer.specs.Promises.{WritesWhatFitsAbove}
use Rattle.ring_frames.specs.Value.{FramesValue}
use Rattle.ring_frames.specs.Inside.{frames_in}
use Rattle.ring_frames.specs.Steps.{IsFrames}
use Rattle.ring_frames.specs.Answers.{KeepsPayloads}
use Rattle.ring_frames.specs.Above.{WritesAboveAtOnce}
use Rattle.ring_frames.proofs.Above.{writes_above, above_kept}
use Rattle.ring_frames.proofs.Payloads.{same_stack, kept_called}
use Rattle.ring_frames.proofs.frames.Frames.write_above.Goals as goal

pub returns-clause-wrote : goal.returns-clause-wrote
returns-clause-wrote c = λ is.
    let v : FramesValue = frames_in c.self.inside in
    subst
    (λ (x : FramesValue).
    WritesAboveAtOnce x c.args.moment c.args.payload.now (record v { stack = c.write_above.new.self })) c.self.view_is
    (writes_above v c.write_above.new.self c.args.moment c.args.payload.now (c.write_above.ensures.at_once.wrote.0 is)
    (c.write_above.ensures.written is) (c.write_above.ensures.at_once.stack is))

-- whether or not it is written
payloads : (v : FramesValue) (new : Stack) (moment : ℕ) (payload : List ℕ) (wrote : Wrote) → IsFrames v
    → WritesWhatFitsAbove moment payload v.stack wrote new
    → (wrote ≡ Record → new ≡ with_written v.stack moment payload)
    → KeepsPayloads v.stack new
payloads v new moment payload Record are fits written =
    above_kept v new moment payload are (written refl) (fits.stack refl)
payloads v new moment payload Nothing are fits written = same_stack v.stack new (fits.nothing refl)

pub returns-clause-payloads : goal.returns-clause-payloads
returns-clause-payloads c =
    let v : FramesValue = frames_in c.self.inside in
    kept_called c.self.view_is c.write_above.new.self
    (payloads v c.write_above.new.self c.args.moment c.args.payload.now c.write_above.result
    (subst IsFrames (sym c.self.view_is) c.requires.frames) c.write_above.ensures.at_once
    c.write_above.ensures.written)
