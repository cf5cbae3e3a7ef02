use Rattle.std.proofs.Common.{◌≡◌, ℕ, List, length, refl, sym, subst}
use Rattle.nested_writer.specs.declared.stack.write.Wrote.{Wrote}
use Rattle.nested_writer.specs.declared.stack.write.Wrote.TheVariants.{Record, Nothing}
use Rattle.nested_writer.specs.Stack.{Stack}
use Rattle.nested_writer.specs.AtOnce.{with_written}
use Rattle.nested_writer.specs.Promises.{WritesWhatFits}
use Rattle.ring_frames.specs.Value.{FramesValue}
use Rattle.ring_frames.specs.Inside.{frames_in}
use Rattle.ring_frames.specs.Steps.{IsFrames}
use Rattle.ring_frames.specs.AtOnce.{with_left_frame, WritesAtOnce, IsWrittenAlone}
use Rattle.ring_frames.proofs.AtOnce.{writes_at_once, written_alone}
use Rattle.ring_frames.specs.Answers.{KeepsPayloads}
use Rattle.ring_frames.proofs.Payloads.{same_stack, none_held}
use Rattle.ring_frames.proofs.frames.Frames.write.Goals as goal

-- what a record makes of the frames that is written into the stack
module _ (v seen : FramesValue) (same : v ≡ seen) (new : Stack) (moment : ℕ) (payload : List ℕ) (wrote : Wrote) where
  steps : wrote ≡ Record → WritesWhatFits moment payload v.stack wrote new → new ≡ with_written v.stack moment payload
      → WritesAtOnce seen moment payload (with_left_frame (record v { stack = new }) moment (length payload))
  steps is fits written =
      subst
      (λ (x : FramesValue).
      WritesAtOnce x moment payload (with_left_frame (record v { stack = new }) moment (length payload))) same
      (writes_at_once v new moment payload (fits.wrote.0 is) written (fits.stack is))

  alone : IsFrames seen → wrote ≡ Record → WritesWhatFits moment payload v.stack wrote new
      → new ≡ with_written v.stack moment payload
      → IsWrittenAlone seen moment payload (record v { stack = new })
  alone are is fits written =
      subst (λ (x : FramesValue). IsWrittenAlone x moment payload (record v { stack = new })) same
      (written_alone v new moment payload (subst IsFrames (sym same) are) (fits.wrote.0 is) written)

  payloads : (wrote ≡ Record → WritesWhatFits moment payload v.stack wrote new) → (wrote ≡ Nothing → new ≡ v.stack)
      → KeepsPayloads seen.stack new
  payloads fits nothing = subst (λ (x : FramesValue). KeepsPayloads x.stack new) same (by_result wrote refl)
    where
      by_result : (found : Wrote) → wrote ≡ found → KeepsPayloads v.stack new
      by_result Record is = none_held v.stack new ((fits is).wrote.0 is).0
      by_result Nothing is = same_stack v.stack new (nothing is)

pub returns-in-Any-clause-wrote : goal.returns-in-Any-clause-wrote
returns-in-Any-clause-wrote c =
    λ is.
    steps (frames_in c.self.inside) _ c.self.view_is c.write_any.new.self c.args.moment c.args.payload.now
    c.write_any.result is c.write_any.ensures.at_once (c.write_any.ensures.written is)

pub returns-in-Any-clause-alone : goal.returns-in-Any-clause-alone
returns-in-Any-clause-alone c =
    λ is.
    alone (frames_in c.self.inside) _ c.self.view_is c.write_any.new.self c.args.moment c.args.payload.now
    c.write_any.result c.requires.frames is c.write_any.ensures.at_once (c.write_any.ensures.written is)

pub returns-in-Any-clause-payloads : goal.returns-in-Any-clause-payloads
returns-in-Any-clause-payloads c =
    payloads (frames_in c.self.inside) _ c.self.view_is c.write_any.new.self c.args.moment c.args.payload.now
    c.write_any.result (λ is. c.write_any.ensures.at_once) c.write_any.ensures.at_once.nothing

pub returns-in-Short-clause-wrote : goal.returns-in-Short-clause-wrote
returns-in-Short-clause-wrote c =
    λ is.
    steps (frames_in c.self.inside) _ c.self.view_is c.write_if_short.new.self c.args.moment c.args.payload.now
    c.write_if_short.result is (c.write_if_short.ensures.at_once is) (c.write_if_short.ensures.written is)

pub returns-in-Short-clause-alone : goal.returns-in-Short-clause-alone
returns-in-Short-clause-alone c =
    λ is.
    alone (frames_in c.self.inside) _ c.self.view_is c.write_if_short.new.self c.args.moment c.args.payload.now
    c.write_if_short.result c.requires.frames is (c.write_if_short.ensures.at_once is)
    (c.write_if_short.ensures.written is)

pub returns-in-Short-clause-payloads : goal.returns-in-Short-clause-payloads
returns-in-Short-clause-payloads c =
    payloads (frames_in c.self.inside) _ c.self.view_is c.write_if_short.new.self c.args.moment c.args.payload.now
    c.write_if_short.result c.write_if_short.ensures.at_once c.write_if_short.ensures.nothing
