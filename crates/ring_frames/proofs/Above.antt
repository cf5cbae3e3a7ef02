-- A record above other frames that is written at once.
use Rattle.std.proofs.Common.{◌≡◌, ℕ, List, [], ◌∷◌, length, Some, refl, sym, ap, ◌∙◌, subst}
use Rattle.trace_model.specs.History.{push, reserve, leave}
use Rattle.trace_model.specs.Frames.{Frame as ModelFrame}
use Rattle.trace_model.specs.Ring.{Core}
use Rattle.nested_writer.specs.declared.frame.Frame.{Frame}
use Rattle.nested_writer.specs.Stack.{Stack, opened, next_number}
use Rattle.nested_writer.specs.AtOnce.{FitsAbove, with_written}
use Rattle.nested_writer.specs.Allotted.{HasEvents}
use Rattle.nested_writer.proofs.Answering.{number_counts}
use Rattle.ring_frames.specs.Value.{FramesValue}
use Rattle.ring_frames.specs.AreFrames.{frames_in_phases, AreBelow, AreNotedAlike, AreFrames}
use Rattle.ring_frames.specs.Answers.{HoldSlot, KeepsPayloads}
use Rattle.ring_frames.specs.Steps.{IsFrames}
use Rattle.ring_frames.specs.Above.{IsWriteAboveAtOnce, WritesAboveAtOnce}
use Rattle.ring_frames.proofs.Privately.{top_is_private}
use Rattle.ring_frames.proofs.Payloads.{grown}
use Rattle.ring_frames.proofs.Tops.{topped}
use Rattle.ring_frames.proofs.Reshown.{reshown}
use Rattle.ring_frames.proofs.InTail as tail

module _ (n size start : ℕ) (v : FramesValue) (c : Core) (k : AreFrames n size start v c) (moment : ℕ)
    (payload : List ℕ) (fits : FitsAbove v.stack moment (length payload)) (stack : Stack)
    (is : stack ≡ with_written v.stack moment payload) (next : ModelFrame) (below : List ModelFrame)
    (above : c.frames ≡ next ∷ below) where
  abbrev pushed : Core
  pushed = tail.pushed n size start v c k moment payload fits.0.1 fits.1 (next ∷ below) above

  abbrev after : Core
  after = tail.after n size start v c k moment payload fits.0.1 fits.1 (next ∷ below) above

  shown : HasEvents v.stack (push moment (length payload) ∷ reserve ∷ leave (Some payload) ∷ []) stack
      → AreFrames n size start (record v { stack = stack }) after
  shown has_events =
      let frames_is : stack.frames ≡ v.stack.frames = ap (λ (s : Stack). s.frames) is in
      reshown n size start v c stack v.phase v.below after.frames after.history after.held k record {
        pages_is = ap (λ (s : Stack). s.pages) is;
        size_is = ap (λ (s : Stack). s.size) is;
        done_is = ap (λ (s : Stack). s.done) is;
        opened_is = ap opened is;
        stack_is = tail.kept n size start v c k moment payload fits.0.1 fits.1 (next ∷ below) above stack has_events;
        frames_are =
            sym above ∙ k.frames_are
            ∙ ap (λ (fs : List Frame). frames_in_phases fs (v.phase ∷ v.below)) (sym frames_is);
        below_are = subst (λ (fs : List Frame). AreBelow fs v.below) (sym frames_is) k.below_are;
        noted = subst (λ (fs : List Frame). AreNotedAlike fs (v.phase ∷ v.below)) (sym frames_is) k.noted;
      }

  written : HasEvents v.stack (push moment (length payload) ∷ reserve ∷ leave (Some payload) ∷ []) stack
      → IsWriteAboveAtOnce n size start c moment payload (next_number v.stack) (record v { stack = stack })
  written has_events =
      let few = fits.0.1 in
      let own = fits.1 in
      record {
        pushed = pushed;
        reserved = tail.with_its_record n size start v c k moment payload few own (next ∷ below) above;
        after = after;
        push = tail.push_is n size start v c k moment payload few own (next ∷ below) above;
        push_private = tt;
        waits = refl;
        next = number_counts start c.history v.stack k.stack_is;
        reserve = tail.reserve_is n size start v c k moment payload few own (next ∷ below) above;
        reserve_private =
            top_is_private pushed (tail.waits n size start v c k moment payload few own (next ∷ below) above) c.frames
            refl tt;
        has_slot =
            tail.has_slot n size start v c k moment payload few own (next ∷ below) above
            ∙ ap
            (λ (fs : List ModelFrame).
            tail.holds n size start v c k moment payload few own (next ∷ below) above (next_number v.stack) ∷ fs)
            (sym above);
        end = tail.end_is n size start v c k moment payload few own (next ∷ below) above;
        end_private = tt;
        are_left = sym above;
        are = shown has_events;
      }

pub writes_above : (v : FramesValue) (stack : Stack) (moment : ℕ) (payload : List ℕ)
    → FitsAbove v.stack moment (length payload) → stack ≡ with_written v.stack moment payload
    → HasEvents v.stack (push moment (length payload) ∷ reserve ∷ leave (Some payload) ∷ []) stack
    → WritesAboveAtOnce v moment payload (record v { stack = stack })
writes_above v stack moment payload fits is has_events = λ n size start c reached are.
    let top = topped n size start v c are fits.0.0 in
    written n size start v c are moment payload fits stack is top.frame top.below top.is_top has_events

-- what the frames below have reserved stays where it is
pub above_kept : (v : FramesValue) (stack : Stack) (moment : ℕ) (payload : List ℕ) → IsFrames v
    → stack ≡ with_written v.stack moment payload
    → HasEvents v.stack (push moment (length payload) ∷ reserve ∷ leave (Some payload) ∷ []) stack
    → KeepsPayloads v.stack stack
above_kept v stack moment payload (n, size, start, c, core) is has_events =
    grown start c.history v.stack stack _ core.are.stack_is (ap (λ (s : Stack). s.done) is)
    (ap (λ (s : Stack). s.older) is) (has_events start c.history core.are.stack_is).holds.tail_is.fill_is
    (ap (λ (s : Stack). s.tail.bytes) is)
    (λ slot held. subst (λ (fs : List Frame). HoldSlot fs slot) (sym (ap (λ (s : Stack). s.frames) is)) held)
