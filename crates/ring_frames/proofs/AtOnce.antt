-- A record that is written at once, as three private steps: its frame is pushed, reserves and ends.
use Rattle.std.specs.Prelude.{Bool, if◌then◌else◌}
use Rattle.std.proofs.Common.{◌≡◌, ℕ, ◌+◌, ◌<◌, List, [], ◌∷◌, ◌++◌, length, Some, None, refl, sym, ap, ◌∙◌, subst}
use Rattle.std.proofs.Common.{eq-eqb, arith}
use Rattle.trace_model.specs.declared.limits.TheConstants.{MAX_FRAMES}
use Rattle.trace_model.specs.History.{push, reserve, leave}
use Rattle.trace_model.specs.Frames.{for_record, left, Frame as ModelFrame}
use Rattle.trace_model.specs.Ring.{Core}
use Rattle.trace_model.specs.Steps as model
use Rattle.nested_writer.specs.declared.frame.Purpose.TheVariants.{Record}
use Rattle.nested_writer.specs.declared.frame.Progress.TheVariants.{Left}
use Rattle.nested_writer.specs.declared.frame.Frame.{Frame}
use Rattle.nested_writer.specs.Stack.{Stack, opened, next_number}
use Rattle.nested_writer.specs.AtOnce.{FitsAtOnce, FitsInTail, with_written, with_left, with_record}
use Rattle.nested_writer.specs.Allotted.{HasEvents}
use Rattle.nested_writer.proofs.Answering.{number_counts}
use Rattle.nested_writer.proofs.AtOnce.{stands_again}
use Rattle.ring_frames.specs.declared.phase.Phase.{Phase}
use Rattle.ring_frames.specs.declared.phase.Phase.TheVariants.{Releasing, Wishing}
use Rattle.ring_frames.specs.Phases.{closing_phase}
use Rattle.ring_frames.specs.Value.{FramesValue}
use Rattle.ring_frames.specs.AreFrames.{frames_in_phases, AreBelow, AreNotedAlike, AreFrames}
use Rattle.ring_frames.specs.Steps.{IsFrames}
use Rattle.ring_frames.specs.AtOnce.{with_left_frame, IsWriteAtOnce, WritesAtOnce, IsWrittenAlone}
use Rattle.ring_frames.proofs.Privately.{kept_of, top_is_private}
use Rattle.ring_frames.proofs.Left.{closing_is, left_notes, closing_value}
use Rattle.ring_frames.proofs.Reshown.{reshown}
use Rattle.ring_frames.proofs.InTail as tail

module _ (n size start : ℕ) (v : FramesValue) (c : Core) (k : AreFrames n size start v c) (moment : ℕ)
    (payload : List ℕ) (fits : FitsAtOnce v.stack moment (length payload)) (stack : Stack)
    (is : stack ≡ with_record v.stack moment payload) where
  abbrev len : ℕ
  len = length payload

  none : v.stack.frames ≡ []
  none = fits.0

  none_below : v.below ≡ []
  none_below = subst (λ (fs : List Frame). AreBelow fs v.below) none k.below_are

  bare : c.frames ≡ []
  bare = k.frames_are ∙ ap (λ (fs : List Frame). frames_in_phases fs (v.phase ∷ v.below)) none

  few : length v.stack.frames < MAX_FRAMES
  few = subst (λ (fs : List Frame). length fs < MAX_FRAMES) (sym none) (omega arith)

  own : FitsInTail v.stack moment len
  own = fits.1

  abbrev pushed : Core
  pushed = tail.pushed n size start v c k moment payload few own [] bare

  abbrev with_its_record : Core
  with_its_record = tail.with_its_record n size start v c k moment payload few own [] bare

  abbrev after : Core
  after = tail.after n size start v c k moment payload few own [] bare

  abbrev has_left : Frame
  has_left = record { purpose = Record moment len; progress = Left None }

  shown : HasEvents v.stack (push moment len ∷ reserve ∷ leave (Some payload) ∷ []) stack
      → AreFrames n size start (closing_value v stack) after
  shown has_events =
      let frames_is : stack.frames ≡ has_left ∷ [] = ap (λ (s : Stack). s.frames) is in
      let done : c.done ≡ stack.done = k.done_is ∙ sym (ap (λ (s : Stack). s.done) is) in
      let begun : c.opened ≡ opened stack = k.opened_is ∙ sym (ap opened is) in
      reshown n size start v c stack (closing_phase stack) v.below after.frames after.history after.held k record {
        pages_is = ap (λ (s : Stack). s.pages) is;
        size_is = ap (λ (s : Stack). s.size) is;
        done_is = ap (λ (s : Stack). s.done) is;
        opened_is = ap opened is;
        stack_is = tail.kept n size start v c k moment payload few own [] bare stack has_events;
        frames_are =
            (λ i. let f : ModelFrame =
            record { kind = for_record moment len; state = left; phase = sym (closing_is stack c done begun) i } in
            f ∷ []) ∙ ap (λ (fs : List Frame). frames_in_phases fs (closing_phase stack ∷ v.below)) (sym frames_is);
        below_are = subst (λ (fs : List Frame). AreBelow fs v.below) (sym frames_is) (ap length none_below);
        noted =
            subst (λ (fs : List Frame). AreNotedAlike fs (closing_phase stack ∷ v.below)) (sym frames_is)
            (left_notes stack (Record moment len) None, tt);
      }

  pub written : HasEvents v.stack (push moment len ∷ reserve ∷ leave (Some payload) ∷ []) stack
      → IsWriteAtOnce n size start c moment payload (next_number v.stack) (closing_value v stack)
  written has_events = record {
    pushed = pushed;
    reserved = with_its_record;
    after = after;
    push = tail.push_is n size start v c k moment payload few own [] bare;
    push_private = tt;
    waits = tail.pushed_frames n size start v c k moment payload few own [] bare;
    next = number_counts start c.history v.stack k.stack_is;
    reserve = tail.reserve_is n size start v c k moment payload few own [] bare;
    reserve_private =
        top_is_private pushed (tail.waits n size start v c k moment payload few own [] bare) []
        (tail.pushed_frames n size start v c k moment payload few own [] bare) tt;
    has_slot = tail.has_slot n size start v c k moment payload few own [] bare;
    end = tail.end_is n size start v c k moment payload few own [] bare;
    end_private = tt;
    are = shown has_events;
  }

-- its frame, which has left, may be put on the stack afterwards
left_has_events : (s stack : Stack) (moment : ℕ) (payload : List ℕ) → FitsAtOnce s moment (length payload)
    → stack ≡ with_written s moment payload
    → HasEvents s (push moment (length payload) ∷ reserve ∷ leave (Some payload) ∷ []) stack
    → HasEvents s (push moment (length payload) ∷ reserve ∷ leave (Some payload) ∷ [])
    (with_left stack moment (length payload))
left_has_events s stack moment payload fits is has_events = λ start h k.
    let none : stack.frames ≡ [] = ap (λ (x : Stack). x.frames) is ∙ fits.0 in
    let short =
    subst (λ (z : ℕ). model.IsTooLong z (length payload) → ⊥) (sym (ap (λ (x : Stack). x.size) is)) fits.1.0.0 in
    stands_again start (h ++ push moment (length payload) ∷ reserve ∷ leave (Some payload) ∷ []) stack moment
    (length payload) none (short, fits.1.0.1) (has_events start h k)

pub writes_at_once : (v : FramesValue) (stack : Stack) (moment : ℕ) (payload : List ℕ)
    → FitsAtOnce v.stack moment (length payload) → stack ≡ with_written v.stack moment payload
    → HasEvents v.stack (push moment (length payload) ∷ reserve ∷ leave (Some payload) ∷ []) stack
    → WritesAtOnce v moment payload (with_left_frame (record v { stack = stack }) moment (length payload))
writes_at_once v stack moment payload fits is has_events = λ n size start c reached are.
    written n size start v c are moment payload fits (with_left stack moment (length payload))
    (ap (λ (s : Stack). with_left s moment (length payload)) is)
    (left_has_events v.stack stack moment payload fits is has_events)

-- if no frame is on the stack, no fill is left to close
pub closed_at_rest : (v : FramesValue) → IsFrames v → v.stack.frames ≡ [] → closing_phase v.stack ≡ Wishing
closed_at_rest v (n, size, start, c, core) none =
    let k = core.are in
    let bare : c.frames ≡ [] = k.frames_are ∙ ap (λ (fs : List Frame). frames_in_phases fs (v.phase ∷ v.below)) none in
    let rest = (kept_of n size start v c core).stack.at_rest bare in
    let done = k.done_is in let begun = k.opened_is in
    let last : v.stack.done + 1 ≡ opened v.stack = omega arith in
    subst (λ (b : Bool). (let phase : Phase = if b then Wishing else Releasing in phase) ≡ Wishing)
    (sym (eq-eqb (v.stack.done + 1) (opened v.stack) last)) refl

pub written_alone : (v : FramesValue) (stack : Stack) (moment : ℕ) (payload : List ℕ) → IsFrames v
    → FitsAtOnce v.stack moment (length payload) → stack ≡ with_written v.stack moment payload
    → IsWrittenAlone v moment payload (record v { stack = stack })
written_alone v stack moment payload (n, size, start, c, core) fits is = record {
  none = fits.0;
  stack = is;
  phase = refl;
  below = subst (λ (fs : List Frame). AreBelow fs v.below) fits.0 core.are.below_are;
  closed = ap closing_phase is ∙ closed_at_rest v (n, size, start, c, core) fits.0;
}
