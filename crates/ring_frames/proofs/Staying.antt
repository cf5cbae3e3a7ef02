-- The frame of a record that was written at once, which has left: it looks for the reader's wish, and is gone if that
-- isn't for the next fill.
use Rattle.std.specs.Prelude.{◌==◌, Bool, true, false, if◌then◌else◌}
use Rattle.std.proofs.Common.{◌≡◌, ◌≢◌, ℕ, ◌+◌, ◌<◌, List, [], ◌∷◌, length, Some, None, refl, sym, ap, ◌∙◌, subst}
use Rattle.std.proofs.Common.{arith, append-nil}
use Rattle.std.proofs.lemmas.Bool.{eqb-true}
use Rattle.trace_model.specs.declared.limits.TheConstants.{LINK_FILLS}
use Rattle.trace_model.specs.History.{HistoryEvent, wished}
use Rattle.trace_model.specs.Packing.{tail_of}
use Rattle.nested_writer.specs.declared.frame.Purpose.TheVariants.{Record}
use Rattle.nested_writer.specs.declared.frame.Progress.TheVariants.{Left}
use Rattle.nested_writer.specs.declared.frame.Frame.{Frame}
use Rattle.nested_writer.specs.Stack.{Stack, opened}
use Rattle.nested_writer.specs.IsStack.{IsStack}
use Rattle.nested_writer.specs.Calls.{with_bottom}
use Rattle.nested_writer.specs.Allotted.{HasEvents}
use Rattle.nested_writer.specs.AtOnce.{with_left}
use Rattle.nested_writer.proofs.AtOnce.{goes_again}
use Rattle.ring_frames.specs.declared.phase.Phase.{Phase}
use Rattle.ring_frames.specs.declared.phase.Phase.TheVariants.{Looking, Releasing, Wishing}
use Rattle.ring_frames.specs.declared.answer.Answer.TheVariants.{Going, Gone}
use Rattle.ring_frames.specs.Value.{FramesValue}
use Rattle.ring_frames.specs.Phases.{closing_phase}
use Rattle.ring_frames.specs.AreFrames.{HasFrames}
use Rattle.ring_frames.specs.Fills.{IsLookForWish, LooksForWish, GrantsNone}
use Rattle.ring_frames.specs.AtOnce.{with_left_frame}
use Rattle.ring_frames.proofs.Wishing.{no_record, not_for_tail, granted, goes_away}

last_by : (b : Bool) → (let phase : Phase = if b then Wishing else Releasing in phase) ≡ Wishing → b ≡ true
last_by true is = refl
last_by false is = absurd (not_both is)
  where
    not_both : Releasing ≡ Wishing → ⊥
    not_both e = cc

-- no fill is left to close
pub last_open : (s : Stack) → closing_phase s ≡ Wishing → s.done + 1 ≡ opened s
last_open s closed = eqb-true (s.done + 1) (opened s) (last_by ((s.done + 1) == opened s) closed)

some_left : (v : FramesValue) (moment len : ℕ) → (with_left v.stack moment len).frames ≢ []
some_left v moment len e = let none = ap (length {A = Frame}) e in absurd (omega arith)

-- without it the stack is as it was
left_again : (s : Stack) (moment len : ℕ) → s.frames ≡ [] → HasEvents (with_left s moment len) [] s
left_again s moment len none = λ start h k.
    let bare : ◌≡◌ {A = Stack} (record s { frames = [] }) s =
    ap (λ (fs : List Frame). let x : Stack = record s { frames = fs } in x) (sym none) in
    subst (λ (g : List HistoryEvent). IsStack start g s) (sym (append-nil h))
    (subst (IsStack start h) bare
    (goes_again start h (with_left s moment len) (record { purpose = Record moment len; progress = Left None }) refl
    refl k))

module _ (v : FramesValue) (wish moment len : ℕ) (none : v.stack.frames ≡ []) (closed : closing_phase v.stack ≡ Wishing)
  where
    bare : (start : ℕ) (h : List HistoryEvent) → IsStack start h (with_left v.stack moment len)
        → IsStack start h v.stack
    bare start h k =
        subst (λ (g : List HistoryEvent). IsStack start g v.stack) (append-nil h)
        (left_again v.stack moment len none start h k)

    -- it is gone if the wish isn't granted
    pub gone_refused : GrantsNone (with_left_frame v moment len) wish
        → LooksForWish (with_left_frame v moment len) wish Gone v
    gone_refused refused = λ n size start c reached are asks.
        let core : HasFrames n size start (with_left_frame v moment len) c = record { reached = reached; are = are } in
        let last = last_open v.stack closed in
        let popped : ◌≡◌ {A = Stack} v.stack (record v.stack { frames = [] }) =
        ap (λ (fs : List Frame). let x : Stack = record v.stack { frames = fs } in x) none in
        goes_away n size start (with_left_frame v moment len) c core (some_left v moment len) closed v.stack v.phase
        (refused n size start c are asks) (omega arith) popped (left_again v.stack moment len none)

    pub gone_unasked : (wish ≡ v.stack.done + 1 → ⊥) → LooksForWish (with_left_frame v moment len) wish Gone v
    gone_unasked other = let last = last_open v.stack closed in
        gone_refused (not_for_tail (with_left_frame v moment len) wish (λ next. other (next.0 ∙ sym last)))

    pub gone_blank : ((start : ℕ) (history : List HistoryEvent) → IsStack start history v.stack → tail_of history ≢ []
        → ⊥) → LooksForWish (with_left_frame v moment len) wish Gone v
    gone_blank blank =
        gone_refused (no_record (with_left_frame v moment len) wish (λ start h k. blank start h (bare start h k)))

    -- it closes the tail if it is
    pub granted_again : (later : Stack) → wish ≡ opened v.stack → wish + v.stack.pages < LINK_FILLS
        → ((start : ℕ) (history : List HistoryEvent) → IsStack start history v.stack → tail_of history ≢ [])
        → later ≡ with_bottom (with_left v.stack moment len) (Some (opened v.stack))
        → HasEvents v.stack (wished ∷ []) later
        → LooksForWish (with_left_frame v moment len) wish Going (record v { stack = later; phase = Looking wish })
    granted_again later next more holds asked has_events = λ n size start c reached are asks.
        let core : HasFrames n size start (with_left_frame v moment len) c = record { reached = reached; are = are } in
        subst (λ (o : ℕ). IsLookForWish n size start c Going (record v { stack = later; phase = Looking o })) (sym next)
        (granted n size start (with_left_frame v moment len) c core (some_left v moment len) closed later (asks ∙ next)
        (omega arith)
        (holds start c.history (bare start c.history are.stack_is)) asked
        (λ from h k. has_events from h (bare from h k)))
