-- The bottom frame looks for the reader's wish: it closes the tail for it, or what was begun meanwhile, or is gone.
use Rattle.std.proofs.Common.{◌≡◌, ◌≢◌, ℕ, ◌+◌, ◌<◌, ◌≤◌, List, [], ◌∷◌, ◌++◌, Some, refl, sym, ap, ◌∙◌, subst, arith}
use Rattle.std.proofs.Common.{append-nil}
use Rattle.std.specs.Prelude.{Bool, false, IsTrue}
use Rattle.trace_model.specs.declared.limits.TheConstants.{LINK_FILLS}
use Rattle.trace_model.specs.History.{HistoryEvent, wished}
use Rattle.trace_model.specs.Packing.{tail_of}
use Rattle.trace_model.specs.Frames.{left, Frame}
use Rattle.trace_model.specs.Ring.{Core}
use Rattle.trace_model.specs.Steps as model
use Rattle.trace_model.proofs.steps.StepCases as cases
use Rattle.trace_model.proofs.steps.StepIs.{step_by}
use Rattle.ring_model.proofs.frames.StackSteps.{wishing_left}
use Rattle.ring_model.proofs.links.FramePhases.{none_some}
use Rattle.nested_writer.specs.declared.frame.Progress.TheVariants.{Left}
use Rattle.nested_writer.specs.declared.frame.Frame as stack
use Rattle.nested_writer.specs.Stack.{Stack, opened, kind_of}
use Rattle.nested_writer.specs.IsStack.{IsStack}
use Rattle.nested_writer.specs.Calls.{with_bottom, asked_frames, IsAtBottom}
use Rattle.nested_writer.specs.Allotted.{HasEvents}
use Rattle.ring_frames.specs.declared.phase.Phase.{Phase}
use Rattle.ring_frames.specs.declared.phase.Phase.TheVariants.{Looking, Releasing, Wishing}
use Rattle.ring_frames.specs.declared.answer.Answer.{Answer}
use Rattle.ring_frames.specs.declared.answer.Answer.TheVariants.{Going, Gone}
use Rattle.ring_frames.specs.Value.{FramesValue, phase_of}
use Rattle.ring_frames.specs.AreFrames.{frames_in_phases, AreBelow, AreNotedAlike, AreFrames, HasFrames}
use Rattle.ring_frames.specs.Answers.{IsAnswerOf}
use Rattle.ring_frames.specs.Fills.{with_frames_and_history, IsLookForWish, GrantsNone}
use Rattle.ring_frames.proofs.Privately.{kept_of}
use Rattle.ring_frames.proofs.Bottom.{IsAlone, alone}
use Rattle.ring_frames.proofs.Reshown.{reshown}

pub no_record : (v : FramesValue) (wish : ℕ)
    → ((start : ℕ) (history : List HistoryEvent) → IsStack start history v.stack → tail_of history ≢ [] → ⊥)
    → GrantsNone v wish
no_record v wish none = λ n size start c are same g. none start c.history are.stack_is g.holds_record

-- a wish that isn't for the tail, or for the last fill
pub not_for_tail : (v : FramesValue) (wish : ℕ) → ((wish ≡ opened v.stack) × (wish + v.stack.pages < LINK_FILLS) → ⊥)
    → GrantsNone v wish
not_for_tail v wish other = λ n size start c are same g.
    let next : wish ≡ opened v.stack = sym same ∙ g.asks_tail ∙ are.opened_is in
    let begun = are.opened_is in
    let pages = are.pages_is in
    let left = g.numbers_left in
    other (next, omega arith)

module _ (n size start : ℕ) (v : FramesValue) (c : Core) (core : HasFrames n size start v c)
    (some : v.stack.frames ≢ []) (is : v.phase ≡ Wishing) where
  one : IsAlone v c
  one =
      alone n size start v c core.are (kept_of n size start v c core) some
      (λ kind state may. wishing_left kind state (phase_of v.phase) (ap phase_of is) may)

  pub is_bottom : IsAtBottom v.stack.frames
  is_bottom = subst IsAtBottom (sym one.frames_are) tt

  frame_in : Phase → Frame
  frame_in phase = record { kind = kind_of one.purpose; state = left; phase = phase_of phase }

  looks : (result : Answer) (new : FramesValue) (answer : model.Answer) (frames : List Frame)
      (history : List HistoryEvent)
      → cases.LoadWishStep n c (frame_in v.phase) [] answer (with_frames_and_history c frames history)
      → IsAnswerOf size result answer → AreFrames n size start new (with_frames_and_history c frames history)
      → IsLookForWish n size start c result new
  unfolding frame_in
  looks result new answer frames history step reports shows = record {
    answer = answer;
    frames = frames;
    history = history;
    step =
        step_by
        (cases.frame_step (frame_in v.phase) [] refl one.model
        (subst
        (λ (p : Phase).
        cases.FrameStep n size c (frame_in v.phase) [] (phase_of p) answer
        (with_frames_and_history c frames history)) (sym is) step));
    reports = reports;
    are = shows;
  }

  pub granted : (later : Stack) → c.wish ≡ opened v.stack → opened v.stack + v.stack.pages < LINK_FILLS
      → tail_of c.history ≢ [] → later ≡ with_bottom v.stack (Some (opened v.stack))
      → HasEvents v.stack (wished ∷ []) later
      → IsLookForWish n size start c Going (record v { stack = later; phase = Looking (opened v.stack) })
  unfolding frame_in
  granted later asks more holds asked has_events = let s = core.are in
      let begun = s.opened_is in let wide = s.pages_is in
      let same_frames : later.frames ≡ record { purpose = one.purpose; progress = Left (Some (opened v.stack)) } ∷ [] =
      ap (λ (x : Stack). x.frames) asked
      ∙ ap (λ (fs : List stack.Frame). asked_frames fs (Some (opened v.stack))) one.frames_are in
      looks Going (record v { stack = later; phase = Looking (opened v.stack) }) model.going
      (frame_in (Looking c.opened) ∷ []) (c.history ++ wished ∷ [])
      (cases.grants refl record { asks_tail = asks ∙ sym s.opened_is; holds_record = holds; numbers_left = omega arith }
      refl refl) refl
      (reshown n size start v c later (Looking (opened v.stack)) v.below (frame_in (Looking c.opened) ∷ [])
      (c.history ++ wished ∷ []) c.held s record {
        pages_is = ap (λ (x : Stack). x.pages) asked;
        size_is = ap (λ (x : Stack). x.size) asked;
        done_is = ap (λ (x : Stack). x.done) asked;
        opened_is = ap opened asked;
        stack_is = has_events start c.history s.stack_is;
        frames_are =
            ap (λ (o : ℕ). frame_in (Looking o) ∷ []) s.opened_is
            ∙ sym (λ i. frames_in_phases (same_frames i) (Looking (opened v.stack) ∷ one.below_is i));
        below_are =
            subst (λ (fs : List stack.Frame). AreBelow fs v.below) (sym same_frames)
            (subst (λ (fs : List stack.Frame). AreBelow fs v.below) one.frames_are s.below_are);
        noted =
            subst (λ (fs : List stack.Frame). AreNotedAlike fs (Looking (opened v.stack) ∷ v.below)) (sym same_frames)
            ((λ o e. e), tt);
      })

  pub closes_more : (model.IsGranted n c → ⊥) → v.stack.done + 1 < opened v.stack
      → IsLookForWish n size start c Going (record v { phase = Releasing })
  unfolding frame_in
  closes_more none more = let s = core.are in let begun = s.opened_is in let done = s.done_is in
      looks Going (record v { phase = Releasing }) model.going (frame_in Releasing ∷ []) c.history
      (cases.closes_more refl none (omega arith) refl refl) refl
      (reshown n size start v c v.stack Releasing v.below (frame_in Releasing ∷ []) c.history c.held s record {
        pages_is = refl;
        size_is = refl;
        done_is = refl;
        opened_is = refl;
        stack_is = s.stack_is;
        frames_are = sym (λ i. frames_in_phases (one.frames_are i) (Releasing ∷ one.below_is i));
        below_are = s.below_are;
        noted =
            subst (λ (fs : List stack.Frame). AreNotedAlike fs (Releasing ∷ v.below)) (sym one.frames_are)
            ((λ o e. absurd (none_some e)), tt);
      })

  pub goes_away : (later : Stack) (phase : Phase) → (model.IsGranted n c → ⊥) → opened v.stack ≤ v.stack.done + 1
      → later ≡ record v.stack { frames = [] } → HasEvents v.stack [] later
      → IsLookForWish n size start c Gone (record v { stack = later; phase = phase })
  goes_away later phase none last popped has_events = let s = core.are in
      let begun = s.opened_is in
      let done = s.done_is in
      let no_frames : later.frames ≡ [] = ap (λ (x : Stack). x.frames) popped in
      looks Gone (record v { stack = later; phase = phase }) model.gone [] c.history
      (cases.goes_away refl none (omega arith) refl refl) refl
      (reshown n size start v c later phase v.below [] c.history c.held s record {
        pages_is = ap (λ (x : Stack). x.pages) popped;
        size_is = ap (λ (x : Stack). x.size) popped;
        done_is = ap (λ (x : Stack). x.done) popped;
        opened_is = ap opened popped;
        stack_is =
            subst (λ (h : List HistoryEvent). IsStack start h later) (append-nil c.history)
            (has_events start c.history s.stack_is);
        frames_are = ap (λ (fs : List stack.Frame). frames_in_phases fs (phase ∷ v.below)) (sym no_frames);
        below_are = subst (λ (fs : List stack.Frame). AreBelow fs v.below) (sym no_frames) one.below_is;
        noted = subst (λ (fs : List stack.Frame). AreNotedAlike fs (phase ∷ v.below)) (sym no_frames) tt;
      })

-- ---- what a test decides

false_is_not_true : IsTrue false → ⊥
false_is_not_true truth = cc

pub not_true : (b : Bool) → b ≡ false → IsTrue b → ⊥
not_true b is truth = false_is_not_true (subst IsTrue is truth)

cons_ne_nil : (x : ℕ) (xs : List ℕ) → x ∷ xs ≢ []
cons_ne_nil x xs e = cc

pub nil_if_not_some : (xs : List ℕ) → (xs ≢ [] → ⊥) → xs ≡ []
nil_if_not_some [] none = refl
nil_if_not_some (x ∷ xs) none = absurd (none (cons_ne_nil x xs))
