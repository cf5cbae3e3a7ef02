-- The oldest open fill is closed: its page is let go.
use Rattle.std.proofs.Common.{◌≡◌, ◌≢◌, ℕ, suc, ◌+◌, ◌<◌, Bool, true, false, if◌then◌else◌, ◌==◌, List, [], ◌∷◌, length}
use Rattle.std.proofs.Common.{None, refl, sym, ap, ◌∙◌, subst, arith, append-nil}
use Rattle.std.proofs.lemmas.Bool.{eqb-true, eqb-false}
use Rattle.trace_model.specs.History.{HistoryEvent}
use Rattle.trace_model.specs.Frames.{left, noted_fill, Frame}
use Rattle.trace_model.specs.Ring.{Core, PageRecords, page_at, fill_of}
use Rattle.trace_model.specs.Steps as model
use Rattle.trace_model.proofs.steps.StepCases as cases
use Rattle.trace_model.proofs.steps.StepIs.{step_by}
use Rattle.ring_model.specs.RingKept.{IsRingKept}
use Rattle.ring_model.proofs.frames.StackSteps.{releasing_left}
use Rattle.ring_model.proofs.links.FrameChanges.{top_kept}
use Rattle.ring_model.proofs.links.FramePhases.{none_some}
use Rattle.page_image.specs.Contents.{Contents}
use Rattle.nested_writer.specs.declared.frame.Progress.TheVariants.{Left}
use Rattle.nested_writer.specs.declared.frame.Frame as stack
use Rattle.nested_writer.specs.Stack.{Stack, opened, kind_of}
use Rattle.nested_writer.specs.IsStack.{IsStack}
use Rattle.nested_writer.specs.Calls.{IsAtBottom}
use Rattle.nested_writer.specs.Allotted.{HasEvents}
use Rattle.nested_writer.specs.Released.{IsWrittenPage}
use Rattle.ring_frames.specs.declared.phase.Phase.{Phase}
use Rattle.ring_frames.specs.declared.phase.Phase.TheVariants.{Releasing, Wishing}
use Rattle.ring_frames.specs.Phases.{closing_phase}
use Rattle.ring_frames.specs.Value.{FramesValue, phase_of}
use Rattle.ring_frames.specs.AreFrames.{frames_in_phases, AreBelow, AreNotedAlike, AreFrames, HasFrames}
use Rattle.ring_frames.specs.Steps.{IsFrames}
use Rattle.ring_frames.specs.Fills.{released_in, IsRelease}
use Rattle.ring_frames.proofs.Privately.{kept_of}
use Rattle.ring_frames.proofs.Bottom.{IsAlone, alone}

-- what is known of the page that the stack lets go
pub record IsLetGo (v : FramesValue) (later : Stack) (page : Contents) : Type 0 where
  pub oldest : v.stack.older ≡ page ∷ later.older
  pub released : later ≡ record v.stack { done = v.stack.done + 1; older = later.older }
  pub has_events : HasEvents v.stack [] later
  pub written : (start : ℕ) (history : List HistoryEvent) → IsStack start history v.stack
      → IsWrittenPage v.stack.size v.stack.done (fill_of history start v.stack.done) page

module _ (n size start : ℕ) (v : FramesValue) (c : Core) (core : HasFrames n size start v c)
    (some : v.stack.frames ≢ []) (is : v.phase ≡ Releasing) where
  kept : IsRingKept n size start c
  kept = kept_of n size start v c core

  one : IsAlone v c
  one =
      alone n size start v c core.are kept some
      (λ kind state may. releasing_left kind state (phase_of v.phase) (ap phase_of is) may)

  pub is_bottom : IsAtBottom v.stack.frames
  is_bottom = subst IsAtBottom (sym one.frames_are) tt

  -- the frame on top, alone, as the model has it in this phase
  frame_in : Phase → Frame
  frame_in phase = record { kind = kind_of one.purpose; state = left; phase = phase_of phase }

  more_open : c.done + 1 < c.opened
  unfolding frame_in
  more_open = (top_kept n c (frame_in v.phase) [] kept.links one.model).releases (ap phase_of is)

  some_older : 0 < length v.stack.older
  some_older = let s = core.are in
      let done = s.done_is in
      let begun = s.opened_is in
      let more = more_open in
      omega arith

  module _ (later : Stack) (page : Contents) (gone : IsLetGo v later page) where
    written : IsWrittenPage size c.done (model.contents_of c (page_at n c.order c.done)) page
    written = let s = core.are in let low = kept.links.head_le in let high = kept.links.done_lt in
        let w = gone.written start c.history s.stack_is in
        let w' : IsWrittenPage size c.done (fill_of c.history start c.done) page =
        subst (λ (f : ℕ). IsWrittenPage size f (fill_of c.history start f) page) (sym s.done_is)
        (subst (λ (z : ℕ). IsWrittenPage z v.stack.done (fill_of c.history start v.stack.done) page) s.size_is
        w) in
        subst (λ (h : PageRecords). IsWrittenPage size c.done h page) (sym (kept.contents.each c.done low high)) w'

    frames_same : later.frames ≡ record { purpose = one.purpose; progress = Left one.noted } ∷ []
    frames_same = ap (λ (x : Stack). x.frames) gone.released ∙ one.frames_are

    are_in : (phase : Phase) → noted_fill (phase_of phase) ≡ None
        → AreFrames n size start (record v { stack = later; phase = phase }) (released_in c (frame_in phase))
    unfolding frame_in
    are_in phase none_noted = let s = core.are in
        let same_done : later.done ≡ v.stack.done + 1 = ap (λ (x : Stack). x.done) gone.released in
        let long : length v.stack.older ≡ suc (length later.older) = ap length gone.oldest in
        let was_done = s.done_is in let was_opened = s.opened_is in record {
          pages_is = ap (λ (x : Stack). x.pages) gone.released ∙ s.pages_is;
          size_is = ap (λ (x : Stack). x.size) gone.released ∙ s.size_is;
          stack_is =
              subst (λ (h : List HistoryEvent). IsStack start h later) (append-nil c.history)
              (gone.has_events start c.history s.stack_is);
          done_is = omega arith;
          opened_is = omega arith;
          frames_are = sym (λ i. frames_in_phases (frames_same i) (phase ∷ one.below_is i));
          below_are =
              subst (λ (fs : List stack.Frame). AreBelow fs v.below) (sym (ap (λ (x : Stack). x.frames) gone.released))
              s.below_are;
          noted =
              subst (λ (fs : List stack.Frame). AreNotedAlike fs (phase ∷ v.below)) (sym frames_same)
              ((λ o e. absurd (none_some (sym none_noted ∙ e))), tt);
        }

    release_to : (phase : Phase) → noted_fill (phase_of phase) ≡ None
        → cases.ReleaseFillStep c (frame_in v.phase) [] model.going (released_in c (frame_in phase))
        → IsRelease n size start c page (record v { stack = later; phase = phase })
    unfolding frame_in
    release_to phase none step = record {
      frame = frame_in phase;
      step =
          step_by
          (cases.frame_step (frame_in v.phase) [] refl one.model
          (subst
          (λ (p : Phase).
          cases.FrameStep n size c (frame_in v.phase) [] (phase_of p) model.going
          (released_in c (frame_in phase))) (sym is) step));
      written = written;
      are = are_in phase none;
    }

    released_with : (b : Bool) → ((later.done + 1) == opened later) ≡ b
        → IsRelease n size start c page (record v { stack = later; phase = if b then Wishing else Releasing })
    unfolding frame_in
    released_with true e = let s = core.are in let done = s.done_is in let begun = s.opened_is in
        let last : later.done + 1 ≡ opened later = eqb-true (later.done + 1) (opened later) e in
        let done_now : later.done ≡ v.stack.done + 1 = ap (λ (x : Stack). x.done) gone.released in
        let long : length v.stack.older ≡ suc (length later.older) = ap length gone.oldest in
        release_to Wishing refl (cases.releases_last refl (omega arith) refl refl)
    released_with false e = let s = core.are in
        let done = s.done_is in
        let begun = s.opened_is in
        let more = more_open in
        let not_last : later.done + 1 ≢ opened later = eqb-false (later.done + 1) (opened later) e in
        let done_now : later.done ≡ v.stack.done + 1 = ap (λ (x : Stack). x.done) gone.released in
        let long : length v.stack.older ≡ suc (length later.older) = ap length gone.oldest in
        let stays : ◌≡◌ {A = List Frame} (frame_in Releasing ∷ []) c.frames =
        ap (λ (p : Phase). frame_in p ∷ []) (sym is) ∙ sym one.model in
        release_to Releasing refl
        (cases.releases refl (omega arith) refl (λ i. record (model.with_released c) { frames = stays i }))

    pub released : (phase : Phase) → phase ≡ closing_phase later
        → IsRelease n size start c page (record v { stack = later; phase = phase })
    released phase closes =
        subst (λ (p : Phase). IsRelease n size start c page (record v { stack = later; phase = p })) (sym closes)
        (released_with ((later.done + 1) == opened later) refl)

-- the stack may let it go
pub may_let_go : (v : FramesValue) → IsFrames v → v.stack.frames ≢ [] → v.phase ≡ Releasing
    → (0 < length v.stack.older) × IsAtBottom v.stack.frames
may_let_go v (n, size, start, c, core) some is =
    (some_older n size start v c core some is, is_bottom n size start v c core some is)
