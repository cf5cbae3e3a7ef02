-- The next fill is begun, on a page that comes from its home.
use Rattle.std.proofs.Common.{◌≡◌, ◌≢◌, ℕ, ◌+◌, ◌<◌, List, [], ◌∷◌, length, Some, refl, sym, ap, ◌∙◌, subst, arith}
use Rattle.std.proofs.Common.{length-append}
use Rattle.trace_model.specs.declared.limits.TheConstants.{LINK_FILLS}
use Rattle.trace_model.specs.History.{open_fill}
use Rattle.trace_model.specs.Frames.{opening, noted_fill}
use Rattle.trace_model.specs.Ring.{Core}
use Rattle.trace_model.specs.Steps as model
use Rattle.ring_model.specs.KeptLinks.{PhaseKept}
use Rattle.ring_model.proofs.links.FrameChanges.{top_kept}
use Rattle.nested_writer.specs.declared.frame.Frame as stack
use Rattle.nested_writer.specs.Stack.{Stack, opened, blank_page}
use Rattle.nested_writer.specs.Calls.{with_tail}
use Rattle.nested_writer.specs.Allotted.{HasEvents}
use Rattle.ring_frames.specs.declared.phase.Phase.{Phase}
use Rattle.ring_frames.specs.declared.phase.Phase.TheVariants.{Opening}
use Rattle.ring_frames.specs.Value.{FramesValue, phase_of}
use Rattle.ring_frames.specs.AreFrames.{frames_in_phases, AreBelow, AreNotedAlike, AreFrames, HasFrames}
use Rattle.ring_frames.specs.Steps.{IsFrames}
use Rattle.ring_frames.proofs.Privately.{kept_of}
use Rattle.ring_frames.proofs.Tops.{topped}

-- a frame that is about to begin a fill has noted it
pub noted_in : (phase : Phase) (noted page : ℕ) → phase ≡ Opening noted page → noted_fill (phase_of phase) ≡ Some noted
noted_in phase noted page is = ap (λ (p : Phase). noted_fill (phase_of p)) is

module _ (n size start : ℕ) (v : FramesValue) (c : Core) (core : HasFrames n size start v c)
    (some : v.stack.frames ≢ []) (page : ℕ) (is : v.phase ≡ Opening (opened v.stack) page) where
  opens : PhaseKept n c.links c.order c.head c.done c.opened (opening c.opened page)
  opens = let top = topped n size start v c core.are some in
      subst (PhaseKept n c.links c.order c.head c.done c.opened)
      (top.phase_is ∙ ap phase_of is ∙ ap (λ (o : ℕ). opening o page) (sym core.are.opened_is))
      (top_kept n c top.frame top.below (kept_of n size start v c core).links top.is_top)

  room : length v.stack.older + 1 < v.stack.pages
  room = let s = core.are in
      let done = s.done_is in
      let begun = s.opened_is in
      let pages = s.pages_is in
      let low = (opens.noted c.opened refl).2 in
      omega arith

  fills : opened v.stack + v.stack.pages < LINK_FILLS
  fills = let s = core.are in
      let begun = s.opened_is in
      let pages = s.pages_is in
      let low = (opens.noted c.opened refl).3 in
      omega arith

-- a page may be added
pub may_begin : (v : FramesValue) (page : ℕ) → IsFrames v → v.stack.frames ≢ []
    → v.phase ≡ Opening (opened v.stack) page
    → (length v.stack.older + 1 < v.stack.pages) × (opened v.stack + v.stack.pages < LINK_FILLS)
may_begin v page (n, size, start, c, core) some is =
    (room n size start v c core some page is, fills n size start v c core some page is)

pub begun : (n size start : ℕ) (v : FramesValue) (c : Core) (page : ℕ) (later : Stack) (first : ℕ)
    → AreFrames n size start v c → later ≡ with_tail v.stack (blank_page v.stack.size first (opened v.stack))
    → HasEvents v.stack (open_fill ∷ []) later
    → AreFrames n size start (record v { stack = later }) (model.with_new_tail c page)
begun n size start v c page later first s added has_events =
    let same_done : later.done ≡ v.stack.done = ap (λ (x : Stack). x.done) added in
    let long : length later.older ≡ length v.stack.older + 1 =
    ap (λ (x : Stack). length x.older) added ∙ length-append v.stack.older (v.stack.tail ∷ []) in
    let same_frames : later.frames ≡ v.stack.frames = ap (λ (x : Stack). x.frames) added in
    let was_done = s.done_is in let was_opened = s.opened_is in record {
      pages_is = ap (λ (x : Stack). x.pages) added ∙ s.pages_is;
      size_is = ap (λ (x : Stack). x.size) added ∙ s.size_is;
      stack_is = has_events start c.history s.stack_is;
      done_is = omega arith;
      opened_is = omega arith;
      frames_are =
          s.frames_are ∙ ap (λ (fs : List stack.Frame). frames_in_phases fs (v.phase ∷ v.below)) (sym same_frames);
      below_are = subst (λ (fs : List stack.Frame). AreBelow fs v.below) (sym same_frames) s.below_are;
      noted = subst (λ (fs : List stack.Frame). AreNotedAlike fs (v.phase ∷ v.below)) (sym same_frames) s.noted;
    }

-- one more fill is begun
pub one_more : (v : FramesValue) (later : Stack) (first : ℕ)
    → later ≡ with_tail v.stack (blank_page v.stack.size first (opened v.stack)) → opened later ≡ opened v.stack + 1
one_more v later first added =
    let same_done : later.done ≡ v.stack.done = ap (λ (x : Stack). x.done) added in
    let long : length later.older ≡ length v.stack.older + 1 =
    ap (λ (x : Stack). length x.older) added ∙ length-append v.stack.older (v.stack.tail ∷ []) in
    omega arith
