-- What a writer knows of the numbers that its steps go by.
use Rattle.std.proofs.Common.{◌≡◌, ◌≢◌, ℕ, ◌+◌, ◌<◌, ◌≤◌, [], length, Some, refl, sym, ap, ◌∙◌, subst, arith}
use Rattle.trace_model.specs.declared.limits.TheConstants.{MAX_PAGES, LINK_FILLS}
use Rattle.trace_model.specs.Frames.{Phase, noted_fill}
use Rattle.ring_model.specs.KeptLinks.{PhaseKept}
use Rattle.ring_model.specs.SeenLinks.{HasSeenLink, HaveSeenLinks}
use Rattle.ring_model.specs.KeptProgress.{PhaseAdvances, FramesAdvance}
use Rattle.ring_model.proofs.links.FrameChanges.{top_kept}
use Rattle.ring_model.proofs.links.SeenLinks.{frames_have_seen_links}
use Rattle.nested_writer.specs.Stack.{opened}
use Rattle.ring_steps.specs.Views.{Writing}
use Rattle.ring_frames.specs.Value.{phase_of}
use Rattle.ring_shared.specs.Value.{WriterValue}
use Rattle.ring_shared.specs.Calls.{AreWriterFields}
use Rattle.ring_shared.specs.Promises.{MovesHead}
use Rattle.ring_frames.specs.declared.phase.Phase as code
use Rattle.ring_frames.specs.declared.phase.Phase.TheVariants.{Idle, Looking, Claiming, LookingNext, Marking, Clearing}
use Rattle.ring_frames.specs.declared.phase.Phase.TheVariants.{Opening, Releasing, Wishing}
use Rattle.ring_shared.proofs.Called.{writer_seen, top_seen, phase_seen}
use Rattle.ring_shared.proofs.Standing.{kept_now, top_in}

module _ (v : WriterValue) (w : AreWriterFields v) where
  pub opened_now : opened v.frames.stack ≡ v.part.opened
  opened_now = sym w.frames_are.opened_is ∙ ap (λ (p : Writing). p.opened) w.part_is

  pub done_now : v.frames.stack.done ≡ v.part.done
  done_now = sym w.frames_are.done_is ∙ ap (λ (p : Writing). p.done) w.part_is

  -- the pages of the fills that are begun and not closed
  pub count_now : v.part.done + length v.pages ≡ v.part.opened
  count_now =
      let count = (kept_now v w).open_pages.count in
      let done = ap (λ (p : Writing). p.done) w.part_is in
      let begun = ap (λ (p : Writing). p.opened) w.part_is in
      let wide = ap (λ (p : Writing). length p.open_pages) w.part_is in
      let same = ap (length {A = ℕ}) w.pages_are in omega arith

  -- one of them is the tail
  pub some_open : 0 < length v.pages
  some_open =
      let count = count_now in let behind = (kept_now v w).links.done_lt in
      let done = ap (λ (p : Writing). p.done) w.part_is in
      let begun = ap (λ (p : Writing). p.opened) w.part_is in
      omega arith

  module _ (phase : Phase) (some : v.frames.stack.frames ≢ []) (at : phase_of v.frames.phase ≡ phase) where
    -- what the frame on top knows in its phase
    pub knows : PhaseKept v.shape.pages w.core.links w.core.order w.core.head w.core.done w.core.opened phase
    knows =
        let t = top_in v w w.core w.part_is some in
        subst (PhaseKept v.shape.pages w.core.links w.core.order w.core.head w.core.done w.core.opened)
        (t.phase_is ∙ at)
        (top_kept v.shape.pages w.core t.frame t.below (kept_now v w).links t.is_top)

    pub advances : PhaseAdvances v.shape.pages w.core.links w.core.head phase
    advances =
        let t = top_in v w w.core w.part_is some in
        subst (PhaseAdvances v.shape.pages w.core.links w.core.head) (t.phase_is ∙ at)
        (subst (FramesAdvance v.shape.pages w.core.links w.core.head) t.is_top (kept_now v w).progress.advance).0

    pub fits : v.shape.pages ≤ MAX_PAGES → HasSeenLink v.shape.pages w.core.links w.core.head phase
    fits few =
        let t = top_in v w w.core w.part_is some in
        subst (HasSeenLink v.shape.pages w.core.links w.core.head) (t.phase_is ∙ at)
        (subst (HaveSeenLinks v.shape.pages w.core.links w.core.head) t.is_top
        (frames_have_seen_links v.shape.pages v.shape.size v.shape.start w.core few w.reached)).0

    module _ (noted : ℕ) (is : noted_fill phase ≡ Some noted) where
      -- the fill that it noted has a number, after which there is a whole round of them
      pub noted_bounds : (v.part.done < noted) × (noted ≤ v.part.opened) × (noted < v.part.done + v.shape.pages)
          × (noted + v.shape.pages < LINK_FILLS)
      noted_bounds =
          let (low, high, room, numbers) = knows.noted noted is in
          let done = ap (λ (p : Writing). p.done) w.part_is in let begun = ap (λ (p : Writing). p.opened) w.part_is in
          (omega arith, omega arith, omega arith, numbers)

-- what a call knows of the writer's fields, if its view is that one
module _ {v x : WriterValue} (view_is : v ≡ x) (w : AreWriterFields x) where
  pub pages_called : v.frames.stack.pages ≡ x.shape.pages
  pages_called = ap (λ (y : WriterValue). y.frames.stack.pages) view_is ∙ w.frames_are.pages_is

  -- the number of pages that the frames answer is the ring's, and what the frame on top saw of the head holds
  pub fits_called : x.frames.stack.frames ≢ [] → {phase : code.Phase} → x.frames.phase ≡ phase → (pages : ℕ)
      → pages ≡ v.frames.stack.pages → pages ≤ MAX_PAGES
      → (pages ≡ v.shape.pages)
      × HasSeenLink v.shape.pages (writer_seen view_is w).core.links (writer_seen view_is w).core.head
      (phase_of phase)
  fits_called some {phase = phase} at pages pages_is few =
      let same : pages ≡ v.shape.pages = pages_is ∙ (writer_seen view_is w).frames_are.pages_is in (
        same,
        fits v (writer_seen view_is w) (phase_of phase) (top_seen view_is some) (phase_seen view_is at)
            (subst (λ (k : ℕ). k ≤ MAX_PAGES) same few),
      )

  -- the fill that the frame on top noted has a whole round of fills below it, and one above it
  abbrev HasRound : ℕ → Type 0
  HasRound noted = (v.shape.pages ≤ noted) × (noted + v.shape.pages < LINK_FILLS)

  round_at : x.frames.stack.frames ≢ [] → (phase : code.Phase) → x.frames.phase ≡ phase → (noted : ℕ)
      → noted_fill (phase_of phase) ≡ Some noted
      → (PhaseAdvances v.shape.pages (writer_seen view_is w).core.links (writer_seen view_is w).core.head
      (phase_of phase) → v.shape.pages ≤ noted) → HasRound noted
  round_at some phase at noted is wide =
      let own : AreWriterFields v = writer_seen view_is w in
      let (low, high, room, numbers) =
      noted_bounds v own (phase_of phase) (top_seen view_is some) (phase_seen view_is at) noted is in
      (wide (advances v own (phase_of phase) (top_seen view_is some) (phase_seen view_is at)), numbers)

  -- so it is if the frame moves the head on
  pub round_called : x.frames.stack.frames ≢ [] → (phase : code.Phase) (noted : ℕ) → x.frames.phase ≡ phase
      → MovesHead phase noted → HasRound noted
  round_called some (LookingNext role o page) noted at is =
      subst HasRound is (round_at some (LookingNext role o page) at o refl (λ round. round))
  round_called some (Marking role o page next) noted at is =
      subst HasRound is (round_at some (Marking role o page next) at o refl (λ round. round))
  round_called some Idle noted at is = absurd is
  round_called some (Looking o) noted at is = absurd is
  round_called some (Claiming o page) noted at is = absurd is
  round_called some (Clearing o page) noted at is = absurd is
  round_called some (Opening o page) noted at is = absurd is
  round_called some Releasing noted at is = absurd is
  round_called some Wishing noted at is = absurd is
