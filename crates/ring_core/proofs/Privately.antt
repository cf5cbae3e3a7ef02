-- Steps that change the writer's frames alone, with their history and what the writer's own pages hold: the rest of the
-- ring shows the state after them as it did the one before.
use Rattle.std.proofs.Common.{◌≡◌, ◌≢◌, ℕ, ◌+◌, ◌<◌, ◌≤◌, List, length, slice_index_or, refl, sym, ◌∙◌, subst, arith}
use Rattle.trace_model.specs.Frames.{Frame}
use Rattle.trace_model.specs.History.{HistoryEvent}
use Rattle.trace_model.specs.Ring.{PageRecords, Core, page_at}
use Rattle.trace_model.specs.Steps as model
use Rattle.trace_model.specs.Steps.{contents_of}
use Rattle.trace_model.proofs.steps.StepSound.{cases_of}
use Rattle.ring_model.specs.RingKept.{IsRingKept}
use Rattle.ring_model.proofs.contents.PageChanges.{pages_differ}
use Rattle.ring_model.proofs.seats.PrivateSteps.{private_state, private_result, changes_privately}
use Rattle.ring_model.proofs.seats.SeatPages.{private_leaves_other_pages}
use Rattle.ring_frames.specs.declared.answer.Answer.{Answer}
use Rattle.ring_frames.specs.Value.{FramesValue}
use Rattle.ring_frames.specs.AreFrames.{AreFrames}
use Rattle.ring_frames.specs.Steps.{IsPrivateStep, MakesPrivate}
use Rattle.ring_frames.specs.Fills.{with_frames_and_history, IsLookForWish, LooksForWish}
use Rattle.ring_core.specs.Value.{CoreValue, frames_of, with_frames}
use Rattle.ring_core.specs.IsCore.{IsHome, HasStateOf}
use Rattle.ring_core.specs.Steps.{MakesStep}
use Rattle.ring_core.proofs.Stepped.{kept_of, stepped}

-- the page of a closed fill is none of the writer's
pub closed_is_other : (n size start : ℕ) (c : Core) (f : ℕ) → IsRingKept n size start c → c.head ≤ f → f < c.done
    → (i : ℕ) → i < length c.open_pages → slice_index_or c.open_pages i 0 ≢ page_at n c.order f
closed_is_other n size start c f k low high i inside e =
    let some = k.links.some_pages in
    let le = k.links.head_le in
    let room = k.links.opened_le in
    let count = k.open_pages.count in
    pages_differ n c.order c.spare c.head (c.done + i) f (omega arith) k.links.apart (omega arith) (omega arith) low
    (omega arith) (λ same. omega arith) (sym (k.open_pages.each i inside) ∙ e)

-- the ring with these frames, if they are those of the state with these frames, this history and these contents
pub shows_reframed : (n size start : ℕ) (v : CoreValue) (c : Core) (new : FramesValue) (frames : List Frame)
    (history : List HistoryEvent) (held : List PageRecords) → HasStateOf n size start v c
    → AreFrames n size start new (private_state c frames history held)
    → ((f : ℕ) → c.head ≤ f → f < c.done
    → contents_of (private_state c frames history held) (page_at n c.order f) ≡ contents_of c (page_at n c.order f))
    → HasStateOf n size start (with_frames v new) (private_state c frames history held)
shows_reframed n size start v c new frames history held s are holds =
    assumption (
      are,
      (λ (f : ℕ) (low : c.head ≤ f) (high : f < c.done).
          subst (IsHome v.homes size (page_at n c.order f) f) (sym (holds f low high)) (s.closed f low high)),
      s,
    )

-- a private step of the frames is one of the ring
pub made_privately : (v : CoreValue) (event : model.Event) (result : Answer) (new : FramesValue)
    → MakesPrivate (frames_of v) event result new → MakesStep v event result (with_frames v new)
made_privately v event result new makes = λ n size start c core.
    let p : IsPrivateStep n size start c event result new = makes n size start c core.reached core.shows.frames in
    let after : Core = p.after in
    let is = changes_privately c after (private_result n size c event p.answer after p.private (cases_of p.step)) in
    let others =
    private_leaves_other_pages n size start c event p.answer after (kept_of n size start v c core) p.private
    p.step in
    let behind : Core = private_state c after.frames after.history after.held in
    stepped n size start v (with_frames v new) c event result p.answer after core p.step p.reports
    (subst (HasStateOf n size start (with_frames v new)) (sym is)
    (shows_reframed n size start v c new after.frames after.history after.held core.shows
    (subst (AreFrames n size start new) is p.are)
    (λ f low high. subst (λ (d : Core). contents_of d (page_at n c.order f) ≡ contents_of c (page_at n c.order f)) is
    (others (page_at n c.order f) (closed_is_other n size start c f (kept_of n size start v c core) low high)))))

-- so is the look for the ring's wish
pub looked_for_wish : (v : CoreValue) (result : Answer) (new : FramesValue)
    → LooksForWish (frames_of v) v.wish result new → MakesStep v model.steps result (with_frames v new)
looked_for_wish v result new looks = λ n size start c core.
    let p : IsLookForWish n size start c result new =
    looks n size start c core.reached core.shows.frames core.shows.wish_is in
    stepped n size start v (with_frames v new) c model.steps result p.answer
    (with_frames_and_history c p.frames p.history) core p.step p.reports
    (shows_reframed n size start v c new p.frames p.history c.held core.shows p.are (λ f low high. refl))
