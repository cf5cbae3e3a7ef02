-- The oldest open fill is closed: its page goes home.
use Rattle.std.proofs.Common.{◌≡◌, ◌≢◌, ℕ, ◌+◌, ◌<◌, ◌≤◌, length, Some, refl, sym, ap, ◌∙◌, subst, arith}
use Rattle.std.specs.Prelude.{slice_set}
use Rattle.std.specs.List.{slice_get}
use mathlib.Core.Logic.{dite}
use native.Mathlib.Decide.{ℕ_discrete}
use Rattle.trace_model.specs.Ring.{Core, page_at}
use Rattle.trace_model.specs.Steps as model
use Rattle.ring_model.specs.RingKept.{IsRingKept}
use Rattle.trace_model.proofs.Positions.{page_turn}
use Rattle.ring_model.proofs.contents.PageChanges.{pages_differ, page_below}
use Rattle.page_image.specs.Contents.{Contents}
use Rattle.ring_frames.specs.declared.answer.Answer.TheVariants.{Going}
use Rattle.ring_frames.specs.Value.{FramesValue}
use Rattle.ring_frames.specs.Fills.{released_in, IsRelease}
use Rattle.ring_core.specs.Value.{CoreValue, with_frames}
use Rattle.ring_core.specs.IsCore.{IsHome, HasBody, IsCore}
use Rattle.ring_core.specs.Steps.{IsStep}
use Rattle.ring_core.proofs.Stepped.{kept_of, stepped}
use Rattle.ring_core.proofs.Homes.{get_set_same, get_set_other}

-- where the page that is let go is put
pub record IsLaid (v : CoreValue) (at : ℕ) : Type 0 where
  pub homes : length v.homes ≡ length v.links + 1
  pub at_is : at ≡ page_at (length v.links) v.order v.stack.done

module _ (n size start : ℕ) (v : CoreValue) (c : Core) (core : IsCore n size start v c) (new : FramesValue)
    (page : Contents) (at : ℕ) (gone : IsLaid v at) (let_go : IsRelease n size start c page new) where
  kept : IsRingKept n size start c
  kept = kept_of n size start v c core

  at_done : at ≡ page_at n c.order c.done
  at_done = let s = core.shows in
      gone.at_is ∙ (λ i. page_at (s.positions i) (sym s.order_is i) (sym s.frames.done_is i))

  bound : page_at n c.order c.done < length v.homes
  bound = let s = core.shows in
      let some = kept.links.some_pages in
      let homes = gone.homes in
      let wide = s.positions in
      let below = page_below n c.order c.spare c.done (omega arith) kept.links.apart in
      omega arith

  -- the page is at home
  laid : slice_get (slice_set v.homes at (Some page)) (page_at n c.order c.done) ≡ Some (Some page)
  laid =
      subst (λ (a : ℕ). slice_get (slice_set v.homes a (Some page)) (page_at n c.order c.done) ≡ Some (Some page))
      (sym at_done)
      (get_set_same v.homes (page_at n c.order c.done) (Some page) bound)

  others : (p : ℕ) → p ≢ page_at n c.order c.done → slice_get (slice_set v.homes at (Some page)) p ≡ slice_get v.homes p
  others p ne = get_set_other v.homes at (Some page) p (λ e. ne (e ∙ at_done))

  closed : (f : ℕ) → c.head ≤ f → f < c.done + 1
      → IsHome (slice_set v.homes at (Some page)) size (page_at n c.order f) f
      (model.contents_of c (page_at n c.order f))
  closed f low high = let s = core.shows in
      let some = kept.links.some_pages in
      let behind = kept.links.done_lt in
      let within = kept.links.opened_le in
      dite (ℕ_discrete f c.done)
      (λ e.
      subst
      (λ (g : ℕ).
      IsHome (slice_set v.homes at (Some page)) size (page_at n c.order g) g
      (model.contents_of c (page_at n c.order g))) (sym e) (page, laid, let_go.written))
      (λ ne. let (body, home, is) = s.closed f low (omega arith) in (
        body,
        others (page_at n c.order f)
            (pages_differ n c.order c.spare c.head f c.done (omega arith) kept.links.apart (omega arith)
            (omega arith) (omega arith) (omega arith) ne) ∙ home,
        is,
      ))

  free : (f : ℕ) → c.opened ≤ f → f < c.done + 1 + n
      → HasBody (slice_set v.homes at (Some page)) size (page_at n c.order f)
  free f low high = let s = core.shows in let some = kept.links.some_pages in let behind = kept.links.done_lt in
      dite (ℕ_discrete f (c.done + n))
      (λ e. let here : page_at n c.order f ≡ page_at n c.order c.done =
      ap (page_at n c.order) e ∙ page_turn n c.order c.done in
      (page, ap (slice_get (slice_set v.homes at (Some page))) here ∙ laid, let_go.written.size_is))
      (λ ne. let (body, home, is) = s.free f low (omega arith) in (
        body,
        others (page_at n c.order f)
            (pages_differ n c.order c.spare c.done f c.done (omega arith) kept.links.apart (omega arith)
            (omega arith) (omega arith) (omega arith) (λ e. omega arith)) ∙ home,
        is,
      ))

  pub released : IsStep n size start c model.steps Going
      (record (with_frames v new) { homes = slice_set v.homes at (Some page) })
  released = let s = core.shows in
      stepped n size start v (record (with_frames v new) { homes = slice_set v.homes at (Some page) }) c model.steps
      Going model.going (released_in c let_go.frame) core let_go.step refl (assumption (let_go, closed, free, s))
