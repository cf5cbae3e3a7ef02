-- Which fill a link states, if it is one of the ring's.
use Rattle.std.proofs.Common.{◌≡◌, ℕ, suc, ◌+◌, ◌%◌, ◌<◌, ◌≤◌, List, get_or, sym, ap, ◌∙◌, mod-lt, arith}
use mathlib.Core.Logic.{dite}
use native.Mathlib.Decide.{ℕ_discrete}
use Rattle.trace_model.specs.Links.{Link, normal_link, header_link, update_link}
use Rattle.trace_model.specs.Frames.{Frame}
use Rattle.trace_model.specs.Ring.{link_into, page_at, Core}
use Rattle.ring_model.specs.KeptLinks.{HasMover, LinkKept, is_normal, is_header, is_update, LinksKept}
use Rattle.trace_model.proofs.Positions.{at_position, link_round}
use Rattle.ring_model.proofs.links.FramePhases.{normal_ne_header, normal_ne_update, header_ne_update, Owned}
use Rattle.ring_model.proofs.links.FramePhases.{stands_owned}

module _ (n : ℕ) (links : List Link) (order : List ℕ) (head : ℕ) (frames : List Frame) where
  -- a NORMAL states the fill at whose position it is
  pub normal_reports : (f page fill : ℕ) → LinkKept n links order head frames f
      → link_into n links f ≡ normal_link page fill → (fill ≡ f) × (page ≡ page_at n order f)
  normal_reports f page fill (is_normal e owed) at = let same = sym at ∙ e in
      (ap (λ (l : Link). l.fill) same, ap (λ (l : Link). l.page) same)
  normal_reports f page fill (is_header e here) at =
      absurd (normal_ne_header page fill (page_at n order f) f (sym at ∙ e))
  normal_reports f page fill (is_update lost sum e st) at =
      absurd (normal_ne_update page fill (page_at n order f) lost (sym at ∙ e))

  -- a HEADER states the head
  pub header_reports : (f page fill : ℕ) → LinkKept n links order head frames f
      → link_into n links f ≡ header_link page fill → (fill ≡ f) × (f ≡ head) × (page ≡ page_at n order f)
  header_reports f page fill (is_normal e owed) at =
      absurd (normal_ne_header (page_at n order f) f page fill (sym e ∙ at))
  header_reports f page fill (is_header e here) at = let same = sym at ∙ e in
      (ap (λ (l : Link). l.fill) same, here, ap (λ (l : Link). l.page) same)
  header_reports f page fill (is_update lost sum e st) at =
      absurd (header_ne_update page fill (page_at n order f) lost (sym at ∙ e))

  -- an UPDATE states the fill that was lost there
  pub update_reports : (f page lost : ℕ) → LinkKept n links order head frames f
      → link_into n links f ≡ update_link page lost → (lost + n ≡ f) × (page ≡ page_at n order f) × HasMover frames f
  update_reports f page lost (is_normal e owed) at =
      absurd (normal_ne_update (page_at n order f) f page lost (sym e ∙ at))
  update_reports f page lost (is_header e here) at =
      absurd (header_ne_update (page_at n order f) f page lost (sym e ∙ at))
  update_reports f page lost (is_update u sum e st) at = let same = sym at ∙ e in
      let fills : lost ≡ u = ap (λ (l : Link). l.fill) same in (omega arith, ap (λ (l : Link). l.page) same, st)

module _ (n : ℕ) (c : Core) (k : LinksKept n c) where
  pub owned_by : (f : ℕ) → HasMover c.frames f → Owned n c.links c.order c.head c.done f
  owned_by f st = stands_owned n c.links c.order c.head c.done c.opened c.frames f k.frames st

  -- the fill to open, if its position is free
  pub normal_inside : (f page : ℕ) → c.head ≤ f → f ≤ c.head + n → link_into n c.links f ≡ normal_link page f
      → (f < c.head + n) × (page ≡ page_at n c.order f)
  normal_inside f page low high at = let some_pages = k.some_pages in dite (ℕ_discrete f (c.head + n))
      (λ e. let reported =
      normal_reports n c.links c.order c.head c.frames c.head page f (k.each c.head (omega arith) (omega arith))
      (sym (link_round n c.links c.head) ∙ ap (link_into n c.links) (sym e) ∙ at) in
      let is : f ≡ c.head = reported.0 in absurd (omega arith))
      (λ ne. let within : f < c.head + n = omega arith in
      (within, (normal_reports n c.links c.order c.head c.frames f page f (k.each f low within) at).1))

  -- the fill to open, if the head was moved on from its position
  pub update_inside : (f page lost : ℕ) → c.head ≤ f → f ≤ c.head + n → lost + n ≡ f
      → link_into n c.links f ≡ update_link page lost → (f < c.head + n) × (page ≡ page_at n c.order f)
  update_inside f page lost low high sum at = let some_pages = k.some_pages in dite (ℕ_discrete f (c.head + n))
      (λ e. let reported =
      update_reports n c.links c.order c.head c.frames c.head page lost (k.each c.head (omega arith) (omega arith))
      (sym (link_round n c.links c.head) ∙ ap (link_into n c.links) (sym e) ∙ at) in
      let is : lost + n ≡ c.head = reported.0 in absurd (omega arith))
      (λ ne. let within : f < c.head + n = omega arith in
      (within, (update_reports n c.links c.order c.head c.frames f page lost (k.each f low within) at).1))

  -- the fill to open, if the ring is full: its position is the head's
  pub header_inside : (f page lost : ℕ) → c.head < f → f ≤ c.head + n → lost + n ≡ f
      → link_into n c.links f ≡ header_link page lost
      → (lost ≡ c.head) × (page ≡ page_at n c.order c.head) × (link_into n c.links c.head ≡ header_link page lost)
  header_inside f page lost low high sum at = let some_pages = k.some_pages in dite (ℕ_discrete f (c.head + n))
      (λ e. let here = sym (link_round n c.links c.head) ∙ ap (link_into n c.links) (sym e) ∙ at in
      let reported =
      header_reports n c.links c.order c.head c.frames c.head page lost (k.each c.head (omega arith) (omega arith))
      here in
      (reported.0, reported.2, here))
      (λ ne. let reported =
      header_reports n c.links c.order c.head c.frames f page lost (k.each f (omega arith) (omega arith)) at in
      let is : f ≡ c.head = reported.1 in
      absurd (omega arith))

  -- the link to a fill whose HEADER is owed
  pub next_inside : (lost page : ℕ) → lost < c.head → c.done < lost + n
      → link_into n c.links (suc lost) ≡ normal_link page (suc lost)
      → (suc lost ≡ c.head) × (page ≡ page_at n c.order (suc lost))
  next_inside lost page below open_yet at = let some_pages = k.some_pages in
      let unread = k.head_le in
      dite (ℕ_discrete (suc lost) c.head)
      (λ e. (
        e,
        (normal_reports n c.links c.order c.head c.frames (suc lost) page (suc lost)
            (k.each (suc lost) (omega arith) (omega arith)) at).1,
      ))
      (λ ne. let reported =
      normal_reports n c.links c.order c.head c.frames (suc lost + n) page (suc lost)
      (k.each (suc lost + n) (omega arith) (omega arith)) (link_round n c.links (suc lost) ∙ at) in
      let is : suc lost ≡ suc lost + n = reported.0 in absurd (omega arith))

  -- each position has a fill from the head on
  pub fill_at : (f : ℕ)
      → (g : ℕ) × (c.head ≤ g) × (g < c.head + n) × (link_into n c.links g ≡ link_into n c.links f)
      × LinkKept n c.links c.order c.head c.frames g
  fill_at f = let some_pages = k.some_pages in
      let (g, low, high, at) = at_position c.head n (f % n) (mod-lt f (omega arith)) in
      (g, low, high, ap (λ (i : ℕ). get_or c.links i (normal_link 0 0)) at, k.each g low high)

  -- after a closed head the link is NORMAL
  pub behind_closed : c.head < c.done
      → link_into n c.links (suc c.head) ≡ normal_link (page_at n c.order (suc c.head)) (suc c.head)
  behind_closed closed = let some_pages = k.some_pages in from (k.each (suc c.head) (omega arith) (omega arith))
    where
      from : LinkKept n c.links c.order c.head c.frames (suc c.head)
          → link_into n c.links (suc c.head) ≡ normal_link (page_at n c.order (suc c.head)) (suc c.head)
      from (is_normal e owed) = e
      from (is_header e here) = absurd (omega arith)
      from (is_update lost sum e st) = let (u, is, below, open_yet, at) = owned_by (suc c.head) st in
          absurd (omega arith)
