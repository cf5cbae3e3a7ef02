-- What the writer knows of the counts before its steps on links, and what such a step shows after it.
use Rattle.std.specs.Prelude.{slice_index_or, true, ◌==◌, ◌↔◌}
use Rattle.std.proofs.Common.{◌≡◌, ℕ, ◌+◌, ◌-◌, ◌<◌, ◌≤◌, List, ◌++◌, length, Some, refl, sym, ap, ◌∙◌, subst, eq-eqb}
use Rattle.std.proofs.Common.{arith}
use Rattle.std.proofs.lemmas.Bool.{eqb-true}
use Rattle.std.proofs.Math.Logic.{∥∥₁_elim}
use Rattle.std.proofs.Props.{props}
use Rattle.trace_model.specs.declared.limits.TheConstants.{MAX_PAGES, LINK_PAGES, LINK_FILLS}
use Rattle.trace_model.specs.Links.{Link, word_of, update_link, FitsWord}
use Rattle.trace_model.specs.Frames.{Phase, marking, clearing, Frame, noted_fill, owned_update}
use Rattle.trace_model.specs.Ring.{Core, link_into}
use Rattle.trace_model.specs.Steps.{Answer}
use Rattle.trace_model.proofs.steps.StepCases.{ClearUpdateStep, clears}
use Rattle.trace_model.proofs.words.LinkWords.{word_reports}
use Rattle.ring_model.specs.KeptLinks.{spot, passed_spot}
use Rattle.ring_model.specs.RingKept.{IsRingKept}
use Rattle.ring_model.specs.Reached.{IsReached}
use Rattle.ring_model.proofs.links.FrameChanges.{top_kept}
use Rattle.ring_model.proofs.contents.PageChanges.{page_below}
use Rattle.ring_model.proofs.frames.TopSteps.{top_stepped}
use Rattle.ring_model.proofs.partition.RingsKept.{reached_kept}
use Rattle.ring_steps.specs.declared.rule.Shape.{Shape}
use Rattle.ring_steps.specs.declared.ends.WriterSeat.{WriterSeat}
use Rattle.ring_steps.specs.Made.{WriterMade, privately_made}
use Rattle.ring_steps.specs.Views.{Writing, writing_of, writing}
use Rattle.ring_steps.specs.Seats.{Leads, IsWriterStep}
use Rattle.ring_steps.specs.Ends.{writing_in}
use Rattle.ring_steps.specs.Paging.{IsWriterReached, IsTopIn}
use Rattle.ring_steps.specs.Linking.{tail_in, noted_on_top, role_on_top, MarksNext}
use Rattle.ring_steps.proofs.Private.{private_reached}
use Rattle.ring_steps.proofs.Paging.{top_of}
use Rattle.ring_steps.proofs.Linking.{link_fits}

-- ---- before the step

-- a state whose writer's part is this
record StateNow (shape : Shape) (now : Writing) : Type 0 where
  core : Core
  made : List WriterMade
  kept : IsRingKept shape.pages shape.size shape.start core
  is : writing_of made core ≡ now

state_now : (shape : Shape) (before now : Writing) → IsWriterReached shape before → Leads shape before now
    → StateNow shape now
state_now shape before now known leads =
    let (exchanges, aside, run, now_is) = leads known.core known.reached known.is in record {
      core = aside;
      made = before.made ++ privately_made shape.pages shape.size known.core exchanges aside run;
      kept =
          reached_kept shape.pages shape.size shape.start aside
          (private_reached shape.pages shape.size shape.start known.core aside exchanges known.reached run);
      is = now_is;
    }

module _ (shape : Shape) (before now : Writing) (known : ∥ IsWriterReached shape before ∥₁)
    (leads : Leads shape before now) where
  tail_of_state : StateNow shape now → (tail_in now < shape.pages + 1) × (now.opened < LINK_FILLS)
  tail_of_state st =
      let c = st.core in let k = st.kept in
      let count = k.open_pages.count in
      let behind = k.links.done_lt in
      let some = k.links.some_pages in
      let fits = k.links.fits in
      let at = k.open_pages.each (length c.open_pages - 1) (omega arith) in
      let below =
      page_below shape.pages c.order c.spare (c.done + (length c.open_pages - 1)) (omega arith) k.links.apart in
      let tail_is : tail_in now ≡ slice_index_or c.open_pages (length c.open_pages - 1) 0 = ap tail_in (sym st.is) in
      let opened_is : now.opened ≡ c.opened = ap (λ (w : Writing). w.opened) (sym st.is) in (omega arith, omega arith)

  pub tail_bounds : (tail_in now < shape.pages + 1) × (now.opened < LINK_FILLS)
  tail_bounds = ∥∥₁_elim known (Prim.hlevel props) (λ w. tail_of_state (state_now shape before now w leads))

  -- a page that a frame passed, and the fill that it noted
  passed_of_state : (phase : Phase) (noted page : ℕ) → IsTopIn now.frames phase
      → passed_spot phase ≡ Some (spot noted page) → noted_fill phase ≡ Some noted → StateNow shape now
      → (page < shape.pages + 1) × (noted + shape.pages < LINK_FILLS)
      × (slice_index_or now.open_pages (noted - 1 - now.done) 0 < shape.pages + 1) × (1 ≤ shape.pages)
  passed_of_state phase noted page on spot_is noted_is st =
      let c = st.core in let k = st.kept in
      let some = k.links.some_pages in let count = k.open_pages.count in
      let top = top_of c.frames phase (subst (λ (w : Writing). IsTopIn w.frames phase) (sym st.is) on) in
      let facts = top_kept shape.pages c top.frame top.below k.links top.is in
      let page_is = (facts.passed noted page (ap passed_spot top.phase_is ∙ spot_is)).2 in
      let (low, high, room, numbers) = facts.noted noted (ap noted_fill top.phase_is ∙ noted_is) in
      let below = page_below shape.pages c.order c.spare noted (omega arith) k.links.apart in
      let at = k.open_pages.each (noted - 1 - c.done) (omega arith) in
      let front_below =
      page_below shape.pages c.order c.spare (c.done + (noted - 1 - c.done)) (omega arith) k.links.apart in
      let front_is : slice_index_or now.open_pages (noted - 1 - now.done) 0
      ≡ slice_index_or c.open_pages (noted - 1 - c.done) 0 =
      ap (λ (w : Writing). slice_index_or w.open_pages (noted - 1 - w.done) 0) (sym st.is) in
      (omega arith, numbers, omega arith, omega arith)

  pub passed_bounds : (phase : Phase) (noted page : ℕ) → IsTopIn now.frames phase
      → passed_spot phase ≡ Some (spot noted page) → noted_fill phase ≡ Some noted
      → (page < shape.pages + 1) × (noted + shape.pages < LINK_FILLS)
      × (slice_index_or now.open_pages (noted - 1 - now.done) 0 < shape.pages + 1) × (1 ≤ shape.pages)
  passed_bounds phase noted page on spot_is noted_is =
      ∥∥₁_elim known (Prim.hlevel props)
      (λ w. passed_of_state phase noted page on spot_is noted_is (state_now shape before now w leads))

  pub after_lost_fits : (page next after_lost : ℕ) → MarksNext shape.pages now page next after_lost
      → after_lost < LINK_FILLS
  after_lost_fits page next after_lost due =
      let (low, numbers, front, some) =
      passed_bounds (marking (role_on_top now.frames) (noted_on_top now.frames) page next) (noted_on_top now.frames)
      page due.phase refl refl in
      let sum = due.after_lost_is in
      omega arith

  -- a frame that clears noted a fill whose position had one before
  lost_of_state : (page noted : ℕ) → IsTopIn now.frames (clearing noted page) → StateNow shape now → shape.pages ≤ noted
  lost_of_state page noted on st =
      let c = st.core in
      let top =
      top_of c.frames (clearing noted page)
      (subst (λ (w : Writing). IsTopIn w.frames (clearing noted page)) (sym st.is) on) in
      let (lost, sum, below, closed, there) =
      (top_kept shape.pages c top.frame top.below st.kept.links top.is).moves noted
      (ap owned_update top.phase_is) in
      omega arith

  pub lost_bounds : (page noted : ℕ) → IsTopIn now.frames (clearing noted page) → shape.pages ≤ noted
  lost_bounds page noted on =
      ∥∥₁_elim known (Prim.hlevel props) (λ w. lost_of_state page noted on (state_now shape before now w leads))

-- The numbers of a frame that clears its UPDATE have room in a word: its page, the fill that it noted, and the one
-- before at that position; and the front page has a word.
pub record ClearFits (shape : Shape) (page noted front : ℕ) : Type 0 where
  pub round : shape.pages ≤ noted
  pub page_fits : page < LINK_PAGES
  pub noted_fits : noted < LINK_FILLS
  pub lost_fits : noted - shape.pages < LINK_FILLS
  pub front_fits : front < shape.pages + 1

pub clear_fits : (self : WriterSeat) (page noted front : ℕ)
    → Leads self.shape (writing self.seat.me.0) (writing_in self)
    → IsTopIn (writing_in self).frames (clearing noted page)
    → front ≡ slice_index_or (writing_in self).open_pages (noted - 1 - (writing_in self).done) 0
    → ClearFits self.shape page noted front
clear_fits self page noted front leads on front_is =
    let round : self.shape.pages ≤ noted =
    lost_bounds self.shape (writing self.seat.me.0) (writing_in self) self.reached leads page noted on in
    let (low, numbers, front_low, some) =
    passed_bounds self.shape (writing self.seat.me.0) (writing_in self) self.reached leads (clearing noted page)
    noted page on refl refl in
    let few = self.table.pages_fit in record {
      round = round;
      page_fits = omega arith;
      noted_fits = omega arith;
      lost_fits = omega arith;
      front_fits = omega arith;
    }

-- ---- after the step

-- a frame that clears finds its UPDATE
update_there : (n : ℕ) (c : Core) (frame : Frame) (below : List Frame) (noted page lost : ℕ) (answer : Answer)
    (after : Core) → lost + n ≡ noted → ClearUpdateStep n c frame below noted page answer after
    → link_into n c.links noted ≡ update_link page lost
update_there n c frame below noted page lost answer after sum (clears u u_sum at a after_is) =
    let same : u ≡ lost =
    omega arith in
    at ∙ ap (update_link page) same

pub cleared_update : (shape : Shape) (now : Writing) (page noted lost : ℕ) (sees : Core → Type 0) (answer : Answer)
    (after : Writing) → IsTopIn now.frames (clearing noted page) → lost + shape.pages ≡ noted
    → (s : IsWriterStep shape now sees answer after)
    → link_into shape.pages s.core.links noted ≡ update_link page lost
cleared_update shape now page noted lost sees answer after on sum s =
    let c = s.core in
    let top =
    top_of c.frames (clearing noted page)
    (subst (λ (w : Writing). IsTopIn w.frames (clearing noted page)) (sym s.before_is) on) in
    update_there shape.pages c top.frame top.below noted page lost answer s.next sum
    (top_stepped shape.pages shape.size c top.frame top.below (clearing noted page) answer s.next top.is top.phase_is
    s.step)

pub seen_as : (shape : Shape) (before : Writing) (sees other : Core → Type 0) (answer : Answer) (after : Writing)
    → ((core : Core) → IsReached shape.pages shape.size shape.start core → sees core → other core)
    → IsWriterStep shape before sees answer after
    → IsWriterStep shape before other answer after
seen_as shape before sees other answer after turn s = record {
  core = s.core;
  next = s.next;
  reached = s.reached;
  before_is = s.before_is;
  seen = turn s.core s.reached s.seen;
  step = s.step;
  after_is = s.after_is;
}

module _ (shape : Shape) (few : shape.pages ≤ MAX_PAGES) (fill found : ℕ) (l : Link) (fits : FitsWord l) (core : Core)
    (reached : IsReached shape.pages shape.size shape.start core)
    (seen : word_of (link_into shape.pages core.links fill) ≡ found) where
  -- the link is the one whose word was found
  pub link_seen : word_of l ≡ found → link_into shape.pages core.links fill ≡ l
  link_seen same =
      word_reports (link_into shape.pages core.links fill) l
      (link_fits shape.pages shape.size shape.start core fill few reached) fits (seen ∙ sym same)

  -- an exchange was done if and only if it was there
  pub done_seen : (from : ℕ) → from ≡ word_of l → ((found == from) ≡ true) ↔ (link_into shape.pages core.links fill ≡ l)
  done_seen from is = (
    (λ e. link_seen (sym is ∙ sym (eqb-true found from e))),
    (λ e. eq-eqb found from (sym seen ∙ (ap word_of e ∙ sym is))),
  )
