-- Each step of the reader keeps what is known of links, counts, frames and the reader.
use Rattle.std.proofs.Common.{◌≡◌, ◌≢◌, ℕ, suc, ◌+◌, ◌%◌, ◌<◌, ◌≤◌, List, length, get_or, set, refl, sym, ap, ◌∙◌}
use Rattle.std.proofs.Common.{subst, mod-lt, arith, length-set}
use Rattle.std.proofs.lemmas.List.{get_or-set_same, get_or-set_other}
use mathlib.Core.Logic.{dite}
use native.Mathlib.Decide.{ℕ_discrete}
use Rattle.trace_model.specs.Links.{Link, normal_link, header_link, update_link}
use Rattle.trace_model.specs.Frames.{Frame, Phase}
use Rattle.trace_model.specs.Ring.{ReaderPhase, loading_head, loading_done, storing_spare_link, swapping, Reader, Core}
use Rattle.trace_model.specs.Ring.{link_into, links_with, page_at, AreApart}
use Rattle.trace_model.specs.Steps.{Answer, reader_at, reader_saw, with_wish, next_header, after_swap}
use Rattle.trace_model.proofs.steps.StepCases.{LoadHeadStep, loads_header, loads_update, loads_owed, loads_passed}
use Rattle.trace_model.proofs.steps.StepCases.{LoadDoneStep, finds_none, finds_closed, StoreSpareLinkStep, SwapHeadStep}
use Rattle.trace_model.proofs.steps.StepCases.{swaps, swap_fails, ReadStep}
use Rattle.ring_model.specs.KeptLinks.{PhaseKept, LinkKept, is_normal, is_header, is_update, HasSeen, ReaderKept}
use Rattle.ring_model.specs.KeptLinks.{FitsRing, LinksKept}
use Rattle.trace_model.proofs.Positions.{link_here, link_else, link_round, page_turn, page_here, page_else}
use Rattle.ring_model.proofs.links.FramePhases.{normal_ne_update, normal_ne_header, header_ne_update, relink_phase}
use Rattle.ring_model.proofs.links.FramePhases.{map_frames}
use Rattle.ring_model.proofs.links.LinkFills.{normal_reports, header_reports, update_reports, owned_by, fill_at}
use Rattle.ring_model.proofs.links.LinkFills.{behind_closed}

-- the reader goes on; the spare's link may be set
pub reader_kept : (n : ℕ) (c : Core) (spare_link : Link) (reader : Reader) → LinksKept n c → reader.hint ≤ c.head
    → reader.seen ≤ c.done → c.reader.seen ≤ reader.seen → FitsRing n spare_link
    → ReaderKept n c.links c.order spare_link c.head c.done reader.hint reader.phase
    → LinksKept n (record c { spare_link = spare_link; reader = reader })
reader_kept n c spare_link reader k le seen later fits facts =
    let wish_le : c.wish ≤ reader.seen + 1 = (let wish = k.wish_le in omega arith) in
    assumption (le, seen, wish_le, fits, facts, k)

at_phase : (n : ℕ) (c : Core) (phase : ReaderPhase) (hint : ℕ) → LinksKept n c → hint ≤ c.head
    → ReaderKept n c.links c.order c.spare_link c.head c.done hint phase → LinksKept n (reader_at c phase hint)
at_phase n c phase hint k le facts =
    reader_kept n c c.spare_link (record c.reader { phase = phase; hint = hint }) k le k.seen_le (omega arith)
    k.spare_fits facts

-- the reader wishes
pub wished_kept : (n : ℕ) (c : Core) → LinksKept n c → LinksKept n (with_wish c)
wished_kept n c k = let wish_le : c.reader.seen + 1 ≤ c.reader.seen + 1 = omega arith in assumption (wish_le, k)

pub load_head_kept : (n : ℕ) (c after : Core) (answer : Answer) → LinksKept n c → LoadHeadStep n c answer after
    → LinksKept n after
load_head_kept n c after answer k (loads_header page fill at a is) =
    let (g, low, high, same, link) =
    fill_at n c k c.reader.hint in
    let reported = header_reports n c.links c.order c.head c.frames g page fill link (same ∙ at) in
    let here = reported.1 in
    let it = reported.0 in
    subst (LinksKept n) (sym is)
    (at_phase n c (loading_done page fill) fill k (omega arith)
    record { fill_is = refl; stays = λ e. ap (link_into n c.links) reported.0 ∙ same ∙ at })
load_head_kept n c after answer k (loads_update page lost at a is) =
    let (g, low, high, same, link) =
    fill_at n c k c.reader.hint in
    let reported = update_reports n c.links c.order c.head c.frames g page lost link (same ∙ at) in
    let (u, sum, below, open_yet, there) = owned_by n c k g reported.2 in let it = reported.0 in
    subst (LinksKept n) (sym is) (at_phase n c loading_head (suc lost) k (omega arith) tt)
load_head_kept n c after answer k (loads_owed page at a is) =
    subst (LinksKept n) (sym is) (at_phase n c loading_head c.reader.hint k k.hint_le tt)
load_head_kept n c after answer k (loads_passed page fill least at more sum a is) =
    let (g, low, high, same, link) =
    fill_at n c k c.reader.hint in
    let reported = normal_reports n c.links c.order c.head c.frames g page fill link (same ∙ at) in
    let it = reported.0 in
    subst (LinksKept n) (sym is) (at_phase n c loading_head least k (omega arith) tt)

-- the reader goes on, and has seen how many fills are closed
saw_kept : (n : ℕ) (c : Core) (phase : ReaderPhase) → LinksKept n c
    → ReaderKept n c.links c.order c.spare_link c.head c.done c.reader.hint phase → LinksKept n (reader_saw c phase)
saw_kept n c phase k facts =
    reader_kept n c c.spare_link (record c.reader { phase = phase; seen = c.done }) k k.hint_le (omega arith) k.seen_le
    k.spare_fits facts

pub load_done_kept : (n : ℕ) (c after : Core) (page fill : ℕ) (answer : Answer) → LinksKept n c
    → HasSeen n c.links c.head c.reader.hint page fill → LoadDoneStep c page fill answer after → LinksKept n after
load_done_kept n c after page fill answer k seen (finds_none le a is) =
    subst (LinksKept n) (sym is) (saw_kept n c loading_head k tt)
load_done_kept n c after page fill answer k seen (finds_closed below a is) =
    subst (LinksKept n) (sym is) (saw_kept n c (storing_spare_link page fill) k (seen, below))

-- the link that leads to the fill after a closed one
next_fits : (n : ℕ) (c : Core) (fill : ℕ) → LinksKept n c → fill < c.done → FitsRing n (next_header n c fill)
next_fits n c fill k closed = let some_pages = k.some_pages in let behind = k.done_lt in let fits = k.fits in
    (k.apart.each (suc fill % n) (mod-lt (suc fill) (omega arith)), omega arith)

pub store_spare_link_kept : (n : ℕ) (c after : Core) (page fill : ℕ) (answer : Answer) → LinksKept n c
    → HasSeen n c.links c.head c.reader.hint page fill × (fill < c.done) → StoreSpareLinkStep n c page fill answer after
    → LinksKept n after
store_spare_link_kept n c after page fill answer k facts step =
    subst (LinksKept n) (sym step.after_is)
    (reader_kept n c (next_header n c fill) (record c.reader { phase = swapping page fill }) k k.hint_le k.seen_le
    (omega arith) (next_fits n c fill k facts.1) (facts.0, facts.1, refl))

-- ---- the swap

-- the pages still differ where the spare took the position of one
swapped_apart : (n : ℕ) (order : List ℕ) (spare position page : ℕ) → AreApart n order spare → position < n
    → page ≡ get_or order position 0 → AreApart n (set order position spare) page
swapped_apart n order spare position page a low is =
    let wide = a.pages in
    let here : get_or (set order position spare) position 0 ≡ spare =
    get_or-set_same order position spare 0 (omega arith) in
    let there = λ (i : ℕ) (ne : i ≢ position). get_or-set_other order position i spare 0 ne in record {
      pages = length-set order position spare ∙ a.pages;
      each = λ i below. dite (ℕ_discrete i position)
          (λ e.
          subst (λ (p : ℕ). p < n + 1) (sym (ap (λ (j : ℕ). get_or (set order position spare) j 0) e ∙ here))
          a.spare_below)
          (λ ne. subst (λ (p : ℕ). p < n + 1) (sym (there i ne)) (a.each i below));
      differ = λ i j below_i below_j same. dite (ℕ_discrete i position)
          (λ e. dite (ℕ_discrete j position)
          (λ e'. e ∙ sym e')
          (λ ne'.
          absurd (a.spare_differs j below_j
          (sym (there j ne') ∙ sym same ∙ ap (λ (m : ℕ). get_or (set order position spare) m 0) e ∙ here))))
          (λ ne. dite (ℕ_discrete j position)
          (λ e'.
          absurd (a.spare_differs i below_i
          (sym (there i ne) ∙ same ∙ ap (λ (m : ℕ). get_or (set order position spare) m 0) e' ∙ here)))
          (λ ne'. a.differ i j below_i below_j (sym (there i ne) ∙ same ∙ there j ne')));
      spare_below = subst (λ (p : ℕ). p < n + 1) (sym is) (a.each position low);
      spare_differs = λ i below same. dite (ℕ_discrete i position)
          (λ e.
          a.spare_differs position low
          (sym is ∙ sym same ∙ ap (λ (m : ℕ). get_or (set order position spare) m 0) e ∙ here))
          (λ ne. ne (a.differ i position below low (sym (there i ne) ∙ same ∙ is)));
    }

-- the page at the position of the head changes, and the frames' fills are after the head
reorder_phase : (n : ℕ) (links : List Link) (order : List ℕ) (head done opened spare : ℕ) (phase : Phase) → 2 ≤ n
    → head < done → PhaseKept n links order head done opened phase
    → PhaseKept n links (set order (head % n) spare) head done opened phase
reorder_phase n links order head done opened spare phase some closed k = record {
  noted = k.noted;
  passed = λ o page is. let (a, b, e) = k.passed o page is in (a, b, e ∙ sym (other o a b));
  moves = λ o is. let (lost, sum, below, a, at) = k.moves o is in
      (lost, sum, below, a, at ∙ ap (λ (p : ℕ). update_link p lost) (sym (other o a (omega arith))));
  marks = k.marks;
  clears = k.clears;
  releases = k.releases;
}
  where
    other : (o : ℕ) → done < o → o < head + n → page_at n (set order (head % n) spare) o ≡ page_at n order o
    other o low high =
        page_else head n order o head spare (omega arith) (omega arith) (omega arith) (omega arith) (λ e. omega arith)

taken_link : (n : ℕ) (links links' : List Link) (order order' : List ℕ) (head : ℕ) (frames : List Frame) (f : ℕ)
    → head + 1 < f → link_into n links' f ≡ link_into n links f → page_at n order' f ≡ page_at n order f
    → LinkKept n links order head frames f
    → LinkKept n links' order' (head + 1) frames f
taken_link n links links' order order' head frames f more same page (is_normal e owed) =
    is_normal (same ∙ e ∙ ap (λ (p : ℕ). normal_link p f) (sym page)) (λ at. absurd (omega arith))
taken_link n links links' order order' head frames f more same page (is_header e here) = absurd (omega arith)
taken_link n links links' order order' head frames f more same page (is_update lost sum e st) =
    is_update lost sum (same ∙ e ∙ ap (λ (p : ℕ). update_link p lost) (sym page)) st

module _ (n : ℕ) (c : Core) (page : ℕ) (k : LinksKept n c) (closed : c.head < c.done)
    (at : link_into n c.links c.head ≡ header_link page c.head)
    (ready : c.spare_link ≡ header_link (page_at n c.order (suc c.head)) (suc c.head)) where
  once : List Link
  once = links_with n c.links c.head (normal_link c.spare (c.head + n))

  once_wide : length once ≡ n
  unfolding once
  once_wide = length-set c.links _ (normal_link c.spare (c.head + n)) ∙ k.positions

  next_once : link_into n once (suc c.head) ≡ normal_link (page_at n c.order (suc c.head)) (suc c.head)
  unfolding once
  next_once = let some_pages = k.some_pages in
      link_else c.head n c.links (suc c.head) c.head (normal_link c.spare (c.head + n)) (omega arith) (omega arith)
      (omega arith) (omega arith) (λ e. omega arith) ∙ behind_closed n c k closed

  swapped_phase : (phase : Phase) → PhaseKept n c.links c.order c.head c.done c.opened phase
      → PhaseKept n (links_with n once (suc c.head) c.spare_link) (set c.order (c.head % n) c.spare) (c.head + 1) c.done
      c.opened phase
  unfolding once
  swapped_phase phase facts = let some_pages = k.some_pages in let wide = k.positions in
      relink_phase n once (set c.order (c.head % n) c.spare) c.head (c.head + 1) c.done c.opened (suc c.head)
      (normal_link (page_at n c.order (suc c.head)) (suc c.head)) c.spare_link phase (omega arith) once_wide
      (omega arith) next_once
      (λ o p u _ _. normal_ne_update (page_at n c.order (suc c.head)) (suc c.head) p u)
      (λ seen u _ e. normal_ne_header seen (suc u) (page_at n c.order (suc c.head)) (suc c.head) (sym e ∙ ready))
      (relink_phase n c.links (set c.order (c.head % n) c.spare) c.head c.head c.done c.opened c.head
      (header_link page c.head) (normal_link c.spare (c.head + n)) phase (omega arith) wide (omega arith) at
      (λ o p u _ _. header_ne_update page c.head p u)
      (λ seen u below e. let fills : c.head + n ≡ suc u = ap (λ (l : Link). l.fill) e in absurd (omega arith))
      (reorder_phase n c.links c.order c.head c.done c.opened c.spare phase (omega arith) closed facts))

  swapped_link : (f : ℕ) → c.head + 1 ≤ f → f < (c.head + 1) + n
      → LinkKept n (links_with n once (suc c.head) c.spare_link) (set c.order (c.head % n) c.spare) (c.head + 1)
      c.frames f
  unfolding once
  swapped_link f low high = let some_pages = k.some_pages in let wide = k.positions in let pages = k.apart.pages in
      let first : Link = normal_link c.spare (c.head + n) in
      let links : List Link = links_with n once (suc c.head) c.spare_link in
      let order : List ℕ = set c.order (c.head % n) c.spare in
      dite (ℕ_discrete f (suc c.head))
      (λ e. is_header
      (ap (link_into n links) e ∙ link_here n once (suc c.head) c.spare_link (omega arith) once_wide ∙ ready
      ∙ ap (λ (p : ℕ). header_link p (suc c.head))
      (sym (page_else c.head n c.order (suc c.head) c.head c.spare (omega arith) (omega arith) (omega arith)
      (omega arith) (λ e'. omega arith)))
      ∙ ap (λ (g : ℕ). header_link (page_at n order g) g) (sym e))
      (omega arith))
      (λ ne. dite (ℕ_discrete f (c.head + n))
      (λ e. is_normal
      (ap (link_into n links) e
      ∙ link_else (c.head + 1) n once (c.head + n) (suc c.head) c.spare_link (omega arith) (omega arith) (omega arith)
      (omega arith) (λ e'. ne (e ∙ e'))
      ∙ link_round n once c.head ∙ link_here n c.links c.head first (omega arith) wide
      ∙ ap (λ (p : ℕ). normal_link p (c.head + n))
      (sym (page_turn n order c.head ∙ page_here n c.order c.head c.spare (omega arith) pages))
      ∙ ap (λ (g : ℕ). normal_link (page_at n order g) g) (sym e))
      (λ at_head. absurd (omega arith)))
      (λ ne'. taken_link n c.links links c.order order c.head c.frames f (omega arith)
      (link_else (c.head + 1) n once f (suc c.head) c.spare_link low high (omega arith) (omega arith) ne
      ∙ link_else c.head n c.links f c.head first (omega arith) (omega arith) (omega arith) (omega arith)
      (λ e. omega arith))
      (page_else c.head n c.order f c.head c.spare (omega arith) (omega arith) (omega arith) (omega arith)
      (λ e. omega arith))
      (k.each f (omega arith) (omega arith))))

  -- the link after the head, which the spare's will be
  behind_fits : FitsRing n (link_into n c.links (suc c.head))
  behind_fits = let some_pages = k.some_pages in let behind = k.done_lt in let fits = k.fits in
      subst (FitsRing n) (sym (behind_closed n c k closed))
      (k.apart.each (suc c.head % n) (mod-lt (suc c.head) (omega arith)), omega arith)

  pub swaps_kept : LinksKept n (after_swap n c page c.head)
  unfolding once
  swaps_kept = let some_pages = k.some_pages in let wide = k.positions in let within = k.opened_le in
      let reported =
      header_reports n c.links c.order c.head c.frames c.head page c.head
      (k.each c.head (omega arith) (omega arith)) at in
      record {
        some_pages = k.some_pages;
        positions = length-set once _ c.spare_link ∙ once_wide;
        apart = swapped_apart n c.order c.spare (c.head % n) page k.apart (mod-lt c.head (omega arith)) reported.2;
        head_le = omega arith;
        done_lt = k.done_lt;
        opened_le = omega arith;
        fits = k.fits;
        each = swapped_link;
        frames =
            map_frames n c.links (links_with n once (suc c.head) c.spare_link) c.order
            (set c.order (c.head % n) c.spare) c.head (c.head + 1) c.done c.done c.opened c.opened c.frames
            swapped_phase k.frames;
        movers = k.movers;
        hint_le = omega arith;
        seen_le = k.seen_le;
        wish_le = k.wish_le;
        spare_fits = behind_fits;
        reader = tt;
      }

pub swap_head_kept : (n : ℕ) (c after : Core) (page fill : ℕ) (answer : Answer) → LinksKept n c
    → HasSeen n c.links c.head c.reader.hint page fill × (fill < c.done)
    × (c.spare_link ≡ header_link (page_at n c.order (suc fill)) (suc fill))
    → SwapHeadStep n c page fill answer after → LinksKept n after
swap_head_kept n c after page fill answer k (seen, below, ready) (swaps at a is) =
    let (g, low, high, same, link) = fill_at n c k fill in
    let reported = header_reports n c.links c.order c.head c.frames g page fill link (same ∙ at) in
    let here : fill ≡ c.head = reported.0 ∙ reported.1 in
    subst (LinksKept n) (sym (is ∙ ap (after_swap n c page) here))
    (swaps_kept n c page k (omega arith) (ap (link_into n c.links) (sym here) ∙ at ∙ ap (header_link page) here)
    (ready ∙ ap (λ (f : ℕ). header_link (page_at n c.order (suc f)) (suc f)) here))
swap_head_kept n c after page fill answer k (seen, below, ready) (swap_fails at a is) =
    let le = k.hint_le in let it = seen.fill_is in
    let passed : fill ≢ c.head = λ e. at (seen.stays e) in
    subst (LinksKept n) (sym is) (at_phase n c loading_head (suc fill) k (omega arith) tt)

pub read_kept : (n : ℕ) (c after : Core) (phase : ReaderPhase) (answer : Answer) → LinksKept n c
    → ReaderKept n c.links c.order c.spare_link c.head c.done c.reader.hint phase → ReadStep n c phase answer after
    → LinksKept n after
read_kept n c after loading_head answer k facts step = load_head_kept n c after answer k step
read_kept n c after (loading_done page fill) answer k facts step =
    load_done_kept n c after page fill answer k facts step
read_kept n c after (storing_spare_link page fill) answer k facts step =
    store_spare_link_kept n c after page fill answer k facts step
read_kept n c after (swapping page fill) answer k facts step = swap_head_kept n c after page fill answer k facts step
