-- A new ring has what every step keeps.
use Rattle.std.proofs.Common.{◌≡◌, ℕ, ◌+◌, ◌%◌, ◌<◌, ◌≤◌, List, [], ◌∷◌, length, get_or, sym, ap, ◌∙◌, subst, mod-lt}
use Rattle.std.proofs.Common.{arith}
use mathlib.Core.Logic.{dite}
use native.Mathlib.Decide.{ℕ_discrete}
use Rattle.trace_model.specs.declared.limits.TheConstants.{LINK_FILLS}
use Rattle.trace_model.specs.Links.{normal_link, header_link}
use Rattle.trace_model.specs.Frames.{pushed_frames}
use Rattle.trace_model.specs.Ring.{Core, IsStart, link_into, page_at, Reader, AreApart}
use Rattle.trace_model.specs.History.{HistoryEvent, writer_after, IsHistory}
use Rattle.trace_model.proofs.histories.Allowed.{IsHistory-none}
use Rattle.ring_model.specs.KeptContents.{OpenPagesKept}
use Rattle.ring_model.specs.KeptHistory.{HistoryKept}
use Rattle.ring_model.specs.KeptLinks.{MoversDiffer, FramesKept, LinkKept, is_normal, is_header, ReaderKept, FitsRing}
use Rattle.ring_model.specs.KeptLinks.{LinksKept}

module _ (n start : ℕ) (c : Core) (s : IsStart n start c) (some : 2 ≤ n) where
  start_page : (f : ℕ) → page_at n c.order f ≡ f % n
  start_page f = s.order (f % n) (mod-lt f (omega arith))

  start_link : (f : ℕ) → c.head ≤ f → f < c.head + n → LinkKept n c.links c.order c.head c.frames f
  start_link f low high = let at = s.head in dite (ℕ_discrete f start)
      (λ e.
      is_header
      (ap (link_into n c.links) e ∙ s.first_link ∙ ap (λ (p : ℕ). header_link p start) (sym (start_page start))
      ∙ ap (λ (g : ℕ). header_link (page_at n c.order g) g) (sym e)) (e ∙ sym at))
      (λ ne.
      is_normal (s.links f (omega arith) (omega arith) ∙ ap (λ (p : ℕ). normal_link p f) (sym (start_page f)))
      (λ is. absurd (ne (is ∙ at))))

  start_apart : AreApart n c.order c.spare
  start_apart = let spare = s.spare in record {
    pages = s.pages;
    each = λ i below. let is = s.order i below in omega arith;
    differ = λ i j below_i below_j same. sym (s.order i below_i) ∙ same ∙ s.order j below_j;
    spare_below = omega arith;
    spare_differs = λ i below same. let is = s.order i below in omega arith;
  }

  pub start_kept : start + 1 + n ≤ LINK_FILLS → LinksKept n c
  start_kept fits = let head = s.head in let done = s.done in let opened = s.opened in record {
    some_pages = some;
    positions = s.positions;
    apart = start_apart;
    head_le = omega arith;
    done_lt = omega arith;
    opened_le = omega arith;
    fits = omega arith;
    each = start_link;
    frames = subst (FramesKept n c.links c.order c.head c.done c.opened) (sym s.frames) tt;
    movers = subst MoversDiffer (sym s.frames) tt;
    hint_le = let is = ap (λ (r : Reader). r.hint) s.reader in omega arith;
    seen_le = let is = ap (λ (r : Reader). r.seen) s.reader in omega arith;
    wish_le = let none = s.wish in omega arith;
    spare_fits = subst (FitsRing n) (sym s.spare_link) (omega arith, omega arith);
    reader =
        subst (λ (r : Reader). ReaderKept n c.links c.order c.spare_link c.head c.done r.hint r.phase) (sym s.reader)
        tt;
  }

  -- the tail's page is the one that the writer holds
  pub start_open_pages : OpenPagesKept n c
  start_open_pages = let head = s.head in
      let done = s.done in
      let opened = s.opened in
      let wide = ap length s.open_pages in
      record {
        count = omega arith;
        each = λ i low. ap (λ (pages : List ℕ). get_or pages i 0) s.open_pages
            ∙ ap (λ (j : ℕ). get_or (start % n ∷ []) j 0) (let none : i ≡ 0 = omega arith in none)
            ∙ sym (start_page start)
            ∙ ap (page_at n c.order) (let same : start ≡ c.done + i = omega arith in same);
      }

pub start_history : (n start : ℕ) (c : Core) → IsStart n start c → HistoryKept n start c
start_history n start c s = record {
  allowed = subst IsHistory (sym s.history) IsHistory-none;
  stack = ap (λ (h : List HistoryEvent). (writer_after h).stack) s.history ∙ sym (ap pushed_frames s.frames);
  lost = λ f low high. let head = s.head in absurd (omega arith);
}
