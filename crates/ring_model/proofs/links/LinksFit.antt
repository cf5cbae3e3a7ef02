-- All links of a ring fit a word, and the spare's does.
use Rattle.std.proofs.Common.{◌≡◌, ℕ, ◌+◌, ◌<◌, get_or, sym, subst, mod-eq_of_lt, arith}
use Rattle.std.specs.Prelude.{All}
use Rattle.std.proofs.lemmas.List.Elements.{All-from_get_or}
use Rattle.trace_model.specs.declared.limits.TheConstants.{LINK_PAGES, LINK_FILLS}
use Rattle.trace_model.specs.Links.{Link, normal_link, FitsWord}
use Rattle.trace_model.specs.Ring.{link_into, page_at, Core}
use Rattle.ring_model.specs.KeptLinks.{LinkKept, is_normal, is_header, is_update, LinksKept}
use Rattle.ring_model.specs.LinkLaws.{LinksFitWords}
use Rattle.ring_model.proofs.links.LinkFills.{fill_at}
use Rattle.ring_model.proofs.contents.PageChanges.{page_below}

fits_as : (l other : Link) → l ≡ other → other.page < LINK_PAGES → other.fill < LINK_FILLS → FitsWord l
fits_as l other is page fill = subst FitsWord (sym is) record { page_fits = page; fill_fits = fill }

module _ (n : ℕ) (c : Core) (k : LinksKept n c) (pages : n < LINK_PAGES) where
  page_fits : (f : ℕ) → page_at n c.order f < LINK_PAGES
  page_fits f = let some = k.some_pages in
      let below = page_below n c.order c.spare f (omega arith) k.apart in
      omega arith

  -- a fill from the head on has a number
  fits_kept : (g : ℕ) → g < c.head + n → LinkKept n c.links c.order c.head c.frames g → FitsWord (link_into n c.links g)
  fits_kept g high (is_normal e owed) = let a = k.head_le in
      let b = k.done_lt in
      let fits = k.fits in
      fits_as _ _ e (page_fits g) (omega arith)
  fits_kept g high (is_header e here) = let a = k.head_le in
      let b = k.done_lt in
      let fits = k.fits in
      fits_as _ _ e (page_fits g) (omega arith)
  fits_kept g high (is_update lost sum e st) = let a = k.head_le in
      let b = k.done_lt in
      let fits = k.fits in
      fits_as _ _ e (page_fits g) (omega arith)

  link_fits : (f : ℕ) → FitsWord (link_into n c.links f)
  link_fits f = let (g, low, high, at, kept) = fill_at n c k f in subst FitsWord at (fits_kept g high kept)

  links_fit : All FitsWord c.links
  links_fit = All-from_get_or FitsWord c.links (normal_link 0 0) (λ i below. let wide = k.positions in
      subst (λ (j : ℕ). FitsWord (get_or c.links j (normal_link 0 0)))
      (mod-eq_of_lt (let low : i < n = omega arith in low)) (link_fits i))

pub links_fit_words : LinksFitWords
links_fit_words n size start c r pages = let reported = r.links.spare_fits in
    (links_fit n c r.links pages, record { page_fits = (let low = reported.0 in omega arith); fill_fits = reported.1 })
