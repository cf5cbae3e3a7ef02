-- The words of a ring and its pages at home, after the reader's swap.
use Rattle.std.proofs.Common.{◌≡◌, ◌≢◌, ℕ, suc, ◌+◌, ◌-◌, ◌%◌, ◌<◌, ◌≤◌, List, length, get_or, set, Some, true, sym, ap}
use Rattle.std.proofs.Common.{◌∙◌, subst, mod-lt, arith, length-set}
use Rattle.std.proofs.Math.Nat.{add-mod_right}
use Rattle.std.proofs.lemmas.List.{get_or-set_same, get_or-set_other}
use mathlib.Core.Option.{some, none}
use mathlib.Core.Logic.{dite}
use native.Mathlib.Decide.{ℕ_discrete}
use lib.ListN.{get_elem?}
use Rattle.atomic_table.proofs.Lists.{set_here, set_else}
use Rattle.trace_model.specs.Links.{Link, word_of, normal_link, header_link}
use Rattle.trace_model.specs.Ring.{PageRecords, Core, swapping, empty_page, link_into, links_with, page_at}
use Rattle.trace_model.specs.Steps.{contents_of, after_swap}
use Rattle.ring_model.specs.KeptLinks.{ReaderKept}
use Rattle.ring_model.specs.RingKept.{IsRingKept}
use Rattle.trace_model.proofs.Positions.{apart, page_turn, page_here, page_else}
use Rattle.ring_model.proofs.contents.PageChanges.{pages_differ}
use Rattle.ring_model.proofs.seats.SeatPages.{IsHeadTaken, head_taken}
use Rattle.page_image.specs.Contents.{Contents}
use Rattle.ring_steps.specs.Views.{Reading}
use Rattle.ring_steps.specs.Shown.{page_before, AreWords, Homes, IsHome, HasBody, AreHomes}
use Rattle.ring_steps.specs.Words.{opened_word, done_word, wish_word, page_word}
use Rattle.ring_steps.proofs.LinkWords.{one_before, one_behind, befores_differ, before_below}
use Rattle.ring_steps.proofs.Taking.{reading_of}

module _ (n size start : ℕ) (c : Core) (k : IsRingKept n size start c) (page fill : ℕ)
    (facts : ReaderKept n c.links c.order c.spare_link c.head c.done c.reader.hint (swapping page fill))
    (reported : link_into n c.links fill ≡ header_link page fill) where
  -- ---- the head

  pub head : IsHeadTaken n c page fill
  head = head_taken n c page fill k.links facts reported

  two_pages : 2 ≤ n
  two_pages = k.links.some_pages

  pub page_is : page ≡ page_at n c.order fill
  page_is = head.page_is ∙ ap (page_at n c.order) (sym head.fill_is)

  not_spare : page ≢ c.spare
  not_spare e = let two = two_pages in
      k.links.apart.spare_differs (c.head % n) (mod-lt c.head (omega arith)) (sym head.page_is ∙ e)

  -- ---- words

  abbrev order_behind : List ℕ
  order_behind = set c.order (fill % n) c.spare

  abbrev links_once : List Link
  links_once = links_with n c.links fill (normal_link c.spare (fill + n))

  next_apart : suc fill % n ≢ fill % n
  next_apart = let two = two_pages in
      apart fill n (suc fill) fill (omega arith) (omega arith) (omega arith) (omega arith) (λ e. omega arith)

  before_next : (suc fill + n - 1) % n ≡ fill % n
  before_next = ap (λ (i : ℕ). i % n) (let e : suc fill + n - 1 ≡ fill + n = omega arith in e) ∙ add-mod_right fill n

  -- the spare is before the next position
  front_next : (g : ℕ) → g % n ≡ suc fill % n → page_before n order_behind g ≡ c.spare
  front_next g e = let two = two_pages in let wide = k.links.apart.pages in
      ap (λ (i : ℕ). get_or order_behind i 0) (one_before n g (suc fill) (omega arith) e ∙ before_next)
      ∙ get_or-set_same c.order (fill % n) c.spare 0 (let low : fill % n < n = mod-lt fill (omega arith) in omega arith)

  front_else : (g : ℕ) → g % n ≢ suc fill % n → page_before n order_behind g ≡ page_before n c.order g
  front_else g ne = let two = two_pages in
      get_or-set_other c.order (fill % n) ((g + n - 1) % n) c.spare 0
      (λ e. ne (one_behind n g (suc fill) (omega arith) (e ∙ sym before_next)))

  front_differs : page_before n c.order fill ≢ c.spare
  front_differs = let two = two_pages in
      k.links.apart.spare_differs ((fill + n - 1) % n) (mod-lt (fill + n - 1) (omega arith))

  abbrev word_behind : ℕ
  word_behind = word_of (normal_link c.spare (fill + n))

  module _ (ws : List ℕ) (a : AreWords n c ws) where
    abbrev word : ℕ
    word = page_word (page_before n c.order fill)

    abbrev words_behind : List ℕ
    words_behind = set ws word word_behind

    other_page : (other : ℕ) → other ≢ page_before n c.order fill
        → get_or words_behind (page_word other) 0 ≡ get_or ws (page_word other) 0
    other_page other ne = get_or-set_other ws word (page_word other) word_behind 0 (λ e. ne (omega arith))

    word_below : word < length ws
    word_below = let two = two_pages in
        let count = a.count in
        let below = before_below n c.order c.spare fill (omega arith) k.links.apart in
        omega arith

    link_next : (g : ℕ) → g % n ≡ suc fill % n
        → link_into n (links_with n links_once (suc fill) c.spare_link) g ≡ c.spare_link
    link_next g e = let two = two_pages in
        let wide = length-set c.links (fill % n) (normal_link c.spare (fill + n)) in
        let positions = k.links.positions in
        ap (λ (i : ℕ). get_or (links_with n links_once (suc fill) c.spare_link) i (normal_link 0 0)) e
        ∙ get_or-set_same links_once (suc fill % n) c.spare_link (normal_link 0 0)
        (let low : suc fill % n < n = mod-lt (suc fill) (omega arith) in omega arith)

    link_here : (g : ℕ) → g % n ≡ fill % n
        → link_into n (links_with n links_once (suc fill) c.spare_link) g ≡ normal_link c.spare (fill + n)
    link_here g e = let two = two_pages in let positions = k.links.positions in
        get_or-set_other links_once (suc fill % n) (g % n) c.spare_link (normal_link 0 0)
        (λ same. next_apart (sym same ∙ e))
        ∙ (ap (λ (i : ℕ). get_or links_once i (normal_link 0 0)) e
        ∙ get_or-set_same c.links (fill % n) (normal_link c.spare (fill + n)) (normal_link 0 0)
        (let low : fill % n < n = mod-lt fill (omega arith) in omega arith))

    link_else : (g : ℕ) → g % n ≢ suc fill % n → g % n ≢ fill % n
        → link_into n (links_with n links_once (suc fill) c.spare_link) g ≡ link_into n c.links g
    link_else g ne ne' = get_or-set_other links_once (suc fill % n) (g % n) c.spare_link (normal_link 0 0) ne
        ∙ get_or-set_other c.links (fill % n) (g % n) (normal_link c.spare (fill + n)) (normal_link 0 0) ne'

    abbrev Reports : ℕ → Type 0
    Reports g =
        get_or words_behind (page_word (page_before n order_behind g)) 0
        ≡ word_of (link_into n (links_with n links_once (suc fill) c.spare_link) g)

    reports_next : (g : ℕ) → g % n ≡ suc fill % n → Reports g
    reports_next g e = ap (λ (p : ℕ). get_or words_behind (page_word p) 0) (front_next g e)
        ∙ (other_page c.spare (λ same. front_differs (sym same)) ∙ (a.spare ∙ ap word_of (sym (link_next g e))))

    reports_here : (g : ℕ) → g % n ≢ suc fill % n → g % n ≡ fill % n → Reports g
    reports_here g ne e = let two = two_pages in
        ap (λ (p : ℕ). get_or words_behind (page_word p) 0)
        (front_else g ne ∙ ap (λ (i : ℕ). get_or c.order i 0) (one_before n g fill (omega arith) e))
        ∙ (get_or-set_same ws word word_behind 0 word_below ∙ ap word_of (sym (link_here g e)))

    reports_else : (g : ℕ) → g % n ≢ suc fill % n → g % n ≢ fill % n → Reports g
    reports_else g ne ne' = let two = two_pages in
        ap (λ (p : ℕ). get_or words_behind (page_word p) 0) (front_else g ne)
        ∙ (other_page (page_before n c.order g)
        (befores_differ n c.order c.spare g fill (omega arith) k.links.apart ne')
        ∙ (a.links g ∙ ap word_of (sym (link_else g ne ne'))))

    -- the word of the head's page is the link into the position after it
    reports_spare : get_or words_behind (page_word page) 0 ≡ word_of (link_into n c.links (suc fill))
    reports_spare = let two = two_pages in
        let front : page ≡ page_before n c.order (suc fill) =
        page_is ∙ ap (λ (i : ℕ). get_or c.order i 0) (sym before_next) in
        ap (λ (p : ℕ). get_or words_behind (page_word p) 0) front
        ∙ (other_page (page_before n c.order (suc fill))
        (befores_differ n c.order c.spare (suc fill) fill (omega arith) k.links.apart next_apart)
        ∙ a.links (suc fill))

    pub swapped_words : AreWords n (after_swap n c page fill)
        (set ws (page_word (page_before n c.order fill)) (word_of (normal_link c.spare (fill + n))))
    swapped_words = record {
      count = length-set ws word word_behind ∙ a.count;
      opened = get_or-set_other ws word opened_word word_behind 0 (λ e. omega arith) ∙ a.opened;
      done = get_or-set_other ws word done_word word_behind 0 (λ e. omega arith) ∙ a.done;
      wish = get_or-set_other ws word wish_word word_behind 0 (λ e. omega arith) ∙ a.wish;
      links = λ g. dite (ℕ_discrete (g % n) (suc fill % n))
          (λ e. reports_next g e)
          (λ ne. dite (ℕ_discrete (g % n) (fill % n)) (λ e. reports_here g ne e) (λ ne'. reports_else g ne ne'));
      spare = reports_spare;
    }

  -- ---- pages at home

  module _ (r : Reading) (homes : Homes) (blank : Contents) (sized : blank.size ≡ size) (h : AreHomes n size c r homes)
    where
      abbrev homes_behind : Homes
      homes_behind = set (set homes c.spare (some (Some blank))) page none

      elsewhere : (p : ℕ) → p ≢ c.spare → p ≢ page → get_elem? homes_behind p ≡ get_elem? homes p
      elsewhere p ne ne' =
          set_else (set homes c.spare (some (Some blank))) page p none ne'
          ∙ set_else homes c.spare p (some (Some blank)) ne

      -- the head's page is at home, with what it holds
      pub head_home : IsHome homes size page fill (contents_of c page)
      head_home = let here = head.fill_is in let closed = head.closed in
          subst (λ (p : ℕ). IsHome homes size p fill (contents_of c p)) (sym page_is)
          (h.closed fill (omega arith) (omega arith))

      -- also if the spare's body is put home
      pub head_stays : get_elem? (set homes c.spare (some (Some blank))) page ≡ some (some (Some head_home.0))
      head_stays = set_else homes c.spare page (some (Some blank)) not_spare ∙ head_home.1

      closed_behind : (f : ℕ) → c.head + 1 ≤ f → f < c.done
          → IsHome homes_behind size (page_at n order_behind f) f
          (contents_of (after_swap n c page fill) (page_at n order_behind f))
      closed_behind f low high = let two = two_pages in
          let within = k.links.opened_le in let behind_done = k.links.done_lt in let fill_is = head.fill_is in
          let p : ℕ = page_at n c.order f in
          let here : page_at n order_behind f ≡ p =
          page_else c.head n c.order f fill c.spare (omega arith) (omega arith) (omega arith) (omega arith)
          (λ e. omega arith) in
          let ne_spare : p ≢ c.spare = k.links.apart.spare_differs (f % n) (mod-lt f (omega arith)) in
          let ne_page : p ≢ page =
          λ e.
          pages_differ n c.order c.spare c.head f c.head (omega arith) k.links.apart (omega arith)
          (omega arith) (omega arith) (omega arith) (λ e'. omega arith) (e ∙ head.page_is) in
          let held : contents_of (after_swap n c page fill) p ≡ contents_of c p =
          get_or-set_other (set c.held c.spare empty_page) page p empty_page empty_page ne_page
          ∙ get_or-set_other c.held c.spare p empty_page empty_page ne_spare in
          let (body, at, written) = h.closed f (omega arith) high in
          subst (λ (q : ℕ). IsHome homes_behind size q f (contents_of (after_swap n c page fill) q)) (sym here)
          (subst (λ (held : PageRecords). IsHome homes_behind size p f held) (sym held)
          (body, elsewhere p ne_spare ne_page ∙ at, written))

      -- there is a page for each fill that may be begun, the reader's old one among them
      free_behind : (f : ℕ) → c.opened ≤ f → f < c.done + n → HasBody homes_behind size (page_at n order_behind f)
      free_behind f low high = let two = two_pages in
          let within = k.links.opened_le in
          let behind_done = k.links.done_lt in
          let fill_is = head.fill_is in
          let closed = head.closed in
          let below = k.links.apart.spare_below in let count = h.count in
          dite (ℕ_discrete f (fill + n))
          (λ e.
          let is : page_at n order_behind f ≡ c.spare =
          ap (page_at n order_behind) e
          ∙ (page_turn n order_behind fill
          ∙ page_here n c.order fill c.spare (omega arith) k.links.apart.pages) in
          subst (HasBody homes_behind size) (sym is) (
            blank,
            set_else (set homes c.spare (some (Some blank))) page c.spare none (λ same. not_spare (sym same))
                ∙ set_here homes c.spare (some (Some blank)) (omega arith),
            sized,
          ))
          (λ ne.
          let apart_from : f % n ≢ fill % n =
          λ e.
          apart c.done n f (fill + n) (omega arith) high (omega arith) (omega arith) ne
          (e ∙ sym (add-mod_right fill n)) in
          let p : ℕ = page_at n c.order f in
          let here : page_at n order_behind f ≡ p = get_or-set_other c.order (fill % n) (f % n) c.spare 0 apart_from in
          let ne_spare : p ≢ c.spare = k.links.apart.spare_differs (f % n) (mod-lt f (omega arith)) in
          let ne_page : p ≢ page =
          λ e.
          apart_from
          (k.links.apart.differ (f % n) (fill % n) (mod-lt f (omega arith)) (mod-lt fill (omega arith))
          (e ∙ page_is)) in
          let (body, at, of_size) = h.free f low high in
          subst (HasBody homes_behind size) (sym here) (body, elsewhere p ne_spare ne_page ∙ at, of_size))

      pub swapped_homes : AreHomes n size (after_swap n c page fill) (reading_of (after_swap n c page fill) true)
          (set (set homes c.spare (some (Some blank))) page none)
      swapped_homes = record {
        count =
            length-set (set homes c.spare (some (Some blank))) page none
            ∙ (length-set homes c.spare (some (Some blank)) ∙ h.count);
        closed = closed_behind;
        free = free_behind;
        spare = λ e. absurd (cc);
      }
