-- The swap: the reader takes the head, or finds it moved.
use Rattle.std.proofs.Common.{◌≡◌, ◌≢◌, ℕ, suc, ◌+◌, ◌-◌, ◌%◌, ◌^◌, ◌<◌, ◌≤◌, List, length, set, Option, Some, None}
use Rattle.std.proofs.Common.{refl, sym, ap, ◌∙◌, subst, mod-lt, arith, length-append, length-set}
use Rattle.std.specs.List.{slice_get}
use Rattle.std.proofs.lemmas.List.{get_or-set_same, get_or-set_other, length-map}
use Rattle.std.proofs.lemmas.Option.{slice_get_read, slice_get_within, get_or_from_slice_get}
use Rattle.std.proofs.Math.Nat.{add-mod_right}
use mathlib.Core.Logic.{dite}
use native.Mathlib.Decide.{ℕ_discrete}
use Rattle.trace_model.specs.declared.limits.TheConstants.{LINK_FILLS}
use Rattle.trace_model.specs.History.{settled_prefix, reserved_records, as_record}
use Rattle.trace_model.specs.Links.{Link, header_link, normal_link}
use Rattle.trace_model.specs.Ring as ring
use Rattle.trace_model.specs.Steps as model
use Rattle.trace_model.proofs.steps.StepCases as cases
use Rattle.trace_model.proofs.histories.HistoryPrefixes.{settled_records_prefix}
use Rattle.trace_model.proofs.steps.StepIs.{step_by}
use Rattle.ring_model.specs.KeptLinks.{ReaderKept}
use Rattle.ring_model.specs.RingKept.{IsRingKept}
use Rattle.trace_model.proofs.Positions.{apart, link_else, page_turn, page_here, page_else}
use Rattle.ring_model.proofs.contents.PageChanges.{pages_differ}
use Rattle.ring_model.proofs.contents.RecordCounts.{numbers_fit}
use Rattle.ring_model.proofs.seats.SeatPages.{IsHeadTaken, head_taken, open_not_head}
use Rattle.page_image.specs.Contents.{Contents}
use Rattle.nested_writer.specs.Stack.{blank_page}
use Rattle.nested_writer.specs.Released.{IsWrittenPage}
use Rattle.ring_frames.specs.declared.answer.Answer.TheVariants.{Looking, Taken}
use Rattle.ring_frames.specs.declared.reader.ReaderPhase.TheVariants.{LoadingHead, Swapping}
use Rattle.ring_frames.proofs.Same.{same_frames}
use Rattle.ring_frames.specs.ReaderPhases.{reader_phase_of}
use Rattle.ring_core.specs.Value.{CoreValue, frames_of}
use Rattle.ring_core.specs.IsCore.{IsHome, HasBody, HasStateOf, IsCore}
use Rattle.ring_core.specs.Steps.{IsStep}
use Rattle.ring_core.specs.Taking.{with_spare_home, with_head_taken}
use Rattle.ring_core.proofs.Stepped.{kept_of, stepped}
use Rattle.ring_core.proofs.ReaderSteps.{reads}

-- ---- elements set

get_set_same : {X : Type 0} (xs : List X) (i : ℕ) (y : X) → i < length xs → slice_get (set xs i y) i ≡ Some y
get_set_same xs i y low =
    slice_get_read (set xs i y) (length (set xs i y)) i y refl (let wide = length-set xs i y in omega arith)
    (sym (get_or-set_same xs i y y low))

get_set_other : {X : Type 0} (xs : List X) (i k : ℕ) (y x : X) → k ≢ i → slice_get xs k ≡ Some x
    → slice_get (set xs i y) k ≡ Some x
get_set_other xs i k y x ne is = slice_get_read (set xs i y) (length (set xs i y)) k x refl
    (let wide = length-set xs i y in let low = slice_get_within xs k x is in omega arith)
    (sym (get_or-set_other xs i k y x ne ∙ get_or_from_slice_get xs k x x is))

-- a page that is at home, if two others come and go
home_stays : (homes : List (Option Contents)) (spare page p : ℕ) (x y : Option Contents) (size fill : ℕ)
    (held : ring.PageRecords) → p ≢ spare → p ≢ page → IsHome homes size p fill held
    → IsHome (set (set homes spare x) page y) size p fill held
home_stays homes spare page p x y size fill held ne ne' (body, is, w) = (
  body,
  get_set_other (set homes spare x) page p y (Some body) ne' (get_set_other homes spare p x (Some body) ne is),
  w,
)

body_stays : (homes : List (Option Contents)) (spare page p : ℕ) (x y : Option Contents) (size : ℕ) → p ≢ spare
    → p ≢ page → HasBody homes size p → HasBody (set (set homes spare x) page y) size p
body_stays homes spare page p x y size ne ne' (body, is, w) = (
  body,
  get_set_other (set homes spare x) page p y (Some body) ne' (get_set_other homes spare p x (Some body) ne is),
  w,
)

-- ---- before the swap

-- the value after a swap: this link is at the head's position, and the pages come and go
abbrev pub value_after : CoreValue → Link → (size page fill expected : ℕ) → CoreValue
value_after v behind size page fill expected =
    let x : CoreValue = record v { links = ring.links_with (length v.links) v.links fill behind } in
    with_head_taken (record x { homes = set (with_spare_home x size) page None }) page fill expected

module _ (n size start : ℕ) (v : CoreValue) (c : ring.Core) (core : IsCore n size start v c) (page fill : ℕ)
    (at : v.reader.phase ≡ Swapping page fill) where
  known : ReaderKept n c.links c.order c.spare_link c.head c.done c.reader.hint (ring.swapping page fill)
  known = subst (λ (p : ring.ReaderPhase). ReaderKept n c.links c.order c.spare_link c.head c.done c.reader.hint p)
      (core.shows.reader_phase_is ∙ ap reader_phase_of at) (kept_of n size start v c core).links.reader

  pub turn_has_number : fill + n < LINK_FILLS
  turn_has_number = let links = (kept_of n size start v c core).links in
      let below = known.1 in let open_yet = links.done_lt in let fits = links.fits in omega arith

  link_reported : (l : Link) → ring.link_into n c.links fill ≡ l → ring.link_into (length v.links) v.links fill ≡ l
  link_reported l e = sym (λ i. ring.link_into (sym core.shows.positions i) (core.shows.links_are i) fill) ∙ e

  pub fails : (body : List ℕ) → ring.link_into (length v.links) v.links fill ≢ header_link page fill
      → IsStep n size start c model.reads (Looking body)
      (record v { reader = record v.reader { phase = LoadingHead; hint = fill + 1 } })
  fails body ne = let s = core.shows in let next : suc fill ≡ fill + 1 = omega arith in
      reads n size start v c core (ring.swapping page fill) model.reading (Looking body) v.spare_link c.spare_link
      (record v.reader { phase = LoadingHead; hint = fill + 1 })
      (record c.reader { phase = ring.loading_head; hint = suc fill })
      (ap reader_phase_of at) (cases.swap_fails (λ e. ne (link_reported (header_link page fill) e)) refl refl) refl
      s.spare_link_is refl next s.seen_is s.expected_is

-- ---- the swap

module _ (n size start : ℕ) (v : CoreValue) (c : ring.Core) (core : IsCore n size start v c) (page fill : ℕ)
    (at : v.reader.phase ≡ Swapping page fill)
    (link : ring.link_into (length v.links) v.links fill ≡ header_link page fill) where
  kept : IsRingKept n size start c
  kept = kept_of n size start v c core

  reported : ring.link_into n c.links fill ≡ header_link page fill
  reported = (λ i. ring.link_into (sym core.shows.positions i) (core.shows.links_are i) fill) ∙ link

  head : IsHeadTaken n c page fill
  head = head_taken n c page fill kept.links (known n size start v c core page fill at) reported

  some : 1 ≤ n
  some = let two = kept.links.some_pages in omega arith

  not_spare : page ≢ c.spare
  not_spare e = kept.links.apart.spare_differs (c.head % n) (mod-lt c.head some) (sym head.page_is ∙ e)

  page_is : page ≡ ring.page_at n c.order fill
  page_is = head.page_is ∙ ap (ring.page_at n c.order) (sym head.fill_is)

  spare_low : v.spare < length v.links + 1
  spare_low = let low = kept.links.apart.spare_below in
      let same = core.shows.spare_is in
      let wide = core.shows.positions in
      omega arith

  -- there is a home for both pages that change places
  pub homes_low : length v.homes ≡ length v.links + 1 → (v.spare < length v.homes) × (page < length v.homes)
  homes_low homes = let spare = spare_low in
      let low = kept.links.apart.each (c.head % n) (mod-lt c.head some) in
      let same = head.page_is in
      let wide = core.shows.positions in
      (omega arith, omega arith)

  -- the head's page is at home, and written
  home : IsHome v.homes size page fill (model.contents_of c page)
  home = let here = head.fill_is in let closed = head.closed in
      subst (λ (p : ℕ). IsHome v.homes size p fill (model.contents_of c p)) (sym page_is)
      (core.shows.closed fill (omega arith) (omega arith))

  found : (blank result : Option Contents) → slice_get (set v.homes v.spare blank) page ≡ Some result
      → result ≡ Some home.0
  found blank result e =
      let same : Some result ≡ Some (Some home.0) =
      sym e
      ∙ get_set_other v.homes v.spare page blank (Some home.0) (λ e'. not_spare (e' ∙ sym core.shows.spare_is))
      home.1 in
      cc

  -- what is let go is the head's page
  pub written_of : (blank : Option Contents) (taken : Contents)
      → slice_get (set v.homes v.spare blank) page ≡ Some (Some taken)
      → IsWrittenPage size fill (model.contents_of c page) taken
  written_of blank taken e =
      let same : Some taken ≡ Some home.0 = found blank (Some taken) e in
      let is : taken ≡ home.0 = cc in
      subst (IsWrittenPage size fill (model.contents_of c page)) (sym is) home.2

  pub never_none : (blank : Option Contents) → slice_get (set v.homes v.spare blank) page ≡ Some None → ⊥
  never_none blank e = let same : None ≡ Some home.0 = found blank None e in cc

  count_is : (taken : Contents) → IsWrittenPage size fill (model.contents_of c page) taken
      → taken.count ≡ length (model.contents_of c page).records
  count_is taken w =
      w.page_reads.counted ∙ ap length w.records_are ∙ length-map (model.contents_of c page).records as_record

  pub expected_low : (taken : Contents) → IsWrittenPage size fill (model.contents_of c page) taken
      → v.reader.expected ≤ taken.first
  expected_low taken w = let le = kept.partition.expected_le in
      let within = kept.links.done_lt in
      let closed = head.closed in
      let first =
      w.first_is ∙ ap (λ (p : ℕ). (model.contents_of c p).first) head.page_is
      ∙ ap (λ (h : ring.PageRecords). h.first) (kept.contents.each c.head (omega arith) (omega arith)) in
      let expected = core.shows.expected_is in omega arith

  pub numbers_low : (taken : Contents) → IsWrittenPage size fill (model.contents_of c page) taken
      → taken.first + taken.count < 2 ^ 61
  numbers_low taken w =
      let front =
      kept.other_pages page
      (λ i low e. open_not_head n c kept.links kept.open_pages i low head.closed (e ∙ head.page_is)) in
      let (rest, split) = settled_records_prefix c.history in
      let whole = ap length split ∙ length-append (reserved_records (settled_prefix c.history)) rest in
      let large = core.shows.frames.stack_is.holds.large in let size_is = core.shows.frames.size_is in
      let few = numbers_fit n size start c kept (omega arith) in
      let first = w.first_is in let count = count_is taken w in omega arith

  module _ (behind : Link) (body_size : ℕ) (taken : Contents)
      (behind_is : behind ≡ normal_link v.spare (fill + length v.links)) (wide : length v.homes ≡ length v.links + 1)
      (sized : body_size ≡ v.stack.size) (w : IsWrittenPage size fill (model.contents_of c page) taken) where
    once : List Link
    once = ring.links_with (length v.links) v.links fill behind

    once_is : ring.links_with n c.links fill (normal_link c.spare (fill + n)) ≡ once
    unfolding once
    once_is = let s = core.shows in
        (λ i.
        ring.links_with (sym s.positions i) (s.links_are i) fill
        (normal_link (s.spare_is i) (fill + sym s.positions i)))
        ∙ ap (ring.links_with (length v.links) v.links fill) (sym behind_is)

    once_wide : length once ≡ n
    unfolding once
    once_wide = length-set v.links (fill % length v.links) behind ∙ core.shows.positions

    next : suc fill ≡ fill + 1
    next = omega arith

    -- the link after the head, which the spare's will be
    led_on : ring.link_into n c.links (suc fill) ≡ ring.link_into (length once) once (fill + 1)
    led_on = let two = kept.links.some_pages in
        sym (link_else fill n c.links (suc fill) fill (normal_link c.spare (fill + n)) (omega arith) (omega arith)
        (omega arith) (omega arith) (λ e. omega arith))
        ∙ (λ i. ring.link_into (sym once_wide i) (once_is i) (next i))

    homes_after : List (Option Contents)
    homes_after = set (set v.homes v.spare (Some (blank_page body_size 0 0))) page None

    after : ring.Core
    after = model.after_swap n c page fill

    not_spare_of : (p : ℕ) → p ≢ c.spare → p ≢ v.spare
    not_spare_of p ne e = ne (e ∙ sym core.shows.spare_is)

    -- the pages of fills that are closed and unread stay at home, with what they hold
    closed_after : (f : ℕ) → c.head + 1 ≤ f → f < c.done
        → IsHome homes_after size (ring.page_at n (set c.order (fill % n) c.spare) f) f
        (model.contents_of after (ring.page_at n (set c.order (fill % n) c.spare) f))
    unfolding homes_after after
    closed_after f low high =
        let within = kept.links.opened_le in let behind_done = kept.links.done_lt in let fill_is = head.fill_is in
        let p : ℕ = ring.page_at n c.order f in
        let here : ring.page_at n (set c.order (fill % n) c.spare) f ≡ p =
        page_else c.head n c.order f fill c.spare (omega arith) (omega arith) (omega arith) (omega arith)
        (λ e. omega arith) in
        let ne_spare : p ≢ c.spare = kept.links.apart.spare_differs (f % n) (mod-lt f some) in
        let ne_page : p ≢ page =
        λ e.
        pages_differ n c.order c.spare c.head f c.head some kept.links.apart (omega arith) (omega arith)
        (omega arith) (omega arith) (λ e'. omega arith) (e ∙ head.page_is) in
        let held : model.contents_of after p ≡ model.contents_of c p =
        get_or-set_other (set c.held c.spare ring.empty_page) page p ring.empty_page ring.empty_page ne_page
        ∙ get_or-set_other c.held c.spare p ring.empty_page ring.empty_page ne_spare in
        subst (λ (q : ℕ). IsHome homes_after size q f (model.contents_of after q)) (sym here)
        (subst (λ (h : ring.PageRecords). IsHome homes_after size p f h) (sym held)
        (home_stays v.homes v.spare page p (Some (blank_page body_size 0 0)) None size f (model.contents_of c p)
        (not_spare_of p ne_spare) ne_page (core.shows.closed f (omega arith) high)))

    -- there is a page for each fill that may be begun, the reader's old one among them
    free_after : (f : ℕ) → c.opened ≤ f → f < c.done + n
        → HasBody homes_after size (ring.page_at n (set c.order (fill % n) c.spare) f)
    unfolding homes_after after
    free_after f low high =
        let within = kept.links.opened_le in
        let behind_done = kept.links.done_lt in
        let fill_is = head.fill_is in
        let closed = head.closed in
        dite (ℕ_discrete f (fill + n))
        (λ e.
        let is : ring.page_at n (set c.order (fill % n) c.spare) f ≡ c.spare =
        ap (ring.page_at n (set c.order (fill % n) c.spare)) e ∙ page_turn n (set c.order (fill % n) c.spare) fill
        ∙ page_here n c.order fill c.spare some kept.links.apart.pages in
        subst (HasBody homes_after size) (sym (is ∙ core.shows.spare_is)) (
          blank_page body_size 0 0,
          get_set_other (set v.homes v.spare (Some (blank_page body_size 0 0))) page v.spare None
              (Some (blank_page body_size 0 0)) (λ e'. not_spare (sym e' ∙ sym core.shows.spare_is))
              (get_set_same v.homes v.spare (Some (blank_page body_size 0 0))
              (let spare_below = spare_low in omega arith)),
          sized ∙ core.shows.frames.size_is,
        ))
        (λ ne.
        let apart_from : f % n ≢ fill % n =
        λ e.
        apart c.done n f (fill + n) (omega arith) high (omega arith) (omega arith) ne
        (e ∙ sym (add-mod_right fill n)) in
        let p : ℕ = ring.page_at n c.order f in
        let here : ring.page_at n (set c.order (fill % n) c.spare) f ≡ p =
        get_or-set_other c.order (fill % n) (f % n) c.spare 0 apart_from in
        let ne_spare : p ≢ c.spare = kept.links.apart.spare_differs (f % n) (mod-lt f some) in
        let ne_page : p ≢ page =
        λ e.
        apart_from
        (kept.links.apart.differ (f % n) (fill % n) (mod-lt f some) (mod-lt fill some) (e ∙ page_is)) in
        subst (HasBody homes_after size) (sym here)
        (body_stays v.homes v.spare page p (Some (blank_page body_size 0 0)) None size (not_spare_of p ne_spare) ne_page
        (core.shows.free f low high)))

    shown_after : HasStateOf n size start (value_after v behind body_size page fill (taken.first + taken.count))
        (model.after_swap n c page fill)
    unfolding once homes_after after
    shown_after = let s = core.shows in record {
      frames = same_frames n size start (frames_of v) c (model.after_swap n c page fill) s.frames refl refl refl refl;
      positions = length-set once ((fill + 1) % length once) v.spare_link ∙ once_wide;
      links_are = λ i. ring.links_with (sym once_wide i) (once_is i) (next i) (s.spare_link_is i);
      spare_link_is = led_on;
      order_is = λ i. set (s.order_is i) (fill % sym once_wide i) (s.spare_is i);
      spare_is = refl;
      wish_is = s.wish_is;
      reader_phase_is = refl;
      hint_is = next;
      seen_is = s.seen_is;
      expected_is = λ i. sym w.first_is i + sym (count_is taken w) i;
      closed = closed_after;
      free = free_after;
    }

    pub takes : IsStep n size start c model.reads (Taken taken (taken.first - v.reader.expected))
        (value_after v behind body_size page fill (taken.first + taken.count))
    takes = let s = core.shows in
        stepped n size start v (value_after v behind body_size page fill (taken.first + taken.count)) c model.reads
        (Taken taken (taken.first - v.reader.expected))
        (model.page_taken (model.taken_fill c page fill)) (model.after_swap n c page fill) core
        (step_by (cases.read_step refl
        (subst
        (λ (p : ring.ReaderPhase).
        cases.ReadStep n c p (model.page_taken (model.taken_fill c page fill))
        (model.after_swap n c page fill)) (sym (s.reader_phase_is ∙ ap reader_phase_of at))
        (cases.swaps reported refl refl)))) (
          model.taken_fill c page fill,
          refl,
          record { written = w; missed_is = λ i. w.first_is i - sym s.expected_is i },
        )
        shown_after
