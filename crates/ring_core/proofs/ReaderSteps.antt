-- The steps of the reader but the swap: what the value after each of them shows.
use Rattle.std.proofs.Common.{◌≡◌, ◌≢◌, ℕ, suc, ◌+◌, ◌-◌, ◌%◌, ◌<◌, ◌≤◌, List, length, get_or, refl, sym, ap, ◌∙◌}
use Rattle.std.proofs.Common.{subst, mod-lt, mod-eq_of_lt, arith}
use Rattle.std.specs.Prelude.{Bool, true, false, ◌==◌}
use Rattle.std.proofs.lemmas.Bool.{eqb-true, eq-eqb}
use Rattle.trace_model.specs.declared.limits.TheConstants.{LINK_FILLS}
use Rattle.trace_model.specs.Links.{Link, header_link, normal_link, update_link}
use Rattle.trace_model.specs.Ring as ring
use Rattle.trace_model.specs.Steps as model
use Rattle.trace_model.proofs.steps.StepCases as cases
use Rattle.trace_model.proofs.steps.StepIs.{step_by}
use Rattle.link_marks.specs.declared.link.Link.{Link as FoundLink}
use Rattle.link_marks.specs.declared.link.Mark.{Mark}
use Rattle.link_marks.specs.declared.link.Mark.TheVariants.{Normal, Header, Update}
use Rattle.link_marks.specs.ModelLinks.{link_of}
use Rattle.ring_model.specs.KeptLinks.{ReaderKept, LinkKept, is_normal, is_header, is_update, LinksKept}
use Rattle.ring_model.proofs.links.LinkFills.{fill_at, normal_reports}
use Rattle.trace_model.proofs.Positions.{at_position}
use Rattle.ring_frames.specs.declared.answer.Answer.{Answer}
use Rattle.ring_frames.specs.declared.answer.Answer.TheVariants.{Looking, Empty, Moving, Wished}
use Rattle.ring_frames.specs.declared.looking.HeadSeen.{HeadSeen}
use Rattle.ring_frames.specs.declared.looking.HeadSeen.TheVariants.{Head, Unfinished, Passed}
use Rattle.ring_frames.specs.declared.reader.TakeState.{TakeState}
use Rattle.ring_frames.specs.declared.reader.ReaderPhase.TheVariants.{LoadingHead, LoadingDone, StoringSpareLink}
use Rattle.ring_frames.specs.declared.reader.ReaderPhase.TheVariants.{Swapping}
use Rattle.ring_frames.proofs.Same.{same_frames}
use Rattle.ring_frames.specs.ReaderPhases.{reader_phase_of}
use Rattle.ring_core.specs.Value.{CoreValue, frames_of}
use Rattle.ring_core.specs.IsCore.{HasStateOf, IsCore}
use Rattle.ring_frames.specs.Answers.{IsAnswerOf}
use Rattle.ring_core.specs.Answers.{GivesBack}
use Rattle.ring_core.specs.Steps.{IsStep, MakesStep, MakesRead, IsSomeCore, IsReachedCore}
use Rattle.ring_core.proofs.Stepped.{kept_of, stepped}

-- the reader goes on, and sets its page's link or its wish
reader_shown : (n size start : ℕ) (v : CoreValue) (c : ring.Core) (spare_link of_link : Link) (wish of_wish : ℕ)
    (reader : TakeState) (of : ring.Reader) → HasStateOf n size start v c
    → of_link ≡ spare_link → of_wish ≡ wish → of.phase ≡ reader_phase_of reader.phase → of.hint ≡ reader.hint
    → of.seen ≡ reader.seen → of.expected ≡ reader.expected
    → HasStateOf n size start (record v { spare_link = spare_link; wish = wish; reader = reader })
    (record c { spare_link = of_link; wish = of_wish; reader = of })
reader_shown n size start v c spare_link of_link wish of_wish reader of s link_is wish_is phase hint seen expected =
    assumption (
      same_frames n size start (frames_of v) c
          (record c { spare_link = of_link; wish = of_wish; reader = of }) s.frames refl refl refl refl,
      link_is,
      wish_is,
      s,
    )

-- ---- what the links state

-- a link states a fill that has a number
reported_below : (n : ℕ) (c : ring.Core) → LinksKept n c → (f : ℕ) → (ring.link_into n c.links f).fill < LINK_FILLS
reported_below n c k f = let (g, low, high, same, kept) = fill_at n c k f in
    subst (λ (l : Link). l.fill < LINK_FILLS) same (from g high kept)
  where
    from : (g : ℕ) → g < c.head + n → LinkKept n c.links c.order c.head c.frames g
        → (ring.link_into n c.links g).fill < LINK_FILLS
    from g high (is_normal e owed) = let is = ap (λ (l : Link). l.fill) e in
        let a = k.head_le in
        let b = k.done_lt in
        let fits = k.fits in
        omega arith
    from g high (is_header e here) = let is = ap (λ (l : Link). l.fill) e in
        let a = k.head_le in
        let b = k.done_lt in
        let fits = k.fits in
        omega arith
    from g high (is_update lost sum e st) = let is = ap (λ (l : Link). l.fill) e in
        let a = k.head_le in
        let b = k.done_lt in
        let fits = k.fits in
        omega arith

-- a NORMAL states the hint's fill, or one that is at least a round after it
turned : (n : ℕ) (c : ring.Core) (page fill : ℕ) → LinksKept n c
    → ring.link_into n c.links c.reader.hint ≡ normal_link page fill → fill ≢ c.reader.hint
    → (c.reader.hint < fill) × (n ≤ fill + 1)
turned n c page fill k at ne =
    let some_pages = k.some_pages in let hint = k.hint_le in
    let (g, low, high, position) = at_position c.head n (c.reader.hint % n) (mod-lt c.reader.hint (omega arith)) in
    let there = ap (λ (i : ℕ). get_or c.links i (normal_link 0 0)) position ∙ at in
    let is : fill ≡ g = (normal_reports n c.links c.order c.head c.frames g page fill (k.each g low high) there).0 in
    let first : (fill < n → fill ≡ c.reader.hint) =
    λ less.
    is ∙ sym (mod-eq_of_lt (let x : g < n = omega arith in x)) ∙ position
    ∙ mod-eq_of_lt (let x : c.reader.hint < n = omega arith in x) in
    let far : (fill < n → ⊥) = λ less. ne (first less) in
    (omega arith, omega arith)

-- ---- the steps

module _ (n size start : ℕ) (v : CoreValue) (c : ring.Core) (core : IsCore n size start v c) where
  pub wished : IsStep n size start c model.wishes (Wished record { 0 = v.reader.seen })
      (record v { wish = v.reader.seen + 1 })
  wished = let s = core.shows in
      stepped n size start v (record v { wish = v.reader.seen + 1 }) c model.wishes
      (Wished record { 0 = v.reader.seen }) (model.wished_for c.reader.seen) (model.with_wish c) core
      (step_by (cases.store_wish_step refl refl refl)) (ap model.wished_for s.seen_is)
      (reader_shown n size start v c v.spare_link c.spare_link (v.reader.seen + 1) (c.reader.seen + 1) v.reader c.reader
      s
      s.spare_link_is (ap (λ (k : ℕ). k + 1) s.seen_is) s.reader_phase_is s.hint_is s.seen_is s.expected_is)

  -- a step of the reader that changes only the reader and its page's link
  pub reads : (phase : ring.ReaderPhase) (answer : model.Answer) (result : Answer) (spare_link of_link : Link)
      (reader : TakeState) (of : ring.Reader) → reader_phase_of v.reader.phase ≡ phase
      → cases.ReadStep n c phase answer (record c { spare_link = of_link; reader = of }) → IsAnswerOf size result answer
      → of_link ≡ spare_link → of.phase ≡ reader_phase_of reader.phase → of.hint ≡ reader.hint → of.seen ≡ reader.seen
      → of.expected ≡ reader.expected
      → IsStep n size start c model.reads result (record v { spare_link = spare_link; reader = reader })
  reads phase answer result spare_link of_link reader of at step reports link_is phase_is hint seen expected =
      let s =
      core.shows in
      stepped n size start v (record v { spare_link = spare_link; reader = reader }) c model.reads result answer
      (record c { spare_link = of_link; reader = of }) core
      (step_by (cases.read_step refl
      (subst
      (λ (p : ring.ReaderPhase).
      cases.ReadStep n c p answer (record c { spare_link = of_link; reader = of }))
      (sym (s.reader_phase_is ∙ at)) step))) reports
      (reader_shown n size start v c spare_link of_link v.wish c.wish reader of s link_is s.wish_is phase_is hint seen
      expected)

  -- the link into the position of the hint, as it is loaded
  link_at : (l : Link) → ring.link_into (length v.links) v.links v.reader.hint ≡ l
      → ring.link_into n c.links c.reader.hint ≡ l
  link_at l e = let s = core.shows in (λ i. ring.link_into (sym s.positions i) (s.links_are i) (s.hint_is i)) ∙ e

  pub sees_header : (page fill : ℕ) (body : List ℕ) → v.reader.phase ≡ LoadingHead
      → ring.link_into (length v.links) v.links v.reader.hint ≡ header_link page fill
      → IsStep n size start c model.reads (Looking body)
      (record v { reader = record v.reader { phase = LoadingDone page fill; hint = fill } })
  sees_header page fill body at link = let s = core.shows in
      reads ring.loading_head model.reading (Looking body) v.spare_link c.spare_link
      (record v.reader { phase = LoadingDone page fill; hint = fill })
      (record c.reader { phase = ring.loading_done page fill; hint = fill })
      (ap reader_phase_of at) (cases.loads_header page fill (link_at (header_link page fill) link) refl refl) refl
      s.spare_link_is refl refl s.seen_is s.expected_is

  pub sees_update : (page lost : ℕ) (body : List ℕ) → v.reader.phase ≡ LoadingHead
      → ring.link_into (length v.links) v.links v.reader.hint ≡ update_link page lost
      → IsStep n size start c model.reads (Moving record { 0 = lost + 1 } body)
      (record v { reader = record v.reader { phase = LoadingHead; hint = lost + 1 } })
  sees_update page lost body at link = let s = core.shows in let next : suc lost ≡ lost + 1 = omega arith in
      reads ring.loading_head (model.moving (suc lost)) (Moving record { 0 = lost + 1 } body) v.spare_link c.spare_link
      (record v.reader { phase = LoadingHead; hint = lost + 1 })
      (record c.reader { phase = ring.loading_head; hint = suc lost })
      (ap reader_phase_of at) (cases.loads_update page lost (link_at (update_link page lost) link) refl refl)
      (ap model.moving next) s.spare_link_is refl next s.seen_is s.expected_is

  pub sees_owed : (page : ℕ) (body : List ℕ) → v.reader.phase ≡ LoadingHead
      → ring.link_into (length v.links) v.links v.reader.hint ≡ normal_link page v.reader.hint
      → IsStep n size start c model.reads (Moving record { 0 = v.reader.hint } body)
      (record v { reader = record v.reader { phase = LoadingHead; hint = v.reader.hint } })
  sees_owed page body at link = let s = core.shows in
      reads ring.loading_head (model.moving c.reader.hint) (Moving record { 0 = v.reader.hint } body) v.spare_link
      c.spare_link (record v.reader { phase = LoadingHead; hint = v.reader.hint })
      (record c.reader { phase = ring.loading_head; hint = c.reader.hint })
      (ap reader_phase_of at)
      (cases.loads_owed page (link_at (normal_link page v.reader.hint) link ∙ ap (normal_link page) (sym s.hint_is))
      refl refl) (ap model.moving s.hint_is)
      s.spare_link_is refl s.hint_is s.seen_is s.expected_is

  pub sees_passed : (page fill least : ℕ) (body : List ℕ) → v.reader.phase ≡ LoadingHead
      → ring.link_into (length v.links) v.links v.reader.hint ≡ normal_link page fill → fill ≢ v.reader.hint
      → least ≡ fill + 1 - length v.links
      → IsStep n size start c model.reads (Looking body)
      (record v { reader = record v.reader { phase = LoadingHead; hint = least } })
  sees_passed page fill least body at link ne is = let s = core.shows in
      let reported = link_at (normal_link page fill) link in let positions = s.positions in
      let (behind, turn) =
      turned n c page fill (kept_of n size start v c core).links reported (λ e. ne (e ∙ s.hint_is)) in
      reads ring.loading_head model.reading (Looking body) v.spare_link c.spare_link
      (record v.reader { phase = LoadingHead; hint = least })
      (record c.reader { phase = ring.loading_head; hint = least })
      (ap reader_phase_of at) (cases.loads_passed page fill least reported behind (omega arith) refl refl) refl
      s.spare_link_is refl refl s.seen_is s.expected_is

  pub finds_none : (page fill done : ℕ) (body : List ℕ) → v.reader.phase ≡ LoadingDone page fill → done ≡ v.stack.done
      → done ≤ fill
      → IsStep n size start c model.reads (Empty done body)
      (record v { reader = record v.reader { phase = LoadingHead; seen = done } })
  finds_none page fill done body at is le = let s = core.shows in
      let done_is : c.done ≡ done = s.frames.done_is ∙ sym is in
      reads (ring.loading_done page fill) (model.empty c.done) (Empty done body) v.spare_link c.spare_link
      (record v.reader { phase = LoadingHead; seen = done })
      (record c.reader { phase = ring.loading_head; seen = c.done })
      (ap reader_phase_of at) (cases.finds_none (omega arith) refl refl) (ap model.empty done_is) s.spare_link_is refl
      s.hint_is done_is s.expected_is

  pub finds_closed : (page fill done : ℕ) (body : List ℕ) → v.reader.phase ≡ LoadingDone page fill → done ≡ v.stack.done
      → fill < done
      → IsStep n size start c model.reads (Looking body)
      (record v { reader = record v.reader { phase = StoringSpareLink page fill; seen = done } })
  finds_closed page fill done body at is less = let s = core.shows in
      let done_is : c.done ≡ done = s.frames.done_is ∙ sym is in
      reads (ring.loading_done page fill) model.reading (Looking body) v.spare_link c.spare_link
      (record v.reader { phase = StoringSpareLink page fill; seen = done })
      (record c.reader { phase = ring.storing_spare_link page fill; seen = c.done })
      (ap reader_phase_of at) (cases.finds_closed (omega arith) refl refl) refl s.spare_link_is refl s.hint_is done_is
      s.expected_is

  pub stores : (page fill : ℕ) (link : Link) (body : List ℕ) → v.reader.phase ≡ StoringSpareLink page fill
      → link ≡ header_link (ring.page_at (length v.links) v.order (fill + 1)) (fill + 1)
      → IsStep n size start c model.reads (Looking body)
      (record v { spare_link = link; reader = record v.reader { phase = Swapping page fill } })
  stores page fill link body at is = let s = core.shows in let next : suc fill ≡ fill + 1 = omega arith in
      reads (ring.storing_spare_link page fill) model.reading (Looking body) link (model.next_header n c fill)
      (record v.reader { phase = Swapping page fill }) (record c.reader { phase = ring.swapping page fill })
      (ap reader_phase_of at) record { answer_is = refl; after_is = refl } refl
      ((λ i. header_link (ring.page_at (sym s.positions i) (s.order_is i) (next i)) (next i)) ∙ sym is) refl s.hint_is
      s.seen_is s.expected_is

-- ---- ranges

module _ (v : CoreValue) (r : IsSomeCore v) where
  -- the fill of a link has a number
  pub reported_fits : (f : ℕ) → (ring.link_into (length v.links) v.links f).fill < LINK_FILLS
  reported_fits f = let (n, size, start, c, core) = r in let s = core.shows in
      subst (λ (l : Link). l.fill < LINK_FILLS) (λ i. ring.link_into (sym s.positions i) (s.links_are i) f)
      (reported_below n c (kept_of n size start v c core).links f)

  -- a link that states another fill than the hint's states one that isn't in the first round
  pub turn_fits : (page fill : ℕ) → ring.link_into (length v.links) v.links v.reader.hint ≡ normal_link page fill
      → fill ≢ v.reader.hint → length v.links ≤ fill + 1
  turn_fits page fill link ne = let (n, size, start, c, core) = r in
      let s = core.shows in
      let positions = s.positions in
      let (behind, turn) =
      turned n c page fill (kept_of n size start v c core).links
      (link_at n size start v c core (normal_link page fill) link) (λ e. ne (e ∙ s.hint_is)) in
      omega arith

  -- a fill that the reader knows to be closed has a next one
  pub closed_fits : (page fill : ℕ) → v.reader.phase ≡ StoringSpareLink page fill → fill + 1 < LINK_FILLS
  closed_fits page fill at = let (n, size, start, c, core) = r in let s = core.shows in
      let links = (kept_of n size start v c core).links in
      let known =
      subst (λ (p : ring.ReaderPhase). ReaderKept n c.links c.order c.spare_link c.head c.done c.reader.hint p)
      (s.reader_phase_is ∙ ap reader_phase_of at) links.reader in
      let below = known.1 in let open_yet = links.done_lt in let fits = links.fits in omega arith

-- ---- the link that was loaded

-- the fill that it states has a number
pub fill_fits : (v : CoreValue) (r : IsReachedCore v) (hint : ℕ) (link : Link)
    → link ≡ ring.link_into (length v.links) v.links hint → link.fill < LINK_FILLS
unfolding IsReachedCore
fill_fits v r hint link is = let below = reported_fits v r hint in
    let same = ap (λ (l : Link). l.fill) is in
    omega arith

-- it is that of the hint, and has this mark
pub link_loaded : (v : CoreValue) (hint : ℕ) (link : FoundLink) (mark : Mark) → hint ≡ v.reader.hint
    → link_of link ≡ ring.link_into (length v.links) v.links hint → link.mark ≡ mark
    → ring.link_into (length v.links) v.links v.reader.hint
    ≡ link_of record { mark = mark; page = link.page; fill = link.fill }
link_loaded v hint link mark same is marked =
    ap (ring.link_into (length v.links) v.links) (sym same) ∙ sym is
    ∙ ap (λ (m : Mark). link_of record { mark = m; page = link.page; fill = link.fill }) marked

-- by what was seen: what the reader answers, and how it goes on
abbrev pub SeesBy : (n size start : ℕ) (v : CoreValue) (c : ring.Core) (body : List ℕ) → HeadSeen → Type 0
SeesBy n size start v c body (Head page fill) =
    IsStep n size start c model.reads (Looking body)
    (record v { reader = record v.reader { phase = LoadingDone page fill; hint = fill } })
SeesBy n size start v c body (Unfinished fill) =
    IsStep n size start c model.reads (Moving record { 0 = fill } body)
    (record v { reader = record v.reader { phase = LoadingHead; hint = fill } })
SeesBy n size start v c body (Passed fill) =
    IsStep n size start c model.reads (Looking body)
    (record v { reader = record v.reader { phase = LoadingHead; hint = fill } })

module _ (n size start : ℕ) (v : CoreValue) (c : ring.Core) (core : IsCore n size start v c) (body : List ℕ)
    (hint positions : ℕ) (link : FoundLink) (seen : HeadSeen)
    (at : v.reader.phase ≡ LoadingHead) (hint_is : hint ≡ v.reader.hint) (positions_are : positions ≡ length v.links)
    (loaded : link_of link ≡ ring.link_into (length v.links) v.links hint)
    (header : link.mark ≡ Header → seen ≡ Head link.page link.fill)
    (update : link.mark ≡ Update → seen ≡ Unfinished (link.fill + 1))
    (owed : link.mark ≡ Normal → link.fill ≡ hint → seen ≡ Unfinished hint)
    (passed : link.mark ≡ Normal → link.fill ≢ hint → seen ≡ Passed (link.fill + 1 - positions)) where
  seen_as : (mark : Mark) → link.mark ≡ mark
      → ring.link_into (length v.links) v.links v.reader.hint
      ≡ link_of record { mark = mark; page = link.page; fill = link.fill }
  seen_as mark is = link_loaded v hint link mark hint_is loaded is

  normal : link.mark ≡ Normal → (test : Bool) → (link.fill == hint) ≡ test → SeesBy n size start v c body seen
  normal is true test =
      let here : link.fill ≡ hint = eqb-true link.fill hint test in
      subst (SeesBy n size start v c body) (sym (owed is here))
      (subst (λ (k : ℕ). SeesBy n size start v c body (Unfinished k)) (sym hint_is)
      (sees_owed n size start v c core link.page body at
      (seen_as Normal is ∙ ap (normal_link link.page) (here ∙ hint_is))))
  normal is false test =
      let other : link.fill ≢ hint = λ e. let holds = eq-eqb link.fill hint e in
      absurd (let both = sym holds ∙ test in cc) in
      subst (SeesBy n size start v c body) (sym (passed is other))
      (sees_passed n size start v c core link.page link.fill (link.fill + 1 - positions) body at (seen_as Normal is)
      (λ e. other (e ∙ sym hint_is)) (ap (λ (k : ℕ). link.fill + 1 - k) positions_are))

  marked : (mark : Mark) → link.mark ≡ mark → SeesBy n size start v c body seen
  marked Header is =
      subst (SeesBy n size start v c body) (sym (header is))
      (sees_header n size start v c core link.page link.fill body at (seen_as Header is))
  marked Update is =
      subst (SeesBy n size start v c body) (sym (update is))
      (sees_update n size start v c core link.page link.fill body at (seen_as Update is))
  marked Normal is = normal is (link.fill == hint) refl

  pub sees : SeesBy n size start v c body seen
  sees = marked link.mark refl

pub makes_read : (v : CoreValue) (body : List ℕ) (result : Answer) (new : CoreValue)
    → MakesStep v model.reads result new → GivesBack body result → new.stack ≡ v.stack → MakesRead v body result new
makes_read v body result new step given_back stack = record { step = step; given_back = given_back; stack = stack }
