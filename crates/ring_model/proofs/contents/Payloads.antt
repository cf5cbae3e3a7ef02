-- A record that a frame has reserved is in one open page; and the end of a record writes that page alone.
use Rattle.std.proofs.Common.{◌≡◌, ◌≢◌, ◌⊎◌, ⊎_elim, ℕ, zero, suc, ◌+◌, ◌-◌, ◌<◌, ◌≤◌, List, [], ◌∷◌, length, get_or}
use Rattle.std.proofs.Common.{map, Option, Some, refl, sym, ap, ◌∙◌, subst, inl, inr, arith}
use Rattle.std.specs.List.{slice_get}
use Rattle.std.proofs.lemmas.Bool.{cond-true, cond-false, le-ltb, lt-ltb}
use Rattle.std.proofs.lemmas.List.{get_or-map, get_or_past, length-map}
use Rattle.std.proofs.lemmas.Option.{slice_get_within}
use mathlib.Core.Logic.{dite}
use native.Mathlib.Decide.{ℕ_discrete, dec_le}
use Rattle.trace_model.specs.History.{Reservation, PushedFrame, writer_after, reserved_records, records_with_payload}
use Rattle.trace_model.specs.Packing.{opens_of, cut_from}
use Rattle.trace_model.specs.Frames.{Purpose, for_record, for_close, Progress, waiting, reserved, left, number_of}
use Rattle.trace_model.specs.Frames.{Phase, Frame, pushed_onto, pushed_frames}
use Rattle.trace_model.specs.Ring.{PageRecords, empty_page, Core, page_at}
use Rattle.trace_model.specs.Steps.{contents_of, held_with_payload, own_number}
use Rattle.trace_model.proofs.steps.EventSteps.{top_ends}
use Rattle.trace_model.proofs.packing.FillOfNumber.{LiesIn, lies_in, get_in_fill, ends_before}
use Rattle.trace_model.proofs.histories.Committed.{committed_len}
use Rattle.trace_model.proofs.histories.OpenNumbers.{IsOpenAt, HasNumber, AreOpen, open_at, numbers_open}
use Rattle.trace_model.proofs.histories.OpenNumbers.{numbers_uncommitted}
use Rattle.ring_model.specs.KeptStack.{MayBeIn, FramesAgree}
use Rattle.ring_model.specs.RingKept.{IsRingKept}
use Rattle.ring_model.specs.PayloadLaws.{HoldsNumber, IsOnOpenPage, ReservedLiesOpen, ReservedDiffer, WritesOnePage}
use Rattle.ring_model.specs.PayloadLaws.{EndsWriteOnePage}
use Rattle.ring_model.proofs.links.FramePhases.{none_some}
use Rattle.ring_model.proofs.contents.PageChanges.{page_below}

-- ---- the numbers of frames

some_frame : (a b : Frame) → Some a ≡ Some b → a ≡ b
some_frame a b e = cc

top_has : (kind : Purpose) (state : Progress) (phase : Phase) (number : ℕ) (below : List PushedFrame)
    → MayBeIn kind state phase → state ≡ reserved number → HasNumber number (pushed_onto kind state below)
top_has kind waiting phase number below may is = absurd (none_some (ap number_of is))
top_has (for_record moment len) (reserved other) phase number below may is = inl (ap number_of is)
top_has for_close (reserved other) phase number below may is = absurd may.0
top_has kind left phase number below may is = absurd (none_some (ap number_of is))

below_has : (kind : Purpose) (state : Progress) (number : ℕ) (below : List PushedFrame) → HasNumber number below
    → HasNumber number (pushed_onto kind state below)
below_has kind waiting number below has = inr has
below_has kind (reserved other) number below has = inr has
below_has kind left number below has = has

-- a frame that has reserved is on the history's stack
stands_with : (frames : List Frame) (k number : ℕ) (frame : Frame) → FramesAgree frames
    → slice_get frames k ≡ Some frame → frame.state ≡ reserved number → HasNumber number (pushed_frames frames)
stands_with [] k number frame agree at is = absurd (none_some at)
stands_with (x ∷ below) zero number frame agree at is =
    top_has x.kind x.state x.phase number (pushed_frames below) agree.0
    (ap (λ (f : Frame). f.state) (some_frame x frame at) ∙ is)
stands_with (x ∷ below) (suc k) number frame agree at is =
    below_has x.kind x.state number (pushed_frames below) (stands_with below k number frame agree.2 at is)

top_lacks : (records : List Reservation) (kind : Purpose) (state : Progress) (phase : Phase) (number : ℕ)
    (below : List PushedFrame) → MayBeIn kind state phase → state ≡ reserved number
    → AreOpen records (pushed_onto kind state below) → HasNumber number below → ⊥
top_lacks records kind waiting phase number below may is h has = none_some (ap number_of is)
top_lacks records (for_record moment len) (reserved other) phase number below may is h has =
    (h.0 number (ap number_of is)).1 has
top_lacks records for_close (reserved other) phase number below may is h has = may.0
top_lacks records kind left phase number below may is h has = none_some (ap number_of is)

below_open : (records : List Reservation) (kind : Purpose) (state : Progress) (below : List PushedFrame)
    → AreOpen records (pushed_onto kind state below) → AreOpen records below
below_open records kind waiting below h = h.1
below_open records kind (reserved number) below h = h.1
below_open records kind left below h = h

one_has : (records : List Reservation) (frames : List Frame) (j k number : ℕ) (one other : Frame) → FramesAgree frames
    → AreOpen records (pushed_frames frames) → slice_get frames j ≡ Some one → slice_get frames k ≡ Some other
    → one.state ≡ reserved number → other.state ≡ reserved number → j ≡ k
one_has records [] j k number one other agree h at_j at_k is_j is_k = absurd (none_some at_j)
one_has records (x ∷ below) zero zero number one other agree h at_j at_k is_j is_k = refl
one_has records (x ∷ below) zero (suc k) number one other agree h at_j at_k is_j is_k =
    absurd (top_lacks records x.kind x.state x.phase number (pushed_frames below) agree.0
    (ap (λ (f : Frame). f.state) (some_frame x one at_j) ∙ is_j) h
    (stands_with below k number other agree.2 at_k is_k))
one_has records (x ∷ below) (suc j) zero number one other agree h at_j at_k is_j is_k =
    absurd (top_lacks records x.kind x.state x.phase number (pushed_frames below) agree.0
    (ap (λ (f : Frame). f.state) (some_frame x other at_k) ∙ is_k) h
    (stands_with below j number one agree.2 at_j is_j))
one_has records (x ∷ below) (suc j) (suc k) number one other agree h at_j at_k is_j is_k =
    ap suc
    (one_has records below j k number one other agree.2 (below_open records x.kind x.state (pushed_frames below) h)
    at_j at_k is_j is_k)

pub reserved_differ : ReservedDiffer
reserved_differ n size start c j k number one other r at_j at_k is_j is_k =
    one_has (reserved_records c.history) c.frames j k number one other r.stack.agree
    (subst (AreOpen (reserved_records c.history)) r.history.stack (numbers_open c.history r.history.allowed)) at_j
    at_k is_j is_k

-- ---- where the record is

-- a page is one of these, or none of them
one_of : (pages : List ℕ) (page : ℕ)
    → ((i : ℕ) × (i < length pages) × (get_or pages i 0 ≡ page))
    ⊎ ((i : ℕ) → i < length pages → get_or pages i 0 ≢ page)
one_of [] page = inr (λ i low. absurd (omega arith))
one_of (p ∷ pages) page = dite (ℕ_discrete p page)
    (λ e. inl (0, omega arith, e))
    (λ ne. ⊎_elim (λ (i, low, is). inl (suc i, omega arith, is)) (λ none. inr (not_here none ne)) (one_of pages page))
  where
    not_here : ((i : ℕ) → i < length pages → get_or pages i 0 ≢ page) → p ≢ page → (i : ℕ) → i < suc (length pages)
        → get_or (p ∷ pages) i 0 ≢ page
    not_here none ne zero low = ne
    not_here none ne (suc i) low = none i (omega arith)

module _ (n size start : ℕ) (c : Core) (r : IsRingKept n size start c) (number : ℕ)
    (has : HasNumber number (pushed_frames c.frames)) where
  on_stack : HasNumber number (writer_after c.history).stack
  on_stack = subst (HasNumber number) (sym r.history.stack) has

  is_open : IsOpenAt (reserved_records c.history) number
  is_open =
      open_at (reserved_records c.history) (writer_after c.history).stack number
      (numbers_open c.history r.history.allowed) on_stack

  uncommitted : committed_len c.history ≤ number
  uncommitted = numbers_uncommitted c.history number on_stack

  lies : LiesIn (opens_of c.history) (reserved_records c.history) (c.done - start) number
  lies = let count = r.contents.begun in
      let from = r.contents.from_start in
      let unread = r.links.head_le in
      let behind = r.links.done_lt in
      let closed = r.closed in
      let late = uncommitted in
      lies_in (opens_of c.history) (reserved_records c.history) number (length (opens_of c.history) - (c.done - start))
      (c.done - start) (omega arith) r.contents.rising (omega arith)
      (slice_get_within (reserved_records c.history) number is_open.record_is is_open.at)

  lies_open : IsOnOpenPage n c number
  lies_open = let count = r.contents.begun in
      let from = r.contents.from_start in
      let unread = r.links.head_le in
      let behind = r.links.done_lt in
      let i : ℕ = lies.fill in
      let least = lies.least_le in
      let most = lies.fill_le in
      let low = lies.first_le in
      let high = lies.number_lt in
      let fill : ℕ = start + i in
      let page : ℕ = page_at n c.order fill in
      let first : ℕ = get_or (0 ∷ opens_of c.history) i 0 in
      let records : List Reservation = get_or (cut_from 0 (opens_of c.history) (reserved_records c.history)) i [] in
      let holds : contents_of c page ≡ record { first = first; records = records } =
      r.contents.each fill (omega arith) (omega arith)
      ∙ ap
      (λ (j : ℕ). let h : PageRecords =
      record {
        first = get_or (0 ∷ opens_of c.history) j 0;
        records = get_or (cut_from 0 (opens_of c.history) (reserved_records c.history)) j [];
      } in
      h) (let same : fill - start ≡ i = omega arith in same) in
      let first_is : (contents_of c page).first ≡ first = ap (λ (h : PageRecords). h.first) holds in
      let size_is : length (contents_of c page).records ≡ length records =
      ap (λ (h : PageRecords). length h.records) holds in
      record {
        fill = fill;
        done_le = omega arith;
        opened_lt = omega arith;
        is_open = let pages = r.open_pages.count in
            r.open_pages.each (fill - c.done) (omega arith)
            ∙ ap (page_at n c.order) (let same : c.done + (fill - c.done) ≡ fill = omega arith in same);
        index = number - first;
        holds = (omega arith, omega arith);
        is_index = omega arith;
        record_is = is_open.record_is;
        at = ap (λ (h : PageRecords). slice_get h.records (number - first)) holds
            ∙ get_in_fill 0 (opens_of c.history) (reserved_records c.history) i (number - first) most (omega arith)
            ∙ ap (slice_get (reserved_records c.history))
            (let same : first + (number - first) ≡ number = omega arith in same)
            ∙ is_open.at;
        unwritten = is_open.unwritten;
        alone = alone;
      }
    where
      -- of two fills that hold the number one would end before the other
      same_fill : (j : ℕ) → j ≤ length (opens_of c.history) → get_or (0 ∷ opens_of c.history) j 0 ≤ number
          → number
          < get_or (0 ∷ opens_of c.history) j 0
          + length (get_or (cut_from 0 (opens_of c.history) (reserved_records c.history)) j []) → j ≡ lies.fill
      same_fill j within low high = let low' = lies.first_le in
          let high' = lies.number_lt in
          dite (ℕ_discrete j lies.fill) (λ e. e)
          (λ ne. dite (dec_le (suc j) lies.fill)
          (λ before. let ends_at =
          ends_before (opens_of c.history) (reserved_records c.history) j lies.fill before lies.fill_le
          r.contents.rising in
          absurd (omega arith))
          (λ late. let ends_at =
          ends_before (opens_of c.history) (reserved_records c.history) lies.fill j (omega arith) within
          r.contents.rising in
          absurd (omega arith)))

      alone : (page : ℕ) → HoldsNumber c page number → page ≡ page_at n c.order (start + lies.fill)
      alone page (first_le, lt) = ⊎_elim
          (λ (i, inside, is). let count = r.contents.begun in
          let from = r.contents.from_start in
          let unread = r.links.head_le in
          let pages = r.open_pages.count in
          let there : page ≡ page_at n c.order (c.done + i) = sym is ∙ r.open_pages.each i inside in
          let here = ap (contents_of c) there ∙ r.contents.each (c.done + i) (omega arith) (omega arith) in
          let first_is = ap (λ (h : PageRecords). h.first) here in
          let size_is = ap (λ (h : PageRecords). length h.records) here in
          let same : (c.done + i) - start ≡ lies.fill =
          same_fill ((c.done + i) - start) (omega arith) (omega arith) (omega arith) in
          there ∙ ap (page_at n c.order) (let e : c.done + i ≡ start + lies.fill = omega arith in e))
          (λ none. let other = r.other_pages page none in let late = uncommitted in absurd (omega arith))
          (one_of c.open_pages page)

pub reserved_lies_open : ReservedLiesOpen
reserved_lies_open n size start c k number frame r at is =
    lies_open n size start c r number (stands_with c.frames k number frame r.stack.agree at is)

-- ---- the end of a record

finished_past : (number : ℕ) (payload : List ℕ) (records : List Reservation) → length records ≤ number
    → records_with_payload (Some number) (Some payload) records ≡ records
finished_past number payload [] past = refl
finished_past zero payload (x ∷ records) past = absurd (omega arith)
finished_past (suc number) payload (x ∷ records) past =
    ap (λ (l : List Reservation). x ∷ l) (finished_past number payload records (omega arith))

-- a page that doesn't hold the number stays as it is
page_stays : (number : ℕ) (payload : List ℕ) (h : PageRecords)
    → ((h.first ≤ number) × (number < h.first + length h.records) → ⊥)
    → held_with_payload (Some number) (Some payload) h ≡ h
page_stays number payload h lacks =
    ap (λ (l : List Reservation). let g : PageRecords = record { first = h.first; records = l } in g)
    (dite (dec_le h.first number)
    (λ low.
    cond-false _ _ _ (le-ltb number h.first low)
    ∙ finished_past (number - h.first) payload h.records
    (past (dec_le (h.first + length h.records) number) low))
    (λ high. cond-true _ _ _ (lt-ltb number h.first (omega arith))))
  where
    past : Dec (h.first + length h.records ≤ number) → h.first ≤ number → length h.records ≤ number - h.first
    past d low = dite d (λ yes. omega arith) (λ no. absurd (lacks (low, omega arith)))

module _ (n size start : ℕ) (c : Core) (payload : List ℕ) (after : Core) (number : ℕ) (r : IsRingKept n size start c)
    (lies : IsOnOpenPage n c number) (held : after.held ≡ map (held_with_payload (Some number) (Some payload)) c.held)
  where
    in_page : (page : ℕ) → page < length c.held
        → contents_of after page ≡ held_with_payload (Some number) (Some payload) (contents_of c page)
    in_page page inside =
        ap (λ (l : List PageRecords). get_or l page empty_page) held
        ∙ get_or-map (held_with_payload (Some number) (Some payload)) c.held page empty_page empty_page inside

    writes : WritesOnePage n c payload after number
    writes = record {
      lies = lies;
      written = let two = r.links.some_pages in
          let wide = r.contents.bodies in
          let below = page_below n c.order c.spare lies.fill (omega arith) r.links.apart in
          in_page (page_at n c.order lies.fill) (omega arith);
      others = λ page ne. dite (dec_le (suc page) (length c.held))
          (λ inside.
          in_page page inside ∙ page_stays number payload (contents_of c page) (λ holds. ne (lies.alone page holds)))
          (λ past. ap (λ (l : List PageRecords). get_or l page empty_page) held
          ∙ get_or_past (map (held_with_payload (Some number) (Some payload)) c.held) page empty_page
          (let same = length-map c.held (held_with_payload (Some number) (Some payload)) in omega arith)
          ∙ sym (get_or_past c.held page empty_page (omega arith)));
    }

-- the number that the frame reserved
own_is : (kind : Purpose) (state : Progress) (moment len number : ℕ) → kind ≡ for_record moment len
    → state ≡ reserved number → own_number kind state ≡ Some number
own_is kind state moment len number kind_is state_is = (λ i. own_number (kind_is i) (state_is i))

pub ends_write_one_page : EndsWriteOnePage
ends_write_one_page n size start c payload answer after frame below number r top is step ended =
    let end = top_ends payload frame below number top is step in
    writes n size start c payload after number r
    (lies_open n size start c r number
    (stands_with c.frames 0 number frame r.stack.agree (ap (λ (fs : List Frame). slice_get fs 0) top) is))
    (ap (λ (x : Core). x.held) end.after_is
    ∙ ap (λ (o : Option ℕ). map (held_with_payload o (Some payload)) c.held)
    (own_is frame.kind frame.state end.moment end.len number end.kind_is is))
