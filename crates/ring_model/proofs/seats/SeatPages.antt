-- Which pages each of the two seats changes: a step of the reader none that the writer holds, and a private step of
-- the writer no other.
use Rattle.std.proofs.Common.{◌≡◌, ◌≢◌, ℕ, zero, suc, ◌+◌, ◌-◌, ◌%◌, ◌<◌, ◌≤◌, List, [], ◌∷◌, length, get_or, set}
use Rattle.std.proofs.Common.{Option, Some, None, refl, sym, ap, ◌∙◌, subst, mod-lt, arith}
use Rattle.std.specs.Prelude.{nat_lt}
use Rattle.std.proofs.lemmas.Bool.{cond_both}
use Rattle.std.proofs.lemmas.List.{get_or-set_other}
use Rattle.trace_model.specs.History.{Reservation, PushedFrame, records_with_payload}
use Rattle.trace_model.specs.Frames.{Purpose, for_record, for_close, Progress, waiting, reserved, left, Frame}
use Rattle.trace_model.specs.Frames.{pushed_onto, pushed_frames}
use Rattle.trace_model.specs.Ring.{PageRecords, empty_page, page_at, link_into, ReaderPhase, loading_head, loading_done}
use Rattle.trace_model.specs.Ring.{storing_spare_link, swapping, Core}
use Rattle.trace_model.specs.Links.{header_link}
use Rattle.trace_model.specs.Steps.{Event, Answer, tail_page, held_with_payload, own_number, Step}
use Rattle.trace_model.proofs.steps.StepCases.{StepCases, ReadStep, loads_header, loads_update, loads_owed}
use Rattle.trace_model.proofs.steps.StepCases.{loads_passed, finds_none, finds_closed, swaps, swap_fails, push_step}
use Rattle.trace_model.proofs.steps.StepCases.{push_refused, close_step, close_refused, frame_step, frame_lacks}
use Rattle.trace_model.proofs.steps.StepCases.{end_step, end_lacks, end_early, read_step, store_wish_step}
use Rattle.trace_model.proofs.histories.Committed.{committed_len, committed_prefix, Behind}
use Rattle.trace_model.proofs.steps.StepSound.{cases_of}
use Rattle.ring_model.specs.KeptLinks.{ReaderKept, LinksKept}
use Rattle.ring_model.specs.KeptContents.{OpenPagesKept}
use Rattle.ring_model.specs.RingKept.{IsRingKept}
use Rattle.ring_model.specs.Seats.{IsOfReader, IsPrivate, OpenPagesHold, OtherPagesHold}
use Rattle.ring_model.proofs.links.FramePhases.{none_some}
use Rattle.ring_model.proofs.links.LinkFills.{header_reports, fill_at}
use Rattle.ring_model.proofs.contents.PageChanges.{pages_differ}
use Rattle.ring_model.proofs.contents.OtherPageSteps.{end_of, ended_at}
use Rattle.ring_model.proofs.seats.PrivateSteps.{PrivateResult, stays, pushed_one, reserved_one, goes_on, leaves}
use Rattle.ring_model.proofs.seats.PrivateSteps.{private_result}

-- ---- the pages that the writer holds

-- what the reader is about to take is the head, which is closed
pub record IsHeadTaken (n : ℕ) (c : Core) (page fill : ℕ) : Type 0 where
  pub fill_is : fill ≡ c.head
  pub closed : c.head < c.done
  pub page_is : page ≡ page_at n c.order c.head

pub head_taken : (n : ℕ) (c : Core) (page fill : ℕ) → LinksKept n c
    → ReaderKept n c.links c.order c.spare_link c.head c.done c.reader.hint (swapping page fill)
    → link_into n c.links fill ≡ header_link page fill → IsHeadTaken n c page fill
head_taken n c page fill k facts at =
    let (g, low, high, same, link) = fill_at n c k fill in
    let reported = header_reports n c.links c.order c.head c.frames g page fill link (same ∙ at) in
    let here : fill ≡ c.head = reported.0 ∙ reported.1 in let closed = facts.1 in record {
      fill_is = here;
      closed = omega arith;
      page_is = reported.2 ∙ ap (page_at n c.order) reported.1;
    }

module _ (n : ℕ) (c : Core) (k : LinksKept n c) (o : OpenPagesKept n c) where
  pub open_not_spare : (i : ℕ) → i < length c.open_pages → get_or c.open_pages i 0 ≢ c.spare
  open_not_spare i low e = let some_pages = k.some_pages in
      k.apart.spare_differs ((c.done + i) % n) (mod-lt (c.done + i) (omega arith)) (sym (o.each i low) ∙ e)

  -- the head, if it is closed, is on none of them
  pub open_not_head : (i : ℕ) → i < length c.open_pages → c.head < c.done
      → get_or c.open_pages i 0 ≢ page_at n c.order c.head
  open_not_head i low closed e = let some_pages = k.some_pages in let within = k.opened_le in let count = o.count in
      pages_differ n c.order c.spare c.head (c.done + i) c.head (omega arith) k.apart (omega arith) (omega arith)
      (omega arith) (omega arith) (λ same. omega arith) (sym (o.each i low) ∙ e)

  -- a step of the reader empties the head's page and the spare at most
  read_pages : (phase : ReaderPhase) (answer : Answer) (after : Core)
      → ReaderKept n c.links c.order c.spare_link c.head c.done c.reader.hint phase → ReadStep n c phase answer after
      → OpenPagesHold c after
  read_pages loading_head answer after facts (loads_header page fill at a is) =
      subst (OpenPagesHold c) (sym is) (λ i low. refl)
  read_pages loading_head answer after facts (loads_update page lost at a is) =
      subst (OpenPagesHold c) (sym is) (λ i low. refl)
  read_pages loading_head answer after facts (loads_owed page at a is) =
      subst (OpenPagesHold c) (sym is) (λ i low. refl)
  read_pages loading_head answer after facts (loads_passed page fill least at more sum a is) =
      subst (OpenPagesHold c) (sym is) (λ i low. refl)
  read_pages (loading_done page fill) answer after facts (finds_none le a is) =
      subst (OpenPagesHold c) (sym is) (λ i low. refl)
  read_pages (loading_done page fill) answer after facts (finds_closed below a is) =
      subst (OpenPagesHold c) (sym is) (λ i low. refl)
  read_pages (storing_spare_link page fill) answer after facts step =
      subst (OpenPagesHold c) (sym step.after_is) (λ i low. refl)
  read_pages (swapping page fill) answer after facts (swaps at a is) = let head = head_taken n c page fill k facts at in
      subst (OpenPagesHold c) (sym is) (λ i low.
      get_or-set_other (set c.held c.spare empty_page) page (get_or c.open_pages i 0) empty_page empty_page
      (λ e. open_not_head i low head.closed (e ∙ head.page_is))
      ∙ get_or-set_other c.held c.spare (get_or c.open_pages i 0) empty_page empty_page (open_not_spare i low))
  read_pages (swapping page fill) answer after facts (swap_fails at a is) =
      subst (OpenPagesHold c) (sym is) (λ i low. refl)

pub reader_leaves_open_pages : (n size start : ℕ) (c : Core) (event : Event) (answer : Answer) (after : Core)
    → IsRingKept n size start c → IsOfReader event → StepCases n size c event answer after → OpenPagesHold c after
reader_leaves_open_pages n size start c event answer after r reads (push_step moment len e few short early a is) =
    absurd (subst IsOfReader e reads)
reader_leaves_open_pages n size start c event answer after r reads (push_refused moment len why e refused a is) =
    absurd (subst IsOfReader e reads)
reader_leaves_open_pages n size start c event answer after r reads (close_step e few a is) =
    absurd (subst IsOfReader e reads)
reader_leaves_open_pages n size start c event answer after r reads (close_refused e many a is) =
    absurd (subst IsOfReader e reads)
reader_leaves_open_pages n size start c event answer after r reads (frame_step frame below e top step) =
    absurd (subst IsOfReader e reads)
reader_leaves_open_pages n size start c event answer after r reads (frame_lacks e none a is) =
    absurd (subst IsOfReader e reads)
reader_leaves_open_pages n size start c event answer after r reads
    (end_step payload frame below number moment len e top at kind slot a is) =
    absurd (subst IsOfReader e reads)
reader_leaves_open_pages n size start c event answer after r reads (end_lacks payload e none a is) =
    absurd (subst IsOfReader e reads)
reader_leaves_open_pages n size start c event answer after r reads (end_early payload frame below e top none a is) =
    absurd (subst IsOfReader e reads)
reader_leaves_open_pages n size start c event answer after r reads (read_step e step) =
    read_pages n c r.links r.open_pages c.reader.phase answer after r.links.reader step
reader_leaves_open_pages n size start c event answer after r reads (store_wish_step e a is) =
    subst (OpenPagesHold c) (sym is) (λ i low. refl)

-- ---- the other pages

-- an end changes no page whose records lie before its own
beyond : (k : ℕ) (payload : Option (List ℕ)) (xs : List Reservation) → length xs ≤ k
    → records_with_payload (Some k) payload xs ≡ xs
beyond k None xs low = refl
beyond k (Some p) [] low = refl
beyond zero (Some p) (x ∷ xs) low = absurd (omega arith)
beyond (suc k) (Some p) (x ∷ xs) low = ap (λ (l : List Reservation). x ∷ l) (beyond k (Some p) xs (omega arith))

untouched : (number : Option ℕ) (payload : Option (List ℕ)) (h : PageRecords)
    → ((k : ℕ) → number ≡ Some k → end_of h ≤ k) → held_with_payload number payload h ≡ h
untouched None payload h low = refl
untouched (Some k) payload h low = let before = low k refl in
    ap (λ (rs : List Reservation). let g : PageRecords = record { first = h.first; records = rs } in g)
    (cond_both (nat_lt k h.first) h.records (records_with_payload (Some (k - h.first)) payload h.records)
    (λ (rs : List Reservation). ◌≡◌ {A = List Reservation} rs h.records)
    (λ _. refl) (λ _. beyond (k - h.first) payload h.records (omega arith)))

-- the record of the frame on top isn't committed
own_behind : (least : ℕ) (kind : Purpose) (state : Progress) (stack : List PushedFrame)
    → Behind least (pushed_onto kind state stack) → (k : ℕ) → own_number kind state ≡ Some k → least ≤ k
own_behind least (for_record moment len) waiting stack b k e = absurd (none_some e)
own_behind least (for_record moment len) (reserved number) stack b k e = b.0 k e
own_behind least (for_record moment len) left stack b k e = absurd (none_some e)
own_behind least for_close state stack b k e = absurd (none_some e)

module _ (n size start : ℕ) (c : Core) (r : IsRingKept n size start c) where
  number_behind : (frame : Frame) (below : List Frame) → c.frames ≡ frame ∷ below → (k : ℕ)
      → own_number frame.kind frame.state ≡ Some k → committed_len c.history ≤ k
  number_behind frame below top k e = own_behind (committed_len c.history) frame.kind frame.state (pushed_frames below)
      (subst (Behind (committed_len c.history)) (r.history.stack ∙ ap pushed_frames top)
      (committed_prefix c.history).behind) k e

  pub result_pages : (after : Core) → PrivateResult c after → OtherPagesHold c after
  result_pages after (stays is) = subst (OtherPagesHold c) (sym is) (λ page other. refl)
  result_pages after (pushed_one kind history_event is) = subst (OtherPagesHold c) (sym is) (λ page other. refl)
  result_pages after (reserved_one frame below record_of number is) = let count = r.open_pages.count in
      let behind = r.links.done_lt in
      subst (OtherPagesHold c) (sym is)
      (λ page other.
      get_or-set_other c.held (tail_page c) page _ empty_page
      (λ e. other (length c.open_pages - 1) (omega arith) (sym e)))
  result_pages after (goes_on frame below phase is) = subst (OtherPagesHold c) (sym is) (λ page other. refl)
  result_pages after (leaves frame below payload top is) = let number : Option ℕ = own_number frame.kind frame.state in
      subst (OtherPagesHold c) (sym is) (λ page other. ended_at number payload c.held page
      ∙ untouched number payload (get_or c.held page empty_page)
      (λ k e. let closed = r.other_pages page other in let low = number_behind frame below top k e in omega arith))

pub private_leaves_other_pages : (n size start : ℕ) (c : Core) (event : Event) (answer : Answer) (after : Core)
    → IsRingKept n size start c → IsPrivate c event → Step n size c event answer after → OtherPagesHold c after
private_leaves_other_pages n size start c event answer after r own step =
    result_pages n size start c r after (private_result n size c event answer after own (cases_of step))
