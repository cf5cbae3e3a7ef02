-- Each step keeps the fills in their pages.
use Rattle.std.proofs.Common.{◌≡◌, ◌≢◌, ℕ, ◌+◌, ◌-◌, ◌≤◌, List, [], ◌∷◌, ◌++◌, get_or, length, map, set, Option, Some}
use Rattle.std.proofs.Common.{None, refl, sym, ap, ◌∙◌, subst, arith}
use Rattle.trace_model.specs.History.{HistoryEvent, push, push_close, open_fill, reserve, leave, wished, Reservation}
use Rattle.trace_model.specs.History.{writer_after, reserved_records, records_with_payload}
use Rattle.trace_model.specs.Packing.{opens_of}
use Rattle.trace_model.specs.Frames.{Purpose, for_record, for_close, Progress, waiting, reserved, left, Phase, idle}
use Rattle.trace_model.specs.Frames.{looking, claiming, looking_next, marking, clearing, opening, releasing, wishing}
use Rattle.trace_model.specs.Frames.{Frame, pushed_onto, pushed_frames}
use Rattle.trace_model.specs.Ring.{PageRecords, ReaderPhase, loading_head, loading_done, storing_spare_link, swapping}
use Rattle.trace_model.specs.Ring.{Core, page_at, AreApart}
use Rattle.trace_model.specs.Steps.{Event, Answer, tail_page, after_leave, held_with_payload, own_number, with_new_tail}
use Rattle.trace_model.specs.Steps.{after_begin, after_swap}
use Rattle.trace_model.proofs.steps.StepCases.{StepCases, BeginsAgain, IdleStep, ReserveStep, reserves, finds_nothing}
use Rattle.trace_model.proofs.steps.StepCases.{is_crowded, is_worn, notes, load_link_late, sees_free, sees_header}
use Rattle.trace_model.proofs.steps.StepCases.{sees_update, claim_late, claims, claim_fails, load_next_late}
use Rattle.trace_model.proofs.steps.StepCases.{sees_normal, sees_other, mark_late, marks, mark_fails, clears}
use Rattle.trace_model.proofs.steps.StepCases.{OpenFillStep, open_late, opens, releases, releases_last, grants}
use Rattle.trace_model.proofs.steps.StepCases.{closes_more, goes_away, FrameStep, push_step, push_refused, close_step}
use Rattle.trace_model.proofs.steps.StepCases.{close_refused, frame_step, frame_lacks, end_step, end_lacks, end_early}
use Rattle.trace_model.proofs.steps.StepCases.{read_step, store_wish_step, LoadHeadStep, loads_header, loads_update}
use Rattle.trace_model.proofs.steps.StepCases.{loads_owed, loads_passed, LoadDoneStep, finds_none, finds_closed}
use Rattle.trace_model.proofs.steps.StepCases.{SwapHeadStep, swaps, swap_fails, ReadStep}
use Rattle.trace_model.proofs.histories.NextEvent.{opened_stack}
use Rattle.trace_model.proofs.histories.NextRecords.{records_snoc, records_reserved, records_left_by}
use Rattle.trace_model.proofs.packing.FillCuts.{opens_of-push, opens_of-push_close, opens_of-reserve, opens_of-leave}
use Rattle.trace_model.proofs.packing.FillCuts.{opens_of-wished, opens_of-open_fill}
use Rattle.ring_model.specs.KeptLinks.{PhaseKept, LinksKept}
use Rattle.ring_model.specs.KeptHistory.{HistoryKept}
use Rattle.ring_model.specs.KeptStack.{StackKept}
use Rattle.ring_model.specs.KeptContents.{PagesKept, ContentsKept, OpenPagesKept}
use Rattle.ring_model.proofs.links.LinkFills.{header_reports, fill_at}
use Rattle.ring_model.proofs.links.FrameChanges.{top_kept}
use Rattle.ring_model.proofs.histories.HistorySteps.{top_stack}
use Rattle.ring_model.proofs.contents.OpenPageSteps.{tail_page_is}
use Rattle.ring_model.proofs.contents.PageChanges.{nothing, pages_later, pages_reserved, pages_begun, pages_finished}
use Rattle.ring_model.proofs.contents.PageChanges.{pages_swapped}

-- pages are kept if the cuts and records are equal
same_pages : (n start : ℕ) (order : List ℕ) (held : List PageRecords) (cuts cuts' : List ℕ) (xs xs' : List Reservation)
    (head opened : ℕ) → cuts' ≡ cuts → xs' ≡ xs → PagesKept n start order held cuts xs head opened
    → PagesKept n start order held cuts' xs' head opened
same_pages n start order held cuts cuts' xs xs' head opened a b k =
    subst (λ (l : List ℕ). PagesKept n start order held l xs' head opened) (sym a)
    (subst (λ (l : List Reservation). PagesKept n start order held cuts l head opened) (sym b) k)

module _ (n start : ℕ) (c : Core) (frame : Frame) (below : List Frame) (some : 1 ≤ n) (a : AreApart n c.order c.spare)
    (t : ContentsKept n start c)
    (stack : (writer_after c.history).stack ≡ pushed_onto frame.kind frame.state (pushed_frames below)) where
  contents_leave : (state : Progress) (payload : Option (List ℕ)) → frame.state ≡ state → state ≢ left
      → ContentsKept n start (after_leave c frame below payload)
  contents_leave state payload same stands =
      same_pages n start c.order (map (held_with_payload (own_number frame.kind frame.state) payload) c.held)
      (opens_of c.history) (opens_of (c.history ++ leave payload ∷ []))
      (records_with_payload (own_number frame.kind frame.state) payload (reserved_records c.history))
      (reserved_records (c.history ++ leave payload ∷ [])) c.head c.opened
      (opens_of-leave c.history payload)
      (records_left_by c.history frame.kind frame.state (pushed_frames below) payload stack
      (λ e. stands (sym same ∙ e)))
      (pages_finished n start c.order c.spare c.held (opens_of c.history) (reserved_records c.history) c.head c.opened
      some a t (own_number frame.kind frame.state) payload)

  contents_after_begin : (kind : Purpose) (state : Progress) → frame.state ≡ state
      → ContentsKept n start (after_begin kind state c frame below)
  contents_after_begin (for_record moment len) waiting same = t
  contents_after_begin for_close waiting same = contents_leave waiting None same (λ e. cc)
  contents_after_begin kind (reserved number) same = t
  contents_after_begin kind left same = t

module _ (n size start : ℕ) (c : Core) (frame : Frame) (below : List Frame) (k : LinksKept n c)
    (h : HistoryKept n start c) (t : ContentsKept n start c) (o : OpenPagesKept n c) (top : c.frames ≡ frame ∷ below)
  where
    stack_top : (writer_after c.history).stack ≡ pushed_onto frame.kind frame.state (pushed_frames below)
    stack_top = top_stack n start c frame below h top

    some_page : 1 ≤ n
    some_page = let two = k.some_pages in omega arith

    contents_leaves : (after : Core) (state : Progress) (payload : Option (List ℕ)) → frame.state ≡ state → state ≢ left
        → after ≡ after_leave c frame below payload → ContentsKept n start after
    contents_leaves after state payload same stands is =
        subst (ContentsKept n start) (sym is)
        (contents_leave n start c frame below some_page k.apart t stack_top state payload same stands)

    contents_again : (noted : ℕ) (answer : Answer) (after : Core) → BeginsAgain c frame below noted answer after
        → ContentsKept n start after
    contents_again noted answer after step =
        subst (ContentsKept n start) (sym step.after_is)
        (contents_after_begin n start c frame below some_page k.apart t stack_top frame.kind frame.state refl)

    contents_reserve : (answer : Answer) (after : Core) → frame.state ≡ waiting
        → ReserveStep n size c frame below answer after → ContentsKept n start after
    contents_reserve answer after same (reserves moment len r kind r_is fits a is) = let unread = k.head_le in
        let behind = k.done_lt in
        let held_on : (page : ℕ) → List PageRecords =
        λ page.
        set c.held page
        record {
          first = (get_or c.held page nothing).first;
          records = (get_or c.held page nothing).records ++ r ∷ [];
        } in
        subst (ContentsKept n start) (sym is)
        (same_pages n start c.order (held_on (tail_page c)) (opens_of c.history)
        (opens_of (c.history ++ reserve ∷ [])) (reserved_records c.history ++ r ∷ [])
        (reserved_records (c.history ++ reserve ∷ [])) c.head c.opened
        (opens_of-reserve c.history)
        (records_reserved c.history moment len (pushed_frames below)
        (stack_top ∙ ap (λ (s : Progress). pushed_onto frame.kind s (pushed_frames below)) same
        ∙ ap (λ (x : Purpose). pushed_onto x waiting (pushed_frames below)) kind)
        ∙ ap (λ (x : Reservation). reserved_records c.history ++ x ∷ []) (sym r_is))
        (subst
        (λ (page : ℕ).
        PagesKept n start c.order (held_on page) (opens_of c.history) (reserved_records c.history ++ r ∷ []) c.head
        c.opened) (sym (tail_page_is n c o behind))
        (pages_reserved n start c.order c.spare c.held (opens_of c.history) (reserved_records c.history) c.head c.opened
        some_page k.apart t r (c.opened - 1) (omega arith) (omega arith) k.opened_le)))
    contents_reserve answer after same (finds_nothing kind none a is) =
        contents_leaves after waiting None same (λ e. cc) is
    contents_reserve answer after same (is_crowded needs full a is) =
        contents_leaves after waiting None same (λ e. cc) is
    contents_reserve answer after same (is_worn needs full last a is) =
        contents_leaves after waiting None same (λ e. cc) is
    contents_reserve answer after same (notes needs room small a is) = subst (ContentsKept n start) (sym is) t

    contents_idle : (state : Progress) (answer : Answer) (after : Core) → frame.state ≡ state
        → IdleStep n size c frame below state answer after → ContentsKept n start after
    contents_idle waiting answer after same step = contents_reserve answer after same step
    contents_idle (reserved number) answer after same step = subst (ContentsKept n start) (sym step.1) t
    contents_idle left answer after same step = absurd step

    contents_open : (noted page : ℕ) (answer : Answer) (after : Core) → frame.phase ≡ opening noted page
        → OpenFillStep n c frame below noted page answer after → ContentsKept n start after
    contents_open noted page answer after same (open_late step) = contents_again noted answer after step
    contents_open noted page answer after same (opens now a is) =
        let (open_yet, inside, page_is) =
        (subst (PhaseKept n c.links c.order c.head c.done c.opened) same (top_kept n c frame below k top)).passed
        noted page refl in
        let unread = k.head_le in let behind = k.done_lt in
        let there : page ≡ page_at n c.order c.opened = page_is ∙ ap (page_at n c.order) now in
        let held : List PageRecords =
        set c.held page record { first = length (reserved_records c.history); records = [] } in
        let begun_pages : PagesKept n start c.order held
        (opens_of c.history ++ length (reserved_records c.history) ∷ [])
        (reserved_records c.history) c.head (c.opened + 1) =
        subst
        (λ (p : ℕ).
        PagesKept n start c.order
        (set c.held p record { first = length (reserved_records c.history); records = [] })
        (opens_of c.history ++ length (reserved_records c.history) ∷ []) (reserved_records c.history) c.head
        (c.opened + 1)) (sym there)
        (pages_begun n start c.order c.spare c.held (opens_of c.history) (reserved_records c.history) c.head c.opened
        some_page k.apart t (omega arith) (omega arith)) in
        let is_begun : ContentsKept n start (with_new_tail c page) =
        same_pages n start c.order held (opens_of c.history ++ length (reserved_records c.history) ∷ [])
        (opens_of (c.history ++ open_fill ∷ [])) (reserved_records c.history)
        (reserved_records (c.history ++ open_fill ∷ [])) c.head (c.opened + 1)
        (opens_of-open_fill c.history) (records_snoc c.history open_fill) begun_pages in
        subst (ContentsKept n start) (sym is)
        (contents_after_begin n start (with_new_tail c page) frame below some_page k.apart is_begun
        (opened_stack c.history (pushed_onto frame.kind frame.state (pushed_frames below)) stack_top) frame.kind
        frame.state refl)

    contents_wished : ContentsKept n start (record c { history = c.history ++ wished ∷ [] })
    contents_wished =
        same_pages n start c.order c.held (opens_of c.history) (opens_of (c.history ++ wished ∷ []))
        (reserved_records c.history) (reserved_records (c.history ++ wished ∷ [])) c.head c.opened
        (opens_of-wished c.history) (records_snoc c.history wished) t

    contents_frame : (phase : Phase) (answer : Answer) (after : Core) → frame.phase ≡ phase
        → FrameStep n size c frame below phase answer after → ContentsKept n start after
    contents_frame idle answer after same step = contents_idle frame.state answer after refl step
    contents_frame (looking noted) answer after same (load_link_late step) = contents_again noted answer after step
    contents_frame (looking noted) answer after same (sees_free page now at a is) =
        subst (ContentsKept n start) (sym is) t
    contents_frame (looking noted) answer after same (sees_header page lost now sum at a is) =
        subst (ContentsKept n start) (sym is) t
    contents_frame (looking noted) answer after same (sees_update page lost now sum at a is) =
        subst (ContentsKept n start) (sym is) t
    contents_frame (claiming noted page) answer after same (claim_late step) = contents_again noted answer after step
    contents_frame (claiming noted page) answer after same (claims lost now sum at a is) =
        subst (ContentsKept n start) (sym is)
        (pages_later n start c.order c.spare c.held (opens_of c.history) (reserved_records c.history) c.head c.opened
        some_page k.apart t (c.head + 1) (omega arith))
    contents_frame (claiming noted page) answer after same (claim_fails now other a is) =
        subst (ContentsKept n start) (sym is) t
    contents_frame (looking_next role noted page) answer after same (load_next_late helps step) =
        contents_again noted answer after step
    contents_frame (looking_next role noted page) answer after same (sees_normal lost next goes_on sum at a is) =
        subst (ContentsKept n start) (sym is) t
    contents_frame (looking_next role noted page) answer after same (sees_other lost goes_on sum other a is) =
        subst (ContentsKept n start) (sym is) t
    contents_frame (marking role noted page next) answer after same (mark_late helps step) =
        contents_again noted answer after step
    contents_frame (marking role noted page next) answer after same (marks lost goes_on sum at a is) =
        subst (ContentsKept n start) (sym is) t
    contents_frame (marking role noted page next) answer after same (mark_fails lost goes_on sum other a is) =
        subst (ContentsKept n start) (sym is) t
    contents_frame (clearing noted page) answer after same (clears lost sum at a is) =
        subst (ContentsKept n start) (sym is) t
    contents_frame (opening noted page) answer after same step = contents_open noted page answer after same step
    contents_frame releasing answer after same (releases alone more a is) = subst (ContentsKept n start) (sym is) t
    contents_frame releasing answer after same (releases_last alone last a is) = subst (ContentsKept n start) (sym is) t
    contents_frame wishing answer after same (grants alone granted a is) =
        subst (ContentsKept n start) (sym is) contents_wished
    contents_frame wishing answer after same (closes_more alone none more a is) =
        subst (ContentsKept n start) (sym is) t
    contents_frame wishing answer after same (goes_away alone none last a is) = subst (ContentsKept n start) (sym is) t

module _ (n start : ℕ) (c : Core) (k : LinksKept n c) (t : ContentsKept n start c) where
  contents_load : (answer : Answer) (after : Core) → LoadHeadStep n c answer after → ContentsKept n start after
  contents_load answer after (loads_header page fill at a is) = subst (ContentsKept n start) (sym is) t
  contents_load answer after (loads_update page lost at a is) = subst (ContentsKept n start) (sym is) t
  contents_load answer after (loads_owed page at a is) = subst (ContentsKept n start) (sym is) t
  contents_load answer after (loads_passed page fill least at more sum a is) = subst (ContentsKept n start) (sym is) t

  contents_load_done : (page fill : ℕ) (answer : Answer) (after : Core) → LoadDoneStep c page fill answer after
      → ContentsKept n start after
  contents_load_done page fill answer after (finds_none le a is) = subst (ContentsKept n start) (sym is) t
  contents_load_done page fill answer after (finds_closed below a is) = subst (ContentsKept n start) (sym is) t

  contents_swap : (page fill : ℕ) (answer : Answer) (after : Core) → SwapHeadStep n c page fill answer after
      → ContentsKept n start after
  contents_swap page fill answer after (swaps at a is) =
      let (g, low_g, high_g, same, link) = fill_at n c k fill in
      let reported = header_reports n c.links c.order c.head c.frames g page fill link (same ∙ at) in
      let here : fill ≡ c.head = reported.0 ∙ reported.1 in let two = k.some_pages in
      subst (ContentsKept n start) (sym (is ∙ ap (after_swap n c page) here))
      (pages_swapped n start c.order c.spare c.held (opens_of c.history) (reserved_records c.history) c.head c.opened
      (omega arith) k.apart t page two (reported.2 ∙ ap (page_at n c.order) reported.1) k.opened_le)
  contents_swap page fill answer after (swap_fails at a is) = subst (ContentsKept n start) (sym is) t

  contents_read : (phase : ReaderPhase) (answer : Answer) (after : Core) → ReadStep n c phase answer after
      → ContentsKept n start after
  contents_read loading_head answer after step = contents_load answer after step
  contents_read (loading_done page fill) answer after step = contents_load_done page fill answer after step
  contents_read (storing_spare_link page fill) answer after step = subst (ContentsKept n start) (sym step.after_is) t
  contents_read (swapping page fill) answer after step = contents_swap page fill answer after step

contents_pushed : (n start : ℕ) (c after : Core) (frames : List Frame) (history_event : HistoryEvent)
    → ContentsKept n start c → opens_of (c.history ++ history_event ∷ []) ≡ opens_of c.history
    → reserved_records (c.history ++ history_event ∷ []) ≡ reserved_records c.history
    → after ≡ record c { frames = frames; history = c.history ++ history_event ∷ [] }
    → ContentsKept n start after
contents_pushed n start c after frames history_event t cuts records is = subst (ContentsKept n start) (sym is)
    (same_pages n start c.order c.held (opens_of c.history) (opens_of (c.history ++ history_event ∷ []))
    (reserved_records c.history) (reserved_records (c.history ++ history_event ∷ [])) c.head c.opened cuts records t)

pub contents_step : (n size start : ℕ) (c : Core) (event : Event) (answer : Answer) (after : Core) → LinksKept n c
    → StackKept c → HistoryKept n start c → ContentsKept n start c → OpenPagesKept n c
    → StepCases n size c event answer after → ContentsKept n start after
contents_step n size start c event answer after k s h t o (push_step moment len e few fits early a is) =
    contents_pushed n start c after _ (push moment len) t (opens_of-push c.history moment len)
    (records_snoc c.history (push moment len)) is
contents_step n size start c event answer after k s h t o (push_refused moment len why e refused a is) =
    subst (ContentsKept n start) (sym is) t
contents_step n size start c event answer after k s h t o (close_step e few a is) =
    contents_pushed n start c after _ push_close t (opens_of-push_close c.history) (records_snoc c.history push_close)
    is
contents_step n size start c event answer after k s h t o (close_refused e many a is) =
    subst (ContentsKept n start) (sym is) t
contents_step n size start c event answer after k s h t o (frame_step frame below e top step) =
    contents_frame n size start c frame below k h t o top frame.phase answer after refl step
contents_step n size start c event answer after k s h t o (frame_lacks e none a is) =
    subst (ContentsKept n start) (sym is) t
contents_step n size start c event answer after k s h t o
    (end_step payload frame below number moment len e top state kind slot a is) =
    contents_leaves n size start c frame below k h t o top after (reserved number) (Some payload) state (λ e'. cc) is
contents_step n size start c event answer after k s h t o (end_lacks payload e none a is) =
    subst (ContentsKept n start) (sym is) t
contents_step n size start c event answer after k s h t o (end_early payload frame below e top none a is) =
    subst (ContentsKept n start) (sym is) t
contents_step n size start c event answer after k s h t o (read_step e step) =
    contents_read n start c k t c.reader.phase answer after step
contents_step n size start c event answer after k s h t o (store_wish_step e a is) =
    subst (ContentsKept n start) (sym is) t
