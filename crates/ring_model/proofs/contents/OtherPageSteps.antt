-- Each step keeps that the pages which the writer doesn't hold have none but committed records.
use Rattle.std.proofs.Common.{◌≡◌, ◌≢◌, ℕ, zero, suc, ◌+◌, ◌-◌, ◌%◌, ◌<◌, ◌≤◌, List, [], ◌∷◌, ◌++◌, length, get_or}
use Rattle.std.proofs.Common.{drop, set, map, take, Option, Some, None, refl, sym, ap, ◌∙◌, subst, arith, length-append}
use Rattle.std.proofs.Common.{length-drop, length-take-le}
use Rattle.std.specs.Prelude.{nat_lt}
use Rattle.std.proofs.lemmas.Bool.{cond_both}
use Rattle.std.proofs.lemmas.Grind.{get_or_after_one}
use Rattle.std.proofs.lemmas.List.{get_or-set_other}
use Rattle.std.proofs.Math.ListN.{get_or-append, get_or-map, get_or-eq_default}
use Rattle.std.proofs.Math.Seq.{get_or-append_seam}
use mathlib.Core.Logic.{dite}
use native.Mathlib.Decide.{ℕ_discrete, dec_le}
use Rattle.trace_model.specs.History.{HistoryEvent, push, push_close, open_fill, reserve, leave, wished, Reservation}
use Rattle.trace_model.specs.History.{records_with_payload, reserved_records}
use Rattle.trace_model.specs.Packing.{opens_of, cut_from}
use Rattle.trace_model.specs.Frames.{Purpose, for_record, for_close, Progress, waiting, reserved, left, Phase, idle}
use Rattle.trace_model.specs.Frames.{looking, claiming, looking_next, marking, clearing, opening, releasing, wishing}
use Rattle.trace_model.specs.Frames.{Frame}
use Rattle.trace_model.specs.Ring.{PageRecords, empty_page, ReaderPhase, loading_head, loading_done, storing_spare_link}
use Rattle.trace_model.specs.Ring.{swapping, Core, IsStart}
use Rattle.trace_model.specs.Steps.{Event, Answer, held_with_payload, own_number, with_new_tail, with_released}
use Rattle.trace_model.specs.Steps.{after_leave, after_begin}
use Rattle.trace_model.proofs.steps.StepCases.{StepCases, BeginsAgain, IdleStep, reserves, finds_nothing, is_crowded}
use Rattle.trace_model.proofs.steps.StepCases.{is_worn, notes, load_link_late, sees_free, sees_header, sees_update}
use Rattle.trace_model.proofs.steps.StepCases.{claim_late, claims, claim_fails, load_next_late, sees_normal, sees_other}
use Rattle.trace_model.proofs.steps.StepCases.{mark_late, marks, mark_fails, clears, open_late, opens, releases}
use Rattle.trace_model.proofs.steps.StepCases.{releases_last, grants, closes_more, goes_away, FrameStep, push_step}
use Rattle.trace_model.proofs.steps.StepCases.{push_refused, close_step, close_refused, frame_step, frame_lacks}
use Rattle.trace_model.proofs.steps.StepCases.{end_step, end_lacks, end_early, read_step, store_wish_step, loads_header}
use Rattle.trace_model.proofs.steps.StepCases.{loads_update, loads_owed, loads_passed, finds_none, finds_closed, swaps}
use Rattle.trace_model.proofs.steps.StepCases.{swap_fails, ReadStep}
use Rattle.trace_model.proofs.histories.NextEvent.{settled_at_rest}
use Rattle.trace_model.proofs.histories.NextRecords.{length-records_with_payload}
use Rattle.trace_model.proofs.packing.FillFirsts.{first_below, fill_behind}
use Rattle.trace_model.proofs.histories.Committed.{committed_len, committed_len-settled, committed_len-more}
use Rattle.ring_model.specs.KeptLinks.{LinksKept}
use Rattle.ring_model.specs.KeptStack.{StackKept}
use Rattle.ring_model.specs.KeptHistory.{HistoryKept}
use Rattle.ring_model.specs.KeptContents.{ContentsKept, OpenPagesKept, OtherPagesAt, OtherPagesKept}
use Rattle.ring_model.proofs.histories.HistorySteps.{rest_releasing}

-- the number after the last record that a page holds
abbrev pub end_of : PageRecords → ℕ
end_of h = h.first + length h.records

-- ---- what an end and an emptied page change

-- an end leaves as many records
pub ended_alike : (number : Option ℕ) (payload : Option (List ℕ)) (h : PageRecords)
    → end_of (held_with_payload number payload h) ≡ end_of h
ended_alike None payload h = refl
ended_alike (Some k) payload h = ap (λ (m : ℕ). h.first + m)
    (cond_both (nat_lt k h.first) h.records (records_with_payload (Some (k - h.first)) payload h.records)
    (λ (rs : List Reservation). length rs ≡ length h.records)
    (λ _. refl) (λ _. length-records_with_payload (Some (k - h.first)) payload h.records))

pub ended_empty : (number : Option ℕ) (payload : Option (List ℕ))
    → held_with_payload number payload empty_page ≡ empty_page
ended_empty None payload = refl
ended_empty (Some k) None =
    ap (λ (rs : List Reservation). let h : PageRecords = record { first = 0; records = rs } in h)
    (cond_both (nat_lt k 0) [] [] (λ (rs : List Reservation). ◌≡◌ {A = List Reservation} rs []) (λ _. refl)
    (λ _. refl))
ended_empty (Some k) (Some p) =
    ap (λ (rs : List Reservation). let h : PageRecords = record { first = 0; records = rs } in h)
    (cond_both (nat_lt k 0) [] [] (λ (rs : List Reservation). ◌≡◌ {A = List Reservation} rs []) (λ _. refl)
    (λ _. refl))

-- every page, with a payload
pub ended_at : (number : Option ℕ) (payload : Option (List ℕ)) (held : List PageRecords) (page : ℕ)
    → get_or (map (held_with_payload number payload) held) page empty_page
    ≡ held_with_payload number payload (get_or held page empty_page)
ended_at number payload held page =
    ap (get_or (map (held_with_payload number payload) held) page) (sym (ended_empty number payload))
    ∙ get_or-map (held_with_payload number payload) held page empty_page

pub emptied_at : (held : List PageRecords) (page : ℕ) → get_or (set held page empty_page) page empty_page ≡ empty_page
emptied_at [] zero = refl
emptied_at [] (suc page) = refl
emptied_at (h ∷ held) zero = refl
emptied_at (h ∷ held) (suc page) = emptied_at held page

emptied_end : (held : List PageRecords) (emptied page : ℕ)
    → end_of (get_or (set held emptied empty_page) page empty_page) ≤ end_of (get_or held page empty_page)
emptied_end held emptied page = dite (ℕ_discrete page emptied)
    (λ e. let none =
    ap end_of (ap (λ (p : ℕ). get_or (set held emptied empty_page) p empty_page) e ∙ emptied_at held emptied) in
    omega arith)
    (λ ne. let same = ap end_of (get_or-set_other held emptied page empty_page empty_page ne) in omega arith)

-- ---- one more history event

module _ (history : List HistoryEvent) (open_pages : List ℕ) (held : List PageRecords)
    (z : OtherPagesAt history open_pages held) where
  others_more : (a : HistoryEvent) → OtherPagesAt (history ++ a ∷ []) open_pages held
  others_more a page other = let was = z page other in let more = committed_len-more history a in omega arith

  others_ended : (number : Option ℕ) (payload : Option (List ℕ))
      → OtherPagesAt history open_pages (map (held_with_payload number payload) held)
  others_ended number payload page other = let was = z page other in
      let same =
      ap end_of (ended_at number payload held page) ∙ ended_alike number payload (get_or held page empty_page) in
      omega arith

  -- the contents of a page that the writer holds
  others_set : (i : ℕ) (h : PageRecords) → i < length open_pages
      → OtherPagesAt history open_pages (set held (get_or open_pages i 0) h)
  others_set i h low page other = let was = z page other in
      let same =
      ap end_of (get_or-set_other held (get_or open_pages i 0) page h empty_page (λ e. other i low (sym e))) in
      omega arith

  others_emptied : (emptied : ℕ) → OtherPagesAt history open_pages (set held emptied empty_page)
  others_emptied emptied page other = let was = z page other in let less = emptied_end held emptied page in omega arith

  -- a page more is held, with what it holds then
  others_opened : (opened : ℕ) (h : PageRecords) → OtherPagesAt history (open_pages ++ opened ∷ []) (set held opened h)
  others_opened opened h page other =
      let was =
      z page
      (λ i low e.
      other i (omega (arith, length-append open_pages (opened ∷ [])))
      (get_or-append open_pages (opened ∷ []) 0 i low ∙ e)) in
      let same = ap end_of (get_or-set_other held opened page h empty_page
      (λ e.
      other (length open_pages) (omega (arith, length-append open_pages (opened ∷ [])))
      (get_or-append_seam open_pages opened [] 0 ∙ sym e))) in
      omega arith

  -- the oldest one is held no longer
  others_released : end_of (get_or held (get_or open_pages 0 0) empty_page) ≤ committed_len history
      → OtherPagesAt history (drop 1 open_pages) held
  others_released closed page other = dite (ℕ_discrete (get_or open_pages 0 0) page)
      (λ e. let same = ap (λ (p : ℕ). end_of (get_or held p empty_page)) e in omega arith)
      (λ ne. z page (apart ne))
    where
      apart : get_or open_pages 0 0 ≢ page → (i : ℕ) → i < length open_pages → get_or open_pages i 0 ≢ page
      apart ne zero low e = ne e
      apart ne (suc i) low e =
          other i (omega (arith, length-drop 1 open_pages))
          (get_or_after_one open_pages i 0
          ∙ ap (λ (j : ℕ). get_or open_pages j 0) (let one : 1 + i ≡ suc i = omega arith in one) ∙ e)

-- ---- a fill among the records

-- a fill ends where the records do, or before
pub fill_end : (n start : ℕ) (c : Core) (f : ℕ) → ContentsKept n start c → start ≤ f → f + 1 < c.opened
    → get_or (0 ∷ opens_of c.history) (f - start) 0
    + length (get_or (cut_from 0 (opens_of c.history) (reserved_records c.history)) (f - start) [])
    ≡ get_or (0 ∷ opens_of c.history) (suc (f - start)) 0
fill_end n start c f t low high =
    let cuts : List ℕ = opens_of c.history in
    let xs : List Reservation = reserved_records c.history in
    let i : ℕ = f - start in
    let count = t.begun in let within : i < length cuts = omega arith in
    let a = length-take-le (get_or (0 ∷ cuts) i 0) xs (first_below 0 cuts (length xs) i (omega arith) t.rising) in
    let b =
    length-take-le (get_or (0 ∷ cuts) (suc i) 0) xs
    (first_below 0 cuts (length xs) (suc i) (omega arith) t.rising) in
    let e = ap (length {A = Reservation}) (fill_behind 0 cuts xs i within t.rising) in
    let sum = length-append (take (get_or (0 ∷ cuts) i 0) xs) (get_or (cut_from 0 cuts xs) i []) in omega arith

-- ---- the frame on top

module _ (c : Core) (z : OtherPagesKept c) where
  others_left : (frame : Frame) (below : List Frame) (payload : Option (List ℕ))
      → OtherPagesKept (after_leave c frame below payload)
  others_left frame below payload = let number : Option ℕ = own_number frame.kind frame.state in
      others_ended (c.history ++ leave payload ∷ []) c.open_pages c.held
      (others_more c.history c.open_pages c.held z (leave payload)) number payload

  others_begun : (kind : Purpose) (state : Progress) (frame : Frame) (below : List Frame)
      → OtherPagesKept (after_begin kind state c frame below)
  others_begun (for_record moment len) waiting frame below = z
  others_begun for_close waiting frame below = others_left frame below None
  others_begun kind (reserved number) frame below = z
  others_begun kind left frame below = z

module _ (n size start : ℕ) (c : Core) (frame : Frame) (below : List Frame) (answer : Answer) (after : Core)
    (k : LinksKept n c) (s : StackKept c) (h : HistoryKept n start c) (t : ContentsKept n start c)
    (o : OpenPagesKept n c) (z : OtherPagesKept c) (top : c.frames ≡ frame ∷ below) where
  others_again : (noted : ℕ) → BeginsAgain c frame below noted answer after → OtherPagesKept after
  others_again noted step =
      subst OtherPagesKept (sym step.after_is) (others_begun c z frame.kind frame.state frame below)

  others_idle : (state : Progress) → IdleStep n size c frame below state answer after → OtherPagesKept after
  others_idle waiting (reserves moment len r kind r_is fits a is) = let count = o.count in let behind = k.done_lt in
      subst OtherPagesKept (sym is)
      (others_more c.history c.open_pages _
      (others_set c.history c.open_pages c.held z (length c.open_pages - 1) _ (omega arith)) reserve)
  others_idle waiting (finds_nothing kind none a is) = subst OtherPagesKept (sym is) (others_left c z frame below None)
  others_idle waiting (is_crowded needs full a is) = subst OtherPagesKept (sym is) (others_left c z frame below None)
  others_idle waiting (is_worn needs full last a is) = subst OtherPagesKept (sym is) (others_left c z frame below None)
  others_idle waiting (notes needs room small a is) = subst OtherPagesKept (sym is) z
  others_idle (reserved number) step = subst OtherPagesKept (sym step.1) z
  others_idle left step = absurd step

  -- the oldest fill that isn't closed is closed where every record is committed
  others_closed : frame.phase ≡ releasing → c.done + 1 < c.opened → OtherPagesKept (with_released c)
  others_closed same more = others_released c.history c.open_pages c.held z
      (let all =
      committed_len-settled c.history
      (settled_at_rest c.history (rest_releasing n size start c frame below k s h top same)) in
      let unread = k.head_le in let first = t.from_start in let count = o.count in let begun = t.begun in
      let page = o.each 0 (omega arith) in
      let held =
      ap (λ (p : ℕ). end_of (get_or c.held p empty_page))
      (page ∙ ap (λ (f : ℕ). get_or c.order (f % n) 0) (let e : c.done + 0 ≡ c.done = omega arith in e))
      ∙ ap end_of (t.each c.done unread (omega arith)) in
      let last = fill_end n start c c.done t (omega arith) more in
      let low =
      first_below 0 (opens_of c.history) (length (reserved_records c.history)) (suc (c.done - start)) (omega arith)
      t.rising in
      omega arith)

  others_frame : (phase : Phase) → frame.phase ≡ phase → FrameStep n size c frame below phase answer after
      → OtherPagesKept after
  others_frame idle same step = others_idle frame.state step
  others_frame (looking noted) same (load_link_late step) = others_again noted step
  others_frame (looking noted) same (sees_free page now at a is) = subst OtherPagesKept (sym is) z
  others_frame (looking noted) same (sees_header page lost now sum at a is) = subst OtherPagesKept (sym is) z
  others_frame (looking noted) same (sees_update page lost now sum at a is) = subst OtherPagesKept (sym is) z
  others_frame (claiming noted page) same (claim_late step) = others_again noted step
  others_frame (claiming noted page) same (claims lost now sum at a is) = subst OtherPagesKept (sym is) z
  others_frame (claiming noted page) same (claim_fails now other a is) = subst OtherPagesKept (sym is) z
  others_frame (looking_next role noted page) same (load_next_late helps step) = others_again noted step
  others_frame (looking_next role noted page) same (sees_normal lost next goes_on sum at a is) =
      subst OtherPagesKept (sym is) z
  others_frame (looking_next role noted page) same (sees_other lost goes_on sum other a is) =
      subst OtherPagesKept (sym is) z
  others_frame (marking role noted page next) same (mark_late helps step) = others_again noted step
  others_frame (marking role noted page next) same (marks lost goes_on sum at a is) = subst OtherPagesKept (sym is) z
  others_frame (marking role noted page next) same (mark_fails lost goes_on sum other a is) =
      subst OtherPagesKept (sym is) z
  others_frame (clearing noted page) same (clears lost sum at a is) = subst OtherPagesKept (sym is) z
  others_frame (opening noted page) same (open_late step) = others_again noted step
  others_frame (opening noted page) same (opens now a is) = subst OtherPagesKept (sym is)
      (others_begun (with_new_tail c page)
      (others_more c.history (c.open_pages ++ page ∷ []) _ (others_opened c.history c.open_pages c.held z page _)
      open_fill) frame.kind frame.state frame below)
  others_frame releasing same (releases alone more a is) =
      subst OtherPagesKept (sym is) (others_closed same (omega arith))
  others_frame releasing same (releases_last alone last a is) =
      subst OtherPagesKept (sym is) (others_closed same (omega arith))
  others_frame wishing same (grants alone granted a is) =
      subst OtherPagesKept (sym is) (others_more c.history c.open_pages c.held z wished)
  others_frame wishing same (closes_more alone denied more a is) = subst OtherPagesKept (sym is) z
  others_frame wishing same (goes_away alone denied last a is) = subst OtherPagesKept (sym is) z

-- ---- every step

others_read : (n : ℕ) (c : Core) (phase : ReaderPhase) (answer : Answer) (after : Core) → OtherPagesKept c
    → ReadStep n c phase answer after → OtherPagesKept after
others_read n c loading_head answer after z (loads_header page fill at a is) = subst OtherPagesKept (sym is) z
others_read n c loading_head answer after z (loads_update page lost at a is) = subst OtherPagesKept (sym is) z
others_read n c loading_head answer after z (loads_owed page at a is) = subst OtherPagesKept (sym is) z
others_read n c loading_head answer after z (loads_passed page fill least at more sum a is) =
    subst OtherPagesKept (sym is) z
others_read n c (loading_done page fill) answer after z (finds_none le a is) = subst OtherPagesKept (sym is) z
others_read n c (loading_done page fill) answer after z (finds_closed below a is) = subst OtherPagesKept (sym is) z
others_read n c (storing_spare_link page fill) answer after z step = subst OtherPagesKept (sym step.after_is) z
others_read n c (swapping page fill) answer after z (swaps at a is) = subst OtherPagesKept (sym is)
    (others_emptied c.history c.open_pages (set c.held c.spare empty_page)
    (others_emptied c.history c.open_pages c.held z c.spare) page)
others_read n c (swapping page fill) answer after z (swap_fails at a is) = subst OtherPagesKept (sym is) z

pub other_pages_step : (n size start : ℕ) (c : Core) (event : Event) (answer : Answer) (after : Core) → LinksKept n c
    → StackKept c → HistoryKept n start c → ContentsKept n start c → OpenPagesKept n c → OtherPagesKept c
    → StepCases n size c event answer after → OtherPagesKept after
other_pages_step n size start c event answer after k s h t o z (push_step moment len e few fits early a is) =
    subst OtherPagesKept (sym is) (others_more c.history c.open_pages c.held z (push moment len))
other_pages_step n size start c event answer after k s h t o z (push_refused moment len why e refused a is) =
    subst OtherPagesKept (sym is) z
other_pages_step n size start c event answer after k s h t o z (close_step e few a is) =
    subst OtherPagesKept (sym is) (others_more c.history c.open_pages c.held z push_close)
other_pages_step n size start c event answer after k s h t o z (close_refused e many a is) =
    subst OtherPagesKept (sym is) z
other_pages_step n size start c event answer after k s h t o z (frame_step frame below e top step) =
    others_frame n size start c frame below answer after k s h t o z top frame.phase refl step
other_pages_step n size start c event answer after k s h t o z (frame_lacks e none a is) =
    subst OtherPagesKept (sym is) z
other_pages_step n size start c event answer after k s h t o z
    (end_step payload frame below number moment len e top at kind slot a is) =
    subst OtherPagesKept (sym is) (others_left c z frame below (Some payload))
other_pages_step n size start c event answer after k s h t o z (end_lacks payload e none a is) =
    subst OtherPagesKept (sym is) z
other_pages_step n size start c event answer after k s h t o z (end_early payload frame below e top none a is) =
    subst OtherPagesKept (sym is) z
other_pages_step n size start c event answer after k s h t o z (read_step e step) =
    others_read n c c.reader.phase answer after z step
other_pages_step n size start c event answer after k s h t o z (store_wish_step e a is) =
    subst OtherPagesKept (sym is) z

-- the pages of a new ring are empty
pub other_pages_start : (n start : ℕ) (c : Core) → IsStart n start c → OtherPagesKept c
other_pages_start n start c s page other = dite (dec_le (suc page) (length c.held))
    (λ yes. let bodies = s.bodies in let none = ap end_of (s.held page (omega arith)) in omega arith)
    (λ no. let none = ap end_of (get_or-eq_default c.held empty_page {n = page} (omega arith)) in omega arith)
