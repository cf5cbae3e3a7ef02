-- Each step keeps the records of the closed fills committed.
use Rattle.std.proofs.Common.{◌≡◌, ℕ, ◌+◌, ◌-◌, ◌<◌, ◌≤◌, true, List, [], ◌∷◌, ◌++◌, length, Some, None, refl, sym, ap}
use Rattle.std.proofs.Common.{subst, arith, length-append}
use Rattle.trace_model.specs.History.{HistoryEvent, push, push_close, open_fill, reserve, leave, wished}
use Rattle.trace_model.specs.History.{reserved_records, is_settled}
use Rattle.trace_model.specs.Packing.{opens_of}
use Rattle.trace_model.specs.Frames.{Purpose, for_record, for_close, Progress, waiting, reserved, left, Phase, idle}
use Rattle.trace_model.specs.Frames.{looking, claiming, looking_next, marking, clearing, opening, releasing, wishing}
use Rattle.trace_model.specs.Frames.{Frame}
use Rattle.trace_model.specs.Ring.{ReaderPhase, loading_head, loading_done, storing_spare_link, swapping, Core}
use Rattle.trace_model.specs.Steps.{Event, Answer, with_new_tail, after_begin}
use Rattle.trace_model.proofs.steps.StepCases.{StepCases, BeginsAgain, IdleStep, ReserveStep, reserves, finds_nothing}
use Rattle.trace_model.proofs.steps.StepCases.{is_crowded, is_worn, notes, load_link_late, sees_free, sees_header}
use Rattle.trace_model.proofs.steps.StepCases.{sees_update, claim_late, claims, claim_fails, load_next_late}
use Rattle.trace_model.proofs.steps.StepCases.{sees_normal, sees_other, mark_late, marks, mark_fails, clears, open_late}
use Rattle.trace_model.proofs.steps.StepCases.{opens, releases, releases_last, grants, closes_more, goes_away}
use Rattle.trace_model.proofs.steps.StepCases.{FrameStep, push_step, push_refused, close_step, close_refused}
use Rattle.trace_model.proofs.steps.StepCases.{frame_step, frame_lacks, end_step, end_lacks, end_early, read_step}
use Rattle.trace_model.proofs.steps.StepCases.{store_wish_step, loads_header, loads_update, loads_owed, loads_passed}
use Rattle.trace_model.proofs.steps.StepCases.{finds_none, finds_closed, swaps, swap_fails, ReadStep}
use Rattle.trace_model.proofs.histories.NextEvent.{settled_at_rest}
use Rattle.trace_model.proofs.packing.FillCuts.{opens_of-open_fill}
use Rattle.trace_model.proofs.packing.FillFirsts.{first_below}
use Rattle.trace_model.proofs.histories.Committed.{committed_len-settled, first_more}
use Rattle.ring_model.specs.KeptLinks.{LinksKept}
use Rattle.ring_model.specs.KeptStack.{StackKept}
use Rattle.ring_model.specs.KeptHistory.{HistoryKept}
use Rattle.ring_model.specs.KeptContents.{ContentsKept, ClosedAt, ClosedKept}
use Rattle.ring_model.proofs.histories.HistorySteps.{rest_releasing}

module _ (n start : ℕ) (c : Core) (k : LinksKept n c) (t : ContentsKept n start c) (z : ClosedKept start c) where
  counted : c.done - start ≤ length (opens_of c.history)
  counted = let a = t.begun in let b = k.done_lt in omega arith

  closed_more : (a : HistoryEvent) → ClosedAt start (c.history ++ a ∷ []) c.done
  closed_more a = first_more c.history a (c.done - start) counted z

  closed_begun : (kind : Purpose) (state : Progress) (frame : Frame) (below : List Frame)
      → ClosedKept start (after_begin kind state c frame below)
  closed_begun (for_record moment len) waiting frame below = z
  closed_begun for_close waiting frame below = closed_more (leave None)
  closed_begun kind (reserved number) frame below = z
  closed_begun kind left frame below = z

  closed_opened : (kind : Purpose) (state : Progress) (page : ℕ) (frame : Frame) (below : List Frame)
      → ClosedKept start (after_begin kind state (with_new_tail c page) frame below)
  closed_opened (for_record moment len) waiting page frame below = closed_more open_fill
  closed_opened kind (reserved number) page frame below = closed_more open_fill
  closed_opened kind left page frame below = closed_more open_fill
  closed_opened for_close waiting page frame below =
      first_more (c.history ++ open_fill ∷ []) (leave None) (c.done - start)
      (let low = counted in
      omega (
        arith,
        ap (length {A = ℕ}) (opens_of-open_fill c.history),
        length-append (opens_of c.history) (length (reserved_records c.history) ∷ []),
      ))
      (closed_more open_fill)

  again : (frame : Frame) (below : List Frame) (noted : ℕ) (answer : Answer) (after : Core)
      → BeginsAgain c frame below noted answer after → ClosedKept start after
  again frame below noted answer after step =
      subst (ClosedKept start) (sym step.after_is) (closed_begun frame.kind frame.state frame below)

  -- a fill is closed, with no frame that writes
  closed_released : is_settled c.history ≡ true → c.done + 1 < c.opened → ClosedAt start c.history (c.done + 1)
  closed_released settled more = let all = committed_len-settled c.history settled in let a = t.begun in
      let low =
      first_below 0 (opens_of c.history) (length (reserved_records c.history)) (c.done + 1 - start) (omega arith)
      t.rising in
      omega arith

module _ (n size start : ℕ) (c : Core) (frame : Frame) (below : List Frame) (k : LinksKept n c) (s : StackKept c)
    (h : HistoryKept n start c) (t : ContentsKept n start c) (z : ClosedKept start c) (top : c.frames ≡ frame ∷ below)
  where
    closed_reserve : (answer : Answer) (after : Core) → ReserveStep n size c frame below answer after
        → ClosedKept start after
    closed_reserve answer after (reserves moment len r kind r_is fits a is) =
        subst (ClosedKept start) (sym is) (closed_more n start c k t z reserve)
    closed_reserve answer after (finds_nothing kind none a is) =
        subst (ClosedKept start) (sym is) (closed_more n start c k t z (leave None))
    closed_reserve answer after (is_crowded needs full a is) =
        subst (ClosedKept start) (sym is) (closed_more n start c k t z (leave None))
    closed_reserve answer after (is_worn needs full last a is) =
        subst (ClosedKept start) (sym is) (closed_more n start c k t z (leave None))
    closed_reserve answer after (notes needs room small a is) = subst (ClosedKept start) (sym is) z

    closed_idle : (state : Progress) (answer : Answer) (after : Core) → IdleStep n size c frame below state answer after
        → ClosedKept start after
    closed_idle waiting answer after step = closed_reserve answer after step
    closed_idle (reserved number) answer after step = subst (ClosedKept start) (sym step.1) z
    closed_idle left answer after step = absurd step

    closed_frame : (phase : Phase) (answer : Answer) (after : Core) → frame.phase ≡ phase
        → FrameStep n size c frame below phase answer after → ClosedKept start after
    closed_frame idle answer after same step = closed_idle frame.state answer after step
    closed_frame (looking noted) answer after same (load_link_late step) =
        again n start c k t z frame below noted answer after step
    closed_frame (looking noted) answer after same (sees_free page now at a is) = subst (ClosedKept start) (sym is) z
    closed_frame (looking noted) answer after same (sees_header page lost now sum at a is) =
        subst (ClosedKept start) (sym is) z
    closed_frame (looking noted) answer after same (sees_update page lost now sum at a is) =
        subst (ClosedKept start) (sym is) z
    closed_frame (claiming noted page) answer after same (claim_late step) =
        again n start c k t z frame below noted answer after step
    closed_frame (claiming noted page) answer after same (claims lost now sum at a is) =
        subst (ClosedKept start) (sym is) z
    closed_frame (claiming noted page) answer after same (claim_fails now other a is) =
        subst (ClosedKept start) (sym is) z
    closed_frame (looking_next role noted page) answer after same (load_next_late helps step) =
        again n start c k t z frame below noted answer after step
    closed_frame (looking_next role noted page) answer after same (sees_normal lost next goes_on sum at a is) =
        subst (ClosedKept start) (sym is) z
    closed_frame (looking_next role noted page) answer after same (sees_other lost goes_on sum other a is) =
        subst (ClosedKept start) (sym is) z
    closed_frame (marking role noted page next) answer after same (mark_late helps step) =
        again n start c k t z frame below noted answer after step
    closed_frame (marking role noted page next) answer after same (marks lost goes_on sum at a is) =
        subst (ClosedKept start) (sym is) z
    closed_frame (marking role noted page next) answer after same (mark_fails lost goes_on sum other a is) =
        subst (ClosedKept start) (sym is) z
    closed_frame (clearing noted page) answer after same (clears lost sum at a is) = subst (ClosedKept start) (sym is) z
    closed_frame (opening noted page) answer after same (open_late step) =
        again n start c k t z frame below noted answer after step
    closed_frame (opening noted page) answer after same (opens now a is) =
        subst (ClosedKept start) (sym is) (closed_opened n start c k t z frame.kind frame.state page frame below)
    closed_frame releasing answer after same (releases alone more a is) = subst (ClosedKept start) (sym is)
        (closed_released n start c k t z
        (settled_at_rest c.history (rest_releasing n size start c frame below k s h top same)) (omega arith))
    closed_frame releasing answer after same (releases_last alone last a is) = subst (ClosedKept start) (sym is)
        (closed_released n start c k t z
        (settled_at_rest c.history (rest_releasing n size start c frame below k s h top same)) (omega arith))
    closed_frame wishing answer after same (grants alone granted a is) =
        subst (ClosedKept start) (sym is) (closed_more n start c k t z wished)
    closed_frame wishing answer after same (closes_more alone none more a is) = subst (ClosedKept start) (sym is) z
    closed_frame wishing answer after same (goes_away alone none last a is) = subst (ClosedKept start) (sym is) z

closed_read : (n start : ℕ) (c : Core) (phase : ReaderPhase) (answer : Answer) (after : Core) → ClosedKept start c
    → ReadStep n c phase answer after → ClosedKept start after
closed_read n start c loading_head answer after z (loads_header page fill at a is) = subst (ClosedKept start) (sym is) z
closed_read n start c loading_head answer after z (loads_update page lost at a is) = subst (ClosedKept start) (sym is) z
closed_read n start c loading_head answer after z (loads_owed page at a is) = subst (ClosedKept start) (sym is) z
closed_read n start c loading_head answer after z (loads_passed page fill least at more sum a is) =
    subst (ClosedKept start) (sym is) z
closed_read n start c (loading_done page fill) answer after z (finds_none le a is) = subst (ClosedKept start) (sym is) z
closed_read n start c (loading_done page fill) answer after z (finds_closed below a is) =
    subst (ClosedKept start) (sym is) z
closed_read n start c (storing_spare_link page fill) answer after z step =
    subst (ClosedKept start) (sym step.after_is) z
closed_read n start c (swapping page fill) answer after z (swaps at a is) = subst (ClosedKept start) (sym is) z
closed_read n start c (swapping page fill) answer after z (swap_fails at a is) = subst (ClosedKept start) (sym is) z

pub closed_step : (n size start : ℕ) (c : Core) (event : Event) (answer : Answer) (after : Core) → LinksKept n c
    → StackKept c → HistoryKept n start c → ContentsKept n start c → ClosedKept start c
    → StepCases n size c event answer after → ClosedKept start after
closed_step n size start c event answer after k s h t z (push_step moment len e few fits early a is) =
    subst (ClosedKept start) (sym is) (closed_more n start c k t z (push moment len))
closed_step n size start c event answer after k s h t z (push_refused moment len why e refused a is) =
    subst (ClosedKept start) (sym is) z
closed_step n size start c event answer after k s h t z (close_step e few a is) =
    subst (ClosedKept start) (sym is) (closed_more n start c k t z push_close)
closed_step n size start c event answer after k s h t z (close_refused e many a is) =
    subst (ClosedKept start) (sym is) z
closed_step n size start c event answer after k s h t z (frame_step frame below e top step) =
    closed_frame n size start c frame below k s h t z top frame.phase answer after refl step
closed_step n size start c event answer after k s h t z (frame_lacks e none a is) = subst (ClosedKept start) (sym is) z
closed_step n size start c event answer after k s h t z
    (end_step payload frame below number moment len e top phase kind slot a is) =
    subst (ClosedKept start) (sym is) (closed_more n start c k t z (leave (Some payload)))
closed_step n size start c event answer after k s h t z (end_lacks payload e none a is) =
    subst (ClosedKept start) (sym is) z
closed_step n size start c event answer after k s h t z (end_early payload frame below e top none a is) =
    subst (ClosedKept start) (sym is) z
closed_step n size start c event answer after k s h t z (read_step e step) =
    closed_read n start c c.reader.phase answer after z step
closed_step n size start c event answer after k s h t z (store_wish_step e a is) = subst (ClosedKept start) (sym is) z
