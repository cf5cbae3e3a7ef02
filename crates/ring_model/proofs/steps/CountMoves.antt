-- By which steps the head and the count of closed fills move.
use Rattle.std.proofs.Common.{◌≡◌, ℕ, ◌+◌, ◌⊎◌, IsTrue, List, ◌∷◌, refl, ap, ◌∙◌, inl, inr, ⊎_elim, arith}
use Rattle.trace_model.specs.History.{push, push_close, open_fill, reserve, leave, wished, is_settled}
use Rattle.trace_model.specs.Frames.{Purpose, for_record, for_close, Progress, waiting, reserved, left, Role, Phase}
use Rattle.trace_model.specs.Frames.{Frame}
use Rattle.trace_model.specs.Ring.{ReaderPhase, loading_head, loading_done, storing_spare_link, swapping, Core}
use Rattle.trace_model.specs.Ring.{window_of}
use Rattle.trace_model.specs.Window.{Window, RingEvent, closes, takes, loses, WindowStep, acts}
use Rattle.trace_model.specs.Steps.{Event, Answer, with_new_tail, after_begin, taken_fill}
use Rattle.trace_model.proofs.steps.StepCases.{StepCases, BeginsAgain, ReserveStep, reserves, finds_nothing, is_crowded}
use Rattle.trace_model.proofs.steps.StepCases.{is_worn, notes, LoadLinkStep, load_link_late, sees_free, sees_header}
use Rattle.trace_model.proofs.steps.StepCases.{sees_update, ClaimHeadStep, claim_late, claims, claim_fails}
use Rattle.trace_model.proofs.steps.StepCases.{LoadNextStep, load_next_late, sees_normal, sees_other, MarkHeadStep}
use Rattle.trace_model.proofs.steps.StepCases.{mark_late, marks, mark_fails, ClearUpdateStep, clears, OpenFillStep}
use Rattle.trace_model.proofs.steps.StepCases.{open_late, opens, ReleaseFillStep, releases, releases_last, LoadWishStep}
use Rattle.trace_model.proofs.steps.StepCases.{grants, closes_more, goes_away, IdleStep, FrameStep, by_phase}
use Rattle.trace_model.proofs.steps.StepCases.{loads_header, loads_update, loads_owed, loads_passed, finds_none}
use Rattle.trace_model.proofs.steps.StepCases.{finds_closed, swaps, swap_fails, ReadStep, push_step, push_refused}
use Rattle.trace_model.proofs.steps.StepCases.{close_step, close_refused, frame_step, frame_lacks, end_step, end_lacks}
use Rattle.trace_model.proofs.steps.StepCases.{end_early, read_step, store_wish_step}
use Rattle.trace_model.proofs.steps.StepSound.{cases_of}
use Rattle.ring_model.specs.KeptLinks.{LinksKept}
use Rattle.ring_model.specs.WindowLaws.{HeadIsTaken, HeadIsLost, LossesNeedAFullRing, ClosesNeedNoFrame}
use Rattle.ring_model.proofs.links.LinkFills.{header_reports, header_inside, fill_at}
use Rattle.ring_model.proofs.histories.HistorySteps.{step_owed}

after_begin_head : (kind : Purpose) (state : Progress) (c : Core) (frame : Frame) (below : List Frame)
    → (after_begin kind state c frame below).head ≡ c.head
after_begin_head (for_record moment len) waiting c frame below = refl
after_begin_head for_close waiting c frame below = refl
after_begin_head kind (reserved number) c frame below = refl
after_begin_head kind left c frame below = refl

-- the head stays, is taken, or is lost
abbrev HeadMoves : ℕ → Core → Answer → Core → Type 0
HeadMoves n c answer after = (after.head ≡ c.head) ⊎ (HeadIsTaken c answer after ⊎ HeadIsLost n c after)

-- no fill is closed, or the oldest one is
abbrev DoneMoves : Core → Core → Type 0
DoneMoves c after = (after.done ≡ c.done) ⊎ (IsTrue (is_settled c.history) × (after.done ≡ c.done + 1))

module _ (n size : ℕ) (c : Core) (frame : Frame) (below : List Frame) (answer : Answer) (after : Core)
    (k : LinksKept n c) (top : c.frames ≡ frame ∷ below) where
  stays_again : (noted : ℕ) → BeginsAgain c frame below noted answer after → HeadMoves n c answer after
  stays_again noted step =
      inl (ap (λ (s : Core). s.head) step.after_is ∙ after_begin_head frame.kind frame.state c frame below)

  stays : (next : Core) → next.head ≡ c.head → after ≡ next → HeadMoves n c answer after
  stays next same is = inl (ap (λ (s : Core). s.head) is ∙ same)

  reserve_moves : ReserveStep n size c frame below answer after → HeadMoves n c answer after
  reserve_moves (reserves moment len r kind r_is fits a is) = stays _ refl is
  reserve_moves (finds_nothing kind none a is) = stays _ refl is
  reserve_moves (is_crowded needs full a is) = stays _ refl is
  reserve_moves (is_worn needs room last a is) = stays _ refl is
  reserve_moves (notes needs room small a is) = stays _ refl is

  load_link_moves : (noted : ℕ) → LoadLinkStep n c frame below noted answer after → HeadMoves n c answer after
  load_link_moves noted (load_link_late step) = stays_again noted step
  load_link_moves noted (sees_free page now at a is) = stays _ refl is
  load_link_moves noted (sees_header page lost now sum at a is) = stays _ refl is
  load_link_moves noted (sees_update page lost now sum at a is) = stays _ refl is

  claim_head_moves : (noted page : ℕ) → ClaimHeadStep n c frame below noted page answer after
      → HeadMoves n c answer after
  claim_head_moves noted page (claim_late step) = stays_again noted step
  claim_head_moves noted page (claims lost now sum at a is) =
      let unread = k.head_le in let behind = k.done_lt in let within = k.opened_le in
      let (here, page_is, head_at) = header_inside n c k noted page lost (omega arith) (omega arith) sum at in
      inr (inr ((omega arith), ap (λ (s : Core). s.head) is, ap (λ (s : Core). s.reader) is))
  claim_head_moves noted page (claim_fails now other a is) = stays _ refl is

  load_next_moves : (role : Role) (noted page : ℕ) → LoadNextStep n c frame below role noted page answer after
      → HeadMoves n c answer after
  load_next_moves role noted page (load_next_late helps step) = stays_again noted step
  load_next_moves role noted page (sees_normal lost next on sum at a is) = stays _ refl is
  load_next_moves role noted page (sees_other lost on sum other a is) = stays _ refl is

  mark_head_moves : (role : Role) (noted page next : ℕ) → MarkHeadStep n c frame below role noted page next answer after
      → HeadMoves n c answer after
  mark_head_moves role noted page next (mark_late helps step) = stays_again noted step
  mark_head_moves role noted page next (marks lost on sum at a is) = stays _ refl is
  mark_head_moves role noted page next (mark_fails lost on sum other a is) = stays _ refl is

  clear_update_moves : (noted page : ℕ) → ClearUpdateStep n c frame below noted page answer after
      → HeadMoves n c answer after
  clear_update_moves noted page (clears lost sum at a is) = stays _ refl is

  open_fill_moves : (noted page : ℕ) → OpenFillStep n c frame below noted page answer after → HeadMoves n c answer after
  open_fill_moves noted page (open_late step) = stays_again noted step
  open_fill_moves noted page (opens now a is) =
      inl (ap (λ (s : Core). s.head) is ∙ after_begin_head frame.kind frame.state (with_new_tail c page) frame below)

  release_fill_moves : ReleaseFillStep c frame below answer after → HeadMoves n c answer after
  release_fill_moves (releases alone more a is) = stays _ refl is
  release_fill_moves (releases_last alone last a is) = stays _ refl is

  idle_moves : (state : Progress) → IdleStep n size c frame below state answer after → HeadMoves n c answer after
  idle_moves waiting step = reserve_moves step
  idle_moves (reserved number) step = stays c refl step.1
  idle_moves left step = absurd step

  load_wish_moves : LoadWishStep n c frame below answer after → HeadMoves n c answer after
  load_wish_moves (grants alone granted a is) = stays _ refl is
  load_wish_moves (closes_more alone denied more a is) = stays _ refl is
  load_wish_moves (goes_away alone denied last a is) = stays _ refl is

  frame_moves : (phase : Phase) → FrameStep n size c frame below phase answer after → HeadMoves n c answer after
  frame_moves = by_phase n size c frame below answer after (λ phase. HeadMoves n c answer after)
      (idle_moves frame.state) load_link_moves claim_head_moves load_next_moves mark_head_moves clear_update_moves
      open_fill_moves release_fill_moves load_wish_moves

module _ (n : ℕ) (c : Core) (answer : Answer) (after : Core) (k : LinksKept n c) where
  rests : (next : Core) → next.head ≡ c.head → after ≡ next → HeadMoves n c answer after
  rests next same is = inl (ap (λ (s : Core). s.head) is ∙ same)

  read_moves : (phase : ReaderPhase) → ReadStep n c phase answer after → HeadMoves n c answer after
  read_moves loading_head (loads_header page fill at a is) = rests _ refl is
  read_moves loading_head (loads_update page lost at a is) = rests _ refl is
  read_moves loading_head (loads_owed page at a is) = rests _ refl is
  read_moves loading_head (loads_passed page fill least at more sum a is) = rests _ refl is
  read_moves (loading_done page fill) (finds_none le a is) = rests _ refl is
  read_moves (loading_done page fill) (finds_closed closed a is) = rests _ refl is
  read_moves (storing_spare_link page fill) step = rests _ refl step.after_is
  read_moves (swapping page fill) (swap_fails at a is) = rests _ refl is
  read_moves (swapping page fill) (swaps at a is) =
      let (g, low, high, same, link) = fill_at n c k fill in
      let reported = header_reports n c.links c.order c.head c.frames g page fill link (same ∙ at) in
      inr (inl (taken_fill c page fill, a, reported.0 ∙ reported.1, ap (λ (s : Core). s.head) is))

moves : (n size : ℕ) (c : Core) (event : Event) (answer : Answer) (after : Core) → LinksKept n c
    → StepCases n size c event answer after → HeadMoves n c answer after
moves n size c event answer after k (push_step moment len e few short early a is) = rests n c answer after k _ refl is
moves n size c event answer after k (push_refused moment len why e refusal a is) = rests n c answer after k _ refl is
moves n size c event answer after k (close_step e few a is) = rests n c answer after k _ refl is
moves n size c event answer after k (close_refused e many a is) = rests n c answer after k _ refl is
moves n size c event answer after k (frame_step frame below e top step) =
    frame_moves n size c frame below answer after k top frame.phase step
moves n size c event answer after k (frame_lacks e none a is) = rests n c answer after k _ refl is
moves n size c event answer after k (end_step payload frame below number moment len e top at kind size_is a is) =
    rests n c answer after k _ refl is
moves n size c event answer after k (end_lacks payload e none a is) = rests n c answer after k _ refl is
moves n size c event answer after k (end_early payload frame below e top none a is) = rests n c answer after k _ refl is
moves n size c event answer after k (read_step e step) = read_moves n c answer after k c.reader.phase step
moves n size c event answer after k (store_wish_step e a is) = rests n c answer after k _ refl is

pub losses_need_a_full_ring : LossesNeedAFullRing
losses_need_a_full_ring n size start c event answer after r step =
    moves n size c event answer after r.links (cases_of step)

pub closes_need_no_frame : ClosesNeedNoFrame
closes_need_no_frame n size start c event answer after r step =
    ⊎_elim (λ same. inl (ap (λ (w : Window). w.done) same.0)) (λ one. by_what one.0 one.1.step)
    (step_owed n size start c event answer after r.links r.stack r.history (cases_of step)).window
  where
    by_what : (what : RingEvent) → WindowStep n c.history (window_of c) what (window_of after) → DoneMoves c after
    by_what (acts (push moment len)) w = inl (ap (λ (v : Window). v.done) w.after_is)
    by_what (acts push_close) w = inl (ap (λ (v : Window). v.done) w.after_is)
    by_what (acts open_fill) w = inl (ap (λ (v : Window). v.done) w.after_is)
    by_what (acts reserve) w = inl (ap (λ (v : Window). v.done) w.after_is)
    by_what (acts (leave payload)) w = inl (ap (λ (v : Window). v.done) w.after_is)
    by_what (acts wished) w = inl (ap (λ (v : Window). v.done) w.after_is)
    by_what closes w = inr (w.may.1, ap (λ (v : Window). v.done) w.after_is)
    by_what takes w = inl (ap (λ (v : Window). v.done) w.after_is)
    by_what loses w = inl (ap (λ (v : Window). v.done) w.after_is)
