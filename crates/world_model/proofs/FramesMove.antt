-- How a step changes the stack of frames: it pushes one, changes the one on top, which keeps its kind, or pops it.
use Rattle.std.proofs.Common.{◌≡◌, ℕ, List, [], ◌∷◌, refl, sym, ap, ◌∙◌, subst}
use Rattle.trace_model.specs.Frames.{Purpose, for_record, for_close, Progress, waiting, reserved, left, Role, Phase}
use Rattle.trace_model.specs.Frames.{Frame}
use Rattle.trace_model.specs.Ring.{ReaderPhase, loading_head, loading_done, storing_spare_link, swapping, Core}
use Rattle.trace_model.specs.Steps.{Event, pushes, pushes_close, steps, ends, reads, wishes, Answer, closing_phase}
use Rattle.trace_model.specs.Steps.{frames_after_leave, with_new_tail, after_begin}
use Rattle.trace_model.proofs.steps.StepCases.{StepCases, BeginsAgain, ReserveStep, reserves, finds_nothing, is_crowded}
use Rattle.trace_model.proofs.steps.StepCases.{is_worn, notes, LoadLinkStep, load_link_late, sees_free, sees_header}
use Rattle.trace_model.proofs.steps.StepCases.{sees_update, ClaimHeadStep, claim_late, claims, claim_fails}
use Rattle.trace_model.proofs.steps.StepCases.{LoadNextStep, load_next_late, sees_normal, sees_other, MarkHeadStep}
use Rattle.trace_model.proofs.steps.StepCases.{mark_late, marks, mark_fails, ClearUpdateStep, clears, OpenFillStep}
use Rattle.trace_model.proofs.steps.StepCases.{open_late, opens, ReleaseFillStep, releases, releases_last, LoadWishStep}
use Rattle.trace_model.proofs.steps.StepCases.{grants, closes_more, goes_away, IdleStep, FrameStep, by_phase}
use Rattle.trace_model.proofs.steps.StepCases.{loads_header, loads_update, loads_owed, loads_passed, finds_none}
use Rattle.trace_model.proofs.steps.StepCases.{finds_closed, swaps, swap_fails, ReadStep, push_step, push_refused}
use Rattle.trace_model.proofs.steps.StepCases.{close_step, close_refused, frame_step, frame_lacks, end_step, end_lacks}
use Rattle.trace_model.proofs.steps.StepCases.{end_early, read_step, store_wish_step}

-- a step that pushes none
pub data Moves (before after : List Frame) : Type 0 where
  stays : after ≡ before → Moves before after
  changes : (frame next : Frame) (below : List Frame) → before ≡ frame ∷ below → next.kind ≡ frame.kind
      → after ≡ next ∷ below → Moves before after
  pops : (frame : Frame) (below : List Frame) → before ≡ frame ∷ below → after ≡ below → Moves before after

module _ (n size : ℕ) (c : Core) (frame : Frame) (below : List Frame) (answer : Answer) (after : Core)
    (top : c.frames ≡ frame ∷ below) where
  -- the frame on top is another of its kind
  to : (next : Core) (f : Frame) → f.kind ≡ frame.kind → next.frames ≡ f ∷ below → after ≡ next
      → Moves c.frames after.frames
  to next f kind frames is = changes frame f below top kind (ap (λ (d : Core). d.frames) is ∙ frames)

  left_by : (d : Core) (under : List Frame) → below ≡ under → after.frames ≡ frames_after_leave d frame under
      → Moves c.frames after.frames
  left_by d [] e is =
      changes frame _ below top refl
      (is ∙ ap (λ (l : List Frame). record frame { state = left; phase = closing_phase d } ∷ l) (sym e))
  left_by d (next ∷ under) e is = pops frame below top (is ∙ sym e)

  leaves : (d next : Core) → next.frames ≡ frames_after_leave d frame below → after ≡ next → Moves c.frames after.frames
  leaves d next frames is = left_by d below refl (ap (λ (x : Core). x.frames) is ∙ frames)

  begins : (kind : Purpose) (state : Progress) (d : Core) → after ≡ after_begin kind state d frame below
      → Moves c.frames after.frames
  begins (for_record moment len) waiting d is = to _ _ refl refl is
  begins for_close waiting d is = leaves d _ refl is
  begins kind (reserved number) d is = to _ _ refl refl is
  begins kind left d is = to _ _ refl refl is

  again : (noted : ℕ) → BeginsAgain c frame below noted answer after → Moves c.frames after.frames
  again noted step = begins frame.kind frame.state c step.after_is

  reserve_moves : ReserveStep n size c frame below answer after → Moves c.frames after.frames
  reserve_moves (reserves moment len r kind r_is fits a is) = to _ _ refl refl is
  reserve_moves (finds_nothing kind none a is) = leaves c _ refl is
  reserve_moves (is_crowded needs full a is) = leaves c _ refl is
  reserve_moves (is_worn needs room last a is) = leaves c _ refl is
  reserve_moves (notes needs room small a is) = to _ _ refl refl is

  load_link_moves : (noted : ℕ) → LoadLinkStep n c frame below noted answer after → Moves c.frames after.frames
  load_link_moves noted (load_link_late step) = again noted step
  load_link_moves noted (sees_free page now at a is) = to _ _ refl refl is
  load_link_moves noted (sees_header page lost now sum at a is) = to _ _ refl refl is
  load_link_moves noted (sees_update page lost now sum at a is) = to _ _ refl refl is

  claim_head_moves : (noted page : ℕ) → ClaimHeadStep n c frame below noted page answer after
      → Moves c.frames after.frames
  claim_head_moves noted page (claim_late step) = again noted step
  claim_head_moves noted page (claims lost now sum at a is) = to _ _ refl refl is
  claim_head_moves noted page (claim_fails now other a is) = to _ _ refl refl is

  load_next_moves : (role : Role) (noted page : ℕ) → LoadNextStep n c frame below role noted page answer after
      → Moves c.frames after.frames
  load_next_moves role noted page (load_next_late helps step) = again noted step
  load_next_moves role noted page (sees_normal lost next on sum at a is) = to _ _ refl refl is
  load_next_moves role noted page (sees_other lost on sum other a is) = to _ _ refl refl is

  mark_head_moves : (role : Role) (noted page next : ℕ) → MarkHeadStep n c frame below role noted page next answer after
      → Moves c.frames after.frames
  mark_head_moves role noted page next (mark_late helps step) = again noted step
  mark_head_moves role noted page next (marks lost on sum at a is) = to _ _ refl refl is
  mark_head_moves role noted page next (mark_fails lost on sum other a is) = to _ _ refl refl is

  clear_update_moves : (noted page : ℕ) → ClearUpdateStep n c frame below noted page answer after
      → Moves c.frames after.frames
  clear_update_moves noted page (clears lost sum at a is) = to _ _ refl refl is

  open_fill_moves : (noted page : ℕ) → OpenFillStep n c frame below noted page answer after
      → Moves c.frames after.frames
  open_fill_moves noted page (open_late step) = again noted step
  open_fill_moves noted page (opens now a is) = begins frame.kind frame.state (with_new_tail c page) is

  release_fill_moves : ReleaseFillStep c frame below answer after → Moves c.frames after.frames
  release_fill_moves (releases alone more a is) = stays (ap (λ (d : Core). d.frames) is)
  release_fill_moves (releases_last alone last a is) = to _ _ refl refl is

  idle_moves : (state : Progress) → IdleStep n size c frame below state answer after → Moves c.frames after.frames
  idle_moves waiting step = reserve_moves step
  idle_moves (reserved number) step = stays (ap (λ (d : Core). d.frames) step.1)
  idle_moves left step = absurd step

  load_wish_moves : LoadWishStep n c frame below answer after → Moves c.frames after.frames
  load_wish_moves (grants alone granted a is) = to _ _ refl refl is
  load_wish_moves (closes_more alone denied more a is) = to _ _ refl refl is
  load_wish_moves (goes_away alone denied last a is) = pops frame below top (ap (λ (d : Core). d.frames) is ∙ sym alone)

  pub frame_moves : (phase : Phase) → FrameStep n size c frame below phase answer after → Moves c.frames after.frames
  frame_moves = by_phase n size c frame below answer after (λ phase. Moves c.frames after.frames)
      (idle_moves frame.state) load_link_moves claim_head_moves load_next_moves mark_head_moves clear_update_moves
      open_fill_moves release_fill_moves load_wish_moves

pub reads_stay : (n : ℕ) (c : Core) (answer : Answer) (after : Core) (phase : ReaderPhase)
    → ReadStep n c phase answer after → after.frames ≡ c.frames
reads_stay n c answer after loading_head (loads_header page fill at a is) = ap (λ (d : Core). d.frames) is
reads_stay n c answer after loading_head (loads_update page lost at a is) = ap (λ (d : Core). d.frames) is
reads_stay n c answer after loading_head (loads_owed page at a is) = ap (λ (d : Core). d.frames) is
reads_stay n c answer after loading_head (loads_passed page fill least at more sum a is) =
    ap (λ (d : Core). d.frames) is
reads_stay n c answer after (loading_done page fill) (finds_none le a is) = ap (λ (d : Core). d.frames) is
reads_stay n c answer after (loading_done page fill) (finds_closed closed a is) = ap (λ (d : Core). d.frames) is
reads_stay n c answer after (storing_spare_link page fill) step = ap (λ (d : Core). d.frames) step.after_is
reads_stay n c answer after (swapping page fill) (swap_fails at a is) = ap (λ (d : Core). d.frames) is
reads_stay n c answer after (swapping page fill) (swaps at a is) = ap (λ (d : Core). d.frames) is

-- an event that pushes no frame
abbrev pub PushesNone : Event → Type 0
PushesNone (pushes moment len) = ⊥
PushesNone pushes_close = ⊥
PushesNone steps = Unit {0}
PushesNone (ends payload) = Unit {0}
PushesNone reads = Unit {0}
PushesNone wishes = Unit {0}

pub step_moves : (n size : ℕ) (c : Core) (event : Event) (answer : Answer) (after : Core) → PushesNone event
    → StepCases n size c event answer after → Moves c.frames after.frames
step_moves n size c event answer after none (push_step moment len e few short early a is) =
    absurd (subst PushesNone e none)
step_moves n size c event answer after none (push_refused moment len why e refusal a is) =
    absurd (subst PushesNone e none)
step_moves n size c event answer after none (close_step e few a is) = absurd (subst PushesNone e none)
step_moves n size c event answer after none (close_refused e many a is) = absurd (subst PushesNone e none)
step_moves n size c event answer after none (frame_step frame below e top step) =
    frame_moves n size c frame below answer after top frame.phase step
step_moves n size c event answer after none (frame_lacks e empty a is) = stays (ap (λ (d : Core). d.frames) is)
step_moves n size c event answer after none
    (end_step payload frame below number moment len e top at kind size_is a is) =
    leaves n size c frame below answer after top c _ refl is
step_moves n size c event answer after none (end_lacks payload e empty a is) = stays (ap (λ (d : Core). d.frames) is)
step_moves n size c event answer after none (end_early payload frame below e top waits a is) =
    stays (ap (λ (d : Core). d.frames) is)
step_moves n size c event answer after none (read_step e step) = stays (reads_stay n c answer after c.reader.phase step)
step_moves n size c event answer after none (store_wish_step e a is) = stays (ap (λ (d : Core). d.frames) is)
