-- What each step does to the frames and to the head: a frame is pushed, or popped, or the one on top goes on; and the
-- head moves if that one claims it, or if it is taken.
use Rattle.std.proofs.Common.{◌≡◌, ℕ, ◌+◌, Bool, true, false, if◌then◌else◌, ◌==◌, List, [], ◌∷◌, Option, Some, None}
use Rattle.std.proofs.Common.{refl, sym, ap, ◌∙◌}
use Rattle.std.proofs.lemmas.Bool.{cond-false, cond_both}
use Rattle.trace_model.specs.Frames.{Purpose, for_record, for_close, Progress, waiting, reserved, left, owner, helper}
use Rattle.trace_model.specs.Frames.{Phase, idle, looking, claiming, looking_next, marking, clearing, opening}
use Rattle.trace_model.specs.Frames.{releasing, wishing, Frame}
use Rattle.trace_model.specs.Ring.{TakenFill, ReaderPhase, loading_head, loading_done, storing_spare_link, swapping}
use Rattle.trace_model.specs.Ring.{Core}
use Rattle.trace_model.specs.Steps.{Event, Answer, page_taken, leave_answer, end_answer, begin_answer, after_leave}
use Rattle.trace_model.specs.Steps.{after_begin, after_next, closing_phase, with_new_tail, taken_fill}
use Rattle.trace_model.proofs.steps.StepCases.{StepCases, BeginsAgain, reserves, finds_nothing, is_crowded, is_worn}
use Rattle.trace_model.proofs.steps.StepCases.{notes, load_link_late, sees_free, sees_header, sees_update, claim_late}
use Rattle.trace_model.proofs.steps.StepCases.{claims, claim_fails, load_next_late, sees_normal, sees_other, mark_late}
use Rattle.trace_model.proofs.steps.StepCases.{marks, mark_fails, clears, open_late, opens, releases, releases_last}
use Rattle.trace_model.proofs.steps.StepCases.{grants, closes_more, goes_away, IdleStep, FrameStep, loads_header}
use Rattle.trace_model.proofs.steps.StepCases.{loads_update, loads_owed, loads_passed, finds_none, finds_closed, swaps}
use Rattle.trace_model.proofs.steps.StepCases.{swap_fails, ReadStep, push_step, push_refused, close_step, close_refused}
use Rattle.trace_model.proofs.steps.StepCases.{frame_step, frame_lacks, end_step, end_lacks, end_early, read_step}
use Rattle.trace_model.proofs.steps.StepCases.{store_wish_step}
use Rattle.step_model.specs.StepCounts.{owns_from}

-- the reader takes a page
abbrev pub takes_page : Answer → Bool
takes_page (page_taken t) = true
takes_page _ = false

abbrev pub frame_in : Purpose → Progress → Phase → Frame
frame_in kind state phase = record { kind = kind; state = state; phase = phase }

-- The head is taken, and the frames stay; or all stay; or a frame is pushed, or the one on top is gone; or that one
-- goes on, in a state and a phase that may be new, and the head moves if it has claimed it.
pub data Moves (c : Core) (answer : Answer) (after : Core) : Type 0 where
  takes : (t : TakenFill)
      → answer ≡ page_taken t
      → after.frames ≡ c.frames
      → after.head ≡ c.head + 1
      → Moves c answer after
  stays :
      takes_page answer ≡ false
      → after.frames ≡ c.frames
      → after.head ≡ c.head
      → Moves c answer after
  pushes_one : (kind : Purpose)
      → takes_page answer ≡ false
      → after.frames ≡ frame_in kind waiting idle ∷ c.frames
      → after.head ≡ c.head
      → Moves c answer after
  pops : (old : Frame)
      → takes_page answer ≡ false
      → c.frames ≡ old ∷ after.frames
      → after.head ≡ c.head
      → Moves c answer after
  goes : (kind : Purpose) (state other : Progress) (phase next : Phase) (below : List Frame)
      → takes_page answer ≡ false
      → c.frames ≡ frame_in kind state phase ∷ below
      → after.frames ≡ frame_in kind other next ∷ below
      → after.head ≡ (if owns_from phase next then c.head + 1 else c.head)
      → Moves c answer after

-- ---- answers

leave_takes_none : (below : List Frame) → takes_page (leave_answer below) ≡ false
leave_takes_none [] = refl
leave_takes_none (next ∷ below) = refl

end_takes_none : (below : List Frame) → takes_page (end_answer below) ≡ false
end_takes_none [] = refl
end_takes_none (next ∷ below) = refl

begin_takes_none : (kind : Purpose) (state : Progress) (below : List Frame)
    → takes_page (begin_answer kind state below) ≡ false
begin_takes_none (for_record moment len) waiting below = refl
begin_takes_none for_close waiting below = leave_takes_none below
begin_takes_none kind (reserved number) below = refl
begin_takes_none kind left below = refl

-- ---- claims

-- a frame that wishes, releases or rests next has claimed nothing
owns_none_wishing : (phase : Phase) → owns_from phase wishing ≡ false
owns_none_wishing (claiming noted page) = refl
owns_none_wishing _ = refl

owns_none_releasing : (phase : Phase) → owns_from phase releasing ≡ false
owns_none_releasing (claiming noted page) = refl
owns_none_releasing _ = refl

owns_none_idle : (phase : Phase) → owns_from phase idle ≡ false
owns_none_idle (claiming noted page) = refl
owns_none_idle _ = refl

owns_none_closing : (c : Core) (phase : Phase) → owns_from phase (closing_phase c) ≡ false
owns_none_closing c phase =
    cond_both ((c.done + 1) == c.opened) wishing releasing (λ p. owns_from phase p ≡ false)
    (λ _. owns_none_wishing phase) (λ _. owns_none_releasing phase)

-- a frame in the same phase claims nothing
pub owns_none_same : (phase : Phase) → owns_from phase phase ≡ false
owns_none_same (claiming noted page) = refl
owns_none_same _ = refl

-- ---- the frame on top

module _ (n size : ℕ) (c : Core) (answer : Answer) (after : Core) where
  module _ (kind : Purpose) (state : Progress) (phase : Phase) (below : List Frame)
      (top : c.frames ≡ frame_in kind state phase ∷ below) where
    -- it goes on, and claims nothing
    on : (other : Progress) (next : Phase) (d : Core) → owns_from phase next ≡ false → takes_page answer ≡ false
        → d.frames ≡ frame_in kind other next ∷ below → d.head ≡ c.head → after ≡ d → Moves c answer after
    on other next d none plain frames head is =
        goes kind state other phase next below plain top (ap (λ (s : Core). s.frames) is ∙ frames)
        (ap (λ (s : Core). s.head) is ∙ head ∙ sym (cond-false _ _ _ none))

  -- it leaves; or its fill is begun; this state has the same head
  leaves : (kind : Purpose) (state : Progress) (phase : Phase) (below : List Frame) (d : Core)
      (payload : Option (List ℕ)) → c.frames ≡ frame_in kind state phase ∷ below → takes_page answer ≡ false
      → d.head ≡ c.head
      → after ≡ after_leave d (frame_in kind state phase) below payload → Moves c answer after
  leaves kind state phase [] d payload top plain head is =
      on kind state phase [] top left (closing_phase d) _ (owns_none_closing d phase) plain refl head is
  leaves kind state phase (next ∷ below) d payload top plain head is =
      pops (frame_in kind state phase) plain
      (top ∙ ap (λ (l : List Frame). frame_in kind state phase ∷ l) (sym (ap (λ (s : Core). s.frames) is)))
      (ap (λ (s : Core). s.head) is ∙ head)

  begins : (kind : Purpose) (state : Progress) (phase : Phase) (below : List Frame) (d : Core)
      → c.frames ≡ frame_in kind state phase ∷ below → d.head ≡ c.head → answer ≡ begin_answer kind state below
      → after ≡ after_begin kind state d (frame_in kind state phase) below → Moves c answer after
  begins (for_record moment len) waiting phase below d top head a is =
      on (for_record moment len) waiting phase below top waiting idle _ (owns_none_idle phase) (ap takes_page a) refl
      head is
  begins for_close waiting phase below d top head a is =
      leaves for_close waiting phase below d None top (ap takes_page a ∙ leave_takes_none below) head is
  begins kind (reserved number) phase below d top head a is =
      on kind (reserved number) phase below top (reserved number) idle _ (owns_none_idle phase)
      (ap takes_page a ∙ begin_takes_none kind (reserved number) below) refl head is
  begins kind left phase below d top head a is =
      on kind left phase below top left (closing_phase d) _ (owns_none_closing d phase)
      (ap takes_page a ∙ begin_takes_none kind left below) refl head is

  module _ (kind : Purpose) (state : Progress) (below : List Frame) where
    again : (phase : Phase) (noted : ℕ) → c.frames ≡ frame_in kind state phase ∷ below
        → BeginsAgain c (frame_in kind state phase) below noted answer after → Moves c answer after
    again phase noted top step = begins kind state phase below c top refl step.answer_is step.after_is

    idle_moves : (was : Progress) → c.frames ≡ frame_in kind state idle ∷ below
        → IdleStep n size c (frame_in kind state idle) below was answer after → Moves c answer after
    idle_moves waiting top (reserves moment len r kind_is r_is fits a is) =
        on kind state idle below top (reserved _) idle _ refl (ap takes_page a) refl refl is
    idle_moves waiting top (finds_nothing kind_is none a is) =
        leaves kind state idle below c None top (ap takes_page a ∙ leave_takes_none below) refl is
    idle_moves waiting top (is_crowded needs full a is) =
        leaves kind state idle below c None top (ap takes_page a) refl is
    idle_moves waiting top (is_worn needs room last a is) =
        leaves kind state idle below c None top (ap takes_page a) refl is
    idle_moves waiting top (notes needs room small a is) =
        on kind state idle below top state (looking c.opened) _ refl (ap takes_page a) refl refl is
    idle_moves (reserved number) top step =
        stays (ap takes_page step.0) (ap (λ (s : Core). s.frames) step.1) (ap (λ (s : Core). s.head) step.1)
    idle_moves left top step = absurd step

    frame_moves : (phase : Phase) → c.frames ≡ frame_in kind state phase ∷ below
        → FrameStep n size c (frame_in kind state phase) below phase answer after → Moves c answer after
    frame_moves idle top step = idle_moves state top step
    frame_moves (looking noted) top (load_link_late step) = again (looking noted) noted top step
    frame_moves (looking noted) top (sees_free page now at a is) =
        on kind state (looking noted) below top state (opening noted page) _ refl (ap takes_page a) refl refl is
    frame_moves (looking noted) top (sees_header page lost now sum at a is) =
        on kind state (looking noted) below top state (claiming noted page) _ refl (ap takes_page a) refl refl is
    frame_moves (looking noted) top (sees_update page lost now sum at a is) =
        on kind state (looking noted) below top state (looking_next helper noted page) _ refl (ap takes_page a) refl
        refl is
    frame_moves (claiming noted page) top (claim_late step) = again (claiming noted page) noted top step
    frame_moves (claiming noted page) top (claims lost now sum at a is) =
        goes kind state state (claiming noted page) (looking_next owner noted page) below (ap takes_page a) top
        (ap (λ (s : Core). s.frames) is) (ap (λ (s : Core). s.head) is)
    frame_moves (claiming noted page) top (claim_fails now other a is) =
        on kind state (claiming noted page) below top state (looking noted) _ refl (ap takes_page a) refl refl is
    frame_moves (looking_next role noted page) top (load_next_late helps step) =
        again (looking_next role noted page) noted top step
    frame_moves (looking_next role noted page) top (sees_normal lost next now sum at a is) =
        on kind state (looking_next role noted page) below top state (marking role noted page next) _ refl
        (ap takes_page a) refl refl is
    frame_moves (looking_next role noted page) top (sees_other lost now sum other a is) =
        on kind state (looking_next role noted page) below top state (after_next role noted page) _ refl
        (ap takes_page a) refl refl is
    frame_moves (marking role noted page next) top (mark_late helps step) =
        again (marking role noted page next) noted top step
    frame_moves (marking role noted page next) top (marks lost now sum at a is) =
        on kind state (marking role noted page next) below top state (after_next role noted page) _ refl
        (ap takes_page a) refl refl is
    frame_moves (marking role noted page next) top (mark_fails lost now sum other a is) =
        on kind state (marking role noted page next) below top state (after_next role noted page) _ refl
        (ap takes_page a) refl refl is
    frame_moves (clearing noted page) top (clears lost sum at a is) =
        on kind state (clearing noted page) below top state (opening noted page) _ refl (ap takes_page a) refl refl is
    frame_moves (opening noted page) top (open_late step) = again (opening noted page) noted top step
    frame_moves (opening noted page) top (opens now a is) =
        begins kind state (opening noted page) below (with_new_tail c page) top refl a is
    frame_moves releasing top (releases alone more a is) =
        stays (ap takes_page a) (ap (λ (s : Core). s.frames) is) (ap (λ (s : Core). s.head) is)
    frame_moves releasing top (releases_last alone last a is) =
        on kind state releasing below top state wishing _ refl (ap takes_page a) refl refl is
    frame_moves wishing top (grants alone granted a is) =
        on kind state wishing below top state (looking c.opened) _ refl (ap takes_page a) refl refl is
    frame_moves wishing top (closes_more alone denied more a is) =
        on kind state wishing below top state releasing _ refl (ap takes_page a) refl refl is
    frame_moves wishing top (goes_away alone denied last a is) =
        pops (frame_in kind state wishing) (ap takes_page a)
        (top ∙ ap (λ (l : List Frame). frame_in kind state wishing ∷ l) (alone ∙ sym (ap (λ (s : Core). s.frames) is)))
        (ap (λ (s : Core). s.head) is)

  -- ---- every step

  rests : (d : Core) → d.frames ≡ c.frames → d.head ≡ c.head → takes_page answer ≡ false → after ≡ d
      → Moves c answer after
  rests d frames head plain is =
      stays plain (ap (λ (s : Core). s.frames) is ∙ frames) (ap (λ (s : Core). s.head) is ∙ head)

  read_moves : (phase : ReaderPhase) → ReadStep n c phase answer after → Moves c answer after
  read_moves loading_head (loads_header page fill at a is) = rests _ refl refl (ap takes_page a) is
  read_moves loading_head (loads_update page lost at a is) = rests _ refl refl (ap takes_page a) is
  read_moves loading_head (loads_owed page at a is) = rests _ refl refl (ap takes_page a) is
  read_moves loading_head (loads_passed page fill least at more sum a is) = rests _ refl refl (ap takes_page a) is
  read_moves (loading_done page fill) (finds_none le a is) = rests _ refl refl (ap takes_page a) is
  read_moves (loading_done page fill) (finds_closed closed a is) = rests _ refl refl (ap takes_page a) is
  read_moves (storing_spare_link page fill) step = rests _ refl refl (ap takes_page step.answer_is) step.after_is
  read_moves (swapping page fill) (swaps at a is) =
      takes (taken_fill c page fill) a (ap (λ (s : Core). s.frames) is) (ap (λ (s : Core). s.head) is)
  read_moves (swapping page fill) (swap_fails at a is) = rests _ refl refl (ap takes_page a) is

pub moves : (n size : ℕ) (c : Core) (event : Event) (answer : Answer) (after : Core)
    → StepCases n size c event answer after → Moves c answer after
moves n size c event answer after (push_step moment len e few short early a is) =
    pushes_one (for_record moment len) (ap takes_page a) (ap (λ (s : Core). s.frames) is) (ap (λ (s : Core). s.head) is)
moves n size c event answer after (push_refused moment len why e refusal a is) =
    rests n size c answer after _ refl refl (ap takes_page a) is
moves n size c event answer after (close_step e few a is) =
    pushes_one for_close (ap takes_page a) (ap (λ (s : Core). s.frames) is) (ap (λ (s : Core). s.head) is)
moves n size c event answer after (close_refused e many a is) =
    rests n size c answer after _ refl refl (ap takes_page a) is
moves n size c event answer after (frame_step frame below e top step) =
    frame_moves n size c answer after frame.kind frame.state below frame.phase top step
moves n size c event answer after (frame_lacks e none a is) =
    rests n size c answer after _ refl refl (ap takes_page a) is
moves n size c event answer after (end_step payload frame below number moment len e top at kind size_is a is) =
    leaves n size c answer after frame.kind frame.state frame.phase below c (Some payload) top
    (ap takes_page a ∙ end_takes_none below) refl is
moves n size c event answer after (end_lacks payload e none a is) =
    rests n size c answer after _ refl refl (ap takes_page a) is
moves n size c event answer after (end_early payload frame below e top none a is) =
    rests n size c answer after _ refl refl (ap takes_page a) is
moves n size c event answer after (read_step e step) = read_moves n size c answer after c.reader.phase step
moves n size c event answer after (store_wish_step e a is) =
    rests n size c answer after _ refl refl (ap takes_page a) is
