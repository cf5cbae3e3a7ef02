-- A wish that was found is served before the stack is empty: as long as no fill is begun for it, the bottom frame,
-- which has left, is about to begin one.
use Rattle.std.proofs.Common.{◌≡◌, ℕ, true, false, List, [], ◌∷◌, length, Some, None, refl, sym, ap, ◌∙◌, subst}
use Rattle.std.specs.Prelude.{Bool}
use Rattle.trace_model.specs.History.{reserved_records}
use Rattle.trace_model.specs.Packing.{is_wished}
use Rattle.trace_model.specs.Frames.{Purpose, for_record, for_close, Progress, waiting, reserved, left, Role, owner}
use Rattle.trace_model.specs.Frames.{helper, Phase, idle, looking, claiming, looking_next, marking, clearing, opening}
use Rattle.trace_model.specs.Frames.{releasing, wishing, noted_fill, Frame}
use Rattle.trace_model.specs.Ring.{ReaderPhase, loading_head, loading_done, storing_spare_link, swapping, Core}
use Rattle.trace_model.specs.Steps.{Event, Answer, closing_phase, frames_after_leave, after_next, after_begin}
use Rattle.trace_model.specs.Steps.{with_new_tail, Exchange, Run}
use Rattle.trace_model.proofs.packing.PackedHistories.{is_wished-push, is_wished-push_close, is_wished-open_fill}
use Rattle.trace_model.proofs.packing.PackedHistories.{is_wished-reserve, is_wished-leave}
use Rattle.trace_model.proofs.steps.StepCases.{StepCases, BeginsAgain, IdleStep, reserves, finds_nothing, is_crowded}
use Rattle.trace_model.proofs.steps.StepCases.{is_worn, notes, FrameStep, load_link_late, sees_free, sees_header}
use Rattle.trace_model.proofs.steps.StepCases.{sees_update, claim_late, claims, claim_fails, load_next_late}
use Rattle.trace_model.proofs.steps.StepCases.{sees_normal, sees_other, mark_late, marks, mark_fails, clears, open_late}
use Rattle.trace_model.proofs.steps.StepCases.{opens, releases, releases_last, grants, closes_more, goes_away, ReadStep}
use Rattle.trace_model.proofs.steps.StepCases.{loads_header, loads_update, loads_owed, loads_passed, finds_none}
use Rattle.trace_model.proofs.steps.StepCases.{finds_closed, swaps, swap_fails, push_step, push_refused, close_step}
use Rattle.trace_model.proofs.steps.StepCases.{close_refused, frame_step, frame_lacks, end_step, end_lacks, end_early}
use Rattle.trace_model.proofs.steps.StepCases.{read_step, store_wish_step}
use Rattle.trace_model.proofs.steps.StepSound.{cases_of}
use Rattle.ring_model.specs.RingKept.{IsRingKept}
use Rattle.ring_model.specs.Reached.{IsReached}
use Rattle.ring_model.proofs.frames.StackSteps.{wishing_left}
use Rattle.ring_model.proofs.histories.HistorySteps.{top_agrees}
use Rattle.ring_model.proofs.partition.RingsKept.{ring_start, ring_step}

-- ---- the bottom frame

-- the bottom one of these frames has left, and is about to begin this fill
abbrev pub Serves : ℕ → List Frame → Type 0
Serves o [] = ⊥
Serves o (frame ∷ []) = (frame.state ≡ left) × (noted_fill frame.phase ≡ Some o)
Serves o (frame ∷ next ∷ below) = Serves o (next ∷ below)

abbrev pub IsServed : Bool → ℕ → List Frame → Type 0
IsServed found o frames = found ≡ true → Serves o frames

abbrev pub WishServed : Core → Type 0
WishServed c = IsServed (is_wished c.history) c.opened c.frames

pushed_on : (o : ℕ) (frame : Frame) (frames : List Frame) → Serves o frames → Serves o (frame ∷ frames)
pushed_on o frame [] s = absurd s
pushed_on o frame (next ∷ below) s = s

-- the top frame goes on
goes_on : (o : ℕ) (frame : Frame) (below : List Frame) (phase : Phase)
    → (noted_fill frame.phase ≡ Some o → noted_fill phase ≡ Some o)
    → Serves o (frame ∷ below)
    → Serves o (record frame { phase = phase } ∷ below)
goes_on o frame [] phase keeps (has_left, noted) = (has_left, keeps noted)
goes_on o frame (next ∷ below) phase keeps s = s

-- it isn't the one that serves
changes_to : (o : ℕ) (frame other : Frame) (below : List Frame)
    → ((frame.state ≡ left) × (noted_fill frame.phase ≡ Some o) → ⊥)
    → Serves o (frame ∷ below)
    → Serves o (other ∷ below)
changes_to o frame other [] not s = absurd (not s)
changes_to o frame other (next ∷ below) not s = s

leaves_to : (o : ℕ) (c : Core) (frame : Frame) (below : List Frame)
    → ((frame.state ≡ left) × (noted_fill frame.phase ≡ Some o) → ⊥)
    → Serves o (frame ∷ below)
    → Serves o (frames_after_leave c frame below)
leaves_to o c frame [] not s = absurd (not s)
leaves_to o c frame (next ∷ below) not s = s

again_to : (o : ℕ) (kind : Purpose) (state : Progress) (c : Core) (frame : Frame) (below : List Frame)
    → ((frame.state ≡ left) × (noted_fill frame.phase ≡ Some o) → ⊥)
    → Serves o (frame ∷ below)
    → Serves o (after_begin kind state c frame below).frames
again_to o (for_record moment len) waiting c frame below not s =
    changes_to o frame (record frame { phase = idle }) below not s
again_to o for_close waiting c frame below not s = leaves_to o c frame below not s
again_to o (for_record moment len) (reserved number) c frame below not s =
    changes_to o frame (record frame { phase = idle }) below not s
again_to o for_close (reserved number) c frame below not s =
    changes_to o frame (record frame { phase = idle }) below not s
again_to o (for_record moment len) left c frame below not s =
    changes_to o frame (record frame { phase = closing_phase c }) below not s
again_to o for_close left c frame below not s =
    changes_to o frame (record frame { phase = closing_phase c }) below not s

again_wished : (kind : Purpose) (state : Progress) (c : Core) (frame : Frame) (below : List Frame)
    → is_wished (after_begin kind state c frame below).history ≡ is_wished c.history
again_wished (for_record moment len) waiting c frame below = refl
again_wished for_close waiting c frame below = is_wished-leave c.history None
again_wished (for_record moment len) (reserved number) c frame below = refl
again_wished for_close (reserved number) c frame below = refl
again_wished (for_record moment len) left c frame below = refl
again_wished for_close left c frame below = refl

again_opened : (kind : Purpose) (state : Progress) (c : Core) (frame : Frame) (below : List Frame)
    → (after_begin kind state c frame below).opened ≡ c.opened
again_opened (for_record moment len) waiting c frame below = refl
again_opened for_close waiting c frame below = refl
again_opened (for_record moment len) (reserved number) c frame below = refl
again_opened for_close (reserved number) c frame below = refl
again_opened (for_record moment len) left c frame below = refl
again_opened for_close left c frame below = refl

next_noted : (role : Role) (noted page : ℕ) → noted_fill (after_next role noted page) ≡ Some noted
next_noted owner noted page = refl
next_noted helper noted page = refl

-- ---- a step

module _ (n size start : ℕ) (c : Core) (answer : Answer) (after : Core) (kept : IsRingKept n size start c)
    (served : WishServed c) where
  -- the state after the step is one in which it is so
  to : (next : Core) → after ≡ next → WishServed next → WishServed after
  to next is s = subst WishServed (sym is) s

  module _ (frame : Frame) (below : List Frame) (top : c.frames ≡ frame ∷ below) where
    here : is_wished c.history ≡ true → Serves c.opened (frame ∷ below)
    here found = subst (Serves c.opened) top (served found)

    -- the frame goes on for the same fill, or it was for none
    abbrev KeepsFill : Phase → Phase → Type 0
    KeepsFill phase next = noted_fill phase ≡ Some c.opened → noted_fill next ≡ Some c.opened

    on : (phase next : Phase)
        → frame.phase ≡ phase
        → KeepsFill phase next
        → is_wished c.history ≡ true
        → Serves c.opened (record frame { phase = next } ∷ below)
    on phase next at keeps found =
        goes_on c.opened frame below next (subst (λ (p : Phase). KeepsFill p next) (sym at) keeps) (here found)

    isnt_it : (phase : Phase)
        → frame.phase ≡ phase
        → (noted_fill phase ≡ Some c.opened → ⊥)
        → (frame.state ≡ left) × (noted_fill frame.phase ≡ Some c.opened)
        → ⊥
    isnt_it phase at not (has_left, noted) = not (subst (λ (p : Phase). noted_fill p ≡ Some c.opened) at noted)

    late : (phase : Phase) (noted : ℕ)
        → frame.phase ≡ phase
        → noted_fill phase ≡ Some noted
        → BeginsAgain c frame below noted answer after
        → WishServed after
    late phase noted at is step = to _ step.after_is (λ found.
        subst (λ (o : ℕ). Serves o (after_begin frame.kind frame.state c frame below).frames)
        (sym (again_opened frame.kind frame.state c frame below))
        (again_to c.opened frame.kind frame.state c frame below
        (isnt_it phase at (λ e. step.passed
        (let same : Some noted ≡ Some c.opened = sym is ∙ e in let so : noted ≡ c.opened = cc in so)))
        (here (sym (again_wished frame.kind frame.state c frame below) ∙ found))))

    none_noted : (o : ℕ) → None ≡ Some o → ⊥
    none_noted o e = cc

    idle_serves : (state : Progress)
        → frame.phase ≡ idle
        → IdleStep n size c frame below state answer after
        → WishServed after
    idle_serves waiting at (reserves moment len r kind r_is fits a is) =
        to _ is
        (λ found. changes_to c.opened frame
        (record frame { state = reserved (length (reserved_records c.history)); phase = idle }) below
        (isnt_it idle at (none_noted c.opened)) (here (sym (is_wished-reserve c.history) ∙ found)))
    idle_serves waiting at (finds_nothing kind empty a is) =
        to _ is
        (λ found. leaves_to c.opened c frame below (isnt_it idle at (none_noted c.opened))
        (here (sym (is_wished-leave c.history None) ∙ found)))
    idle_serves waiting at (is_crowded needs full a is) =
        to _ is
        (λ found. leaves_to c.opened c frame below (isnt_it idle at (none_noted c.opened))
        (here (sym (is_wished-leave c.history None) ∙ found)))
    idle_serves waiting at (is_worn needs room last a is) =
        to _ is
        (λ found. leaves_to c.opened c frame below (isnt_it idle at (none_noted c.opened))
        (here (sym (is_wished-leave c.history None) ∙ found)))
    idle_serves waiting at (notes needs room small a is) = to _ is (on idle (looking c.opened) at (λ e. refl))
    idle_serves (reserved number) at step = to c step.1 served
    idle_serves left at step = absurd step

    frame_serves : (phase : Phase)
        → frame.phase ≡ phase
        → FrameStep n size c frame below phase answer after
        → WishServed after
    frame_serves idle at step = idle_serves frame.state at step
    frame_serves (looking noted) at (load_link_late step) = late (looking noted) noted at refl step
    frame_serves (looking noted) at (sees_free page now link a is) =
        to _ is (on (looking noted) (opening noted page) at (λ e. e))
    frame_serves (looking noted) at (sees_header page by now sum link a is) =
        to _ is (on (looking noted) (claiming noted page) at (λ e. e))
    frame_serves (looking noted) at (sees_update page by now sum link a is) =
        to _ is (on (looking noted) (looking_next helper noted page) at (λ e. e))
    frame_serves (claiming noted page) at (claim_late step) = late (claiming noted page) noted at refl step
    frame_serves (claiming noted page) at (claims by now sum link a is) =
        to _ is (on (claiming noted page) (looking_next owner noted page) at (λ e. e))
    frame_serves (claiming noted page) at (claim_fails now other a is) =
        to _ is (on (claiming noted page) (looking noted) at (λ e. e))
    frame_serves (looking_next role noted page) at (load_next_late helps step) =
        late (looking_next role noted page) noted at refl step
    frame_serves (looking_next role noted page) at (sees_normal by next may sum link a is) =
        to _ is (on (looking_next role noted page) (marking role noted page next) at (λ e. e))
    frame_serves (looking_next role noted page) at (sees_other by may sum other a is) =
        to _ is
        (on (looking_next role noted page) (after_next role noted page) at (λ e. next_noted role noted page ∙ e))
    frame_serves (marking role noted page next) at (mark_late helps step) =
        late (marking role noted page next) noted at refl step
    frame_serves (marking role noted page next) at (marks by may sum link a is) =
        to _ is
        (on (marking role noted page next) (after_next role noted page) at (λ e. next_noted role noted page ∙ e))
    frame_serves (marking role noted page next) at (mark_fails by may sum other a is) =
        to _ is
        (on (marking role noted page next) (after_next role noted page) at (λ e. next_noted role noted page ∙ e))
    frame_serves (clearing noted page) at (clears by sum link a is) =
        to _ is (on (clearing noted page) (opening noted page) at (λ e. e))
    frame_serves (opening noted page) at (open_late step) = late (opening noted page) noted at refl step
    frame_serves (opening noted page) at (opens now a is) = to _ is (λ found.
        absurd
        (let not = sym (again_wished frame.kind frame.state (with_new_tail c page) frame below
        ∙ is_wished-open_fill c.history) ∙ found in let no : ⊥ = cc in no))
    frame_serves releasing at (releases alone more a is) = to _ is served
    frame_serves releasing at (releases_last alone last a is) =
        to _ is (on releasing wishing at (λ e. absurd (none_noted c.opened e)))
    frame_serves wishing at (grants alone granted a is) = to _ is (λ found.
        subst (λ (l : List Frame). Serves c.opened (record frame { phase = looking c.opened } ∷ l)) (sym alone)
        (wishing_left frame.kind frame.state frame.phase at (top_agrees c frame below kept.stack top).0, refl))
    frame_serves wishing at (closes_more alone denied more a is) =
        to _ is (on wishing releasing at (λ e. absurd (none_noted c.opened e)))
    frame_serves wishing at (goes_away alone denied last a is) = to _ is (λ found.
        absurd
        (isnt_it wishing at (none_noted c.opened)
        (subst (λ (l : List Frame). Serves c.opened (frame ∷ l)) alone (here found))))

  read_serves : (phase : ReaderPhase) → ReadStep n c phase answer after → WishServed after
  read_serves loading_head (loads_header page fill at a is) = to _ is served
  read_serves loading_head (loads_update page by at a is) = to _ is served
  read_serves loading_head (loads_owed page at a is) = to _ is served
  read_serves loading_head (loads_passed page fill least at more sum a is) = to _ is served
  read_serves (loading_done page fill) (finds_none le a is) = to _ is served
  read_serves (loading_done page fill) (finds_closed closed a is) = to _ is served
  read_serves (storing_spare_link page fill) stored = to _ stored.after_is served
  read_serves (swapping page fill) (swaps at a is) = to _ is served
  read_serves (swapping page fill) (swap_fails at a is) = to _ is served

  step_serves : (event : Event) → StepCases n size c event answer after → WishServed after
  step_serves event (push_step moment len e few short early a is) =
      to _ is
      (λ found. pushed_on c.opened (record { kind = for_record moment len; state = waiting; phase = idle }) c.frames
      (served (sym (is_wished-push c.history moment len) ∙ found)))
  step_serves event (push_refused moment len why e denied a is) = to _ is served
  step_serves event (close_step e few a is) =
      to _ is
      (λ found. pushed_on c.opened (record { kind = for_close; state = waiting; phase = idle }) c.frames
      (served (sym (is_wished-push_close c.history) ∙ found)))
  step_serves event (close_refused e many a is) = to _ is served
  step_serves event (frame_step frame below e top step) = frame_serves frame below top frame.phase refl step
  step_serves event (frame_lacks e empty a is) = to _ is served
  step_serves event (end_step payload frame below number moment len e top at kind size_is a is) = to _ is (λ found.
      leaves_to c.opened c frame below
      (λ (has_left, noted). (let other : reserved number ≡ left = sym at ∙ has_left in let no : ⊥ = cc in no))
      (here frame below top (sym (is_wished-leave c.history (Some payload)) ∙ found)))
  step_serves event (end_lacks payload e empty a is) = to _ is served
  step_serves event (end_early payload frame below e top early a is) = to _ is served
  step_serves event (read_step e step) = read_serves c.reader.phase step
  step_serves event (store_wish_step e a is) = to _ is served

-- ---- a run

run_serves : (n size start : ℕ) (c after : Core) (exchanges : List Exchange)
    → IsRingKept n size start c
    → WishServed c
    → Run n size c exchanges after
    → WishServed after
run_serves n size start c after [] kept served run = subst WishServed run served
run_serves n size start c after (x ∷ exchanges) kept served (between, step, run) =
    run_serves n size start between after exchanges (ring_step n size start c x.event x.answer between kept step)
    (step_serves n size start c x.answer between kept served x.event (cases_of step)) run

pub reached_serves : (n size start : ℕ) (c : Core) → IsReached n size start c → WishServed c
reached_serves n size start c r =
    run_serves n size start r.from c r.exchanges (ring_start n size start r.from r.may_start r.is_new)
    (λ found. absurd
    (let none : is_wished r.from.history ≡ false = ap is_wished r.is_new.history in let no : ⊥ = cc in no))
    r.run
