-- A private step is one wherever the writer's part is the same: it reads nothing else, and leaves the same there.
use Rattle.std.proofs.Common.{◌≡◌, ℕ, List, [], ◌∷◌, length, Option, Some, None, refl, sym, subst}
use Rattle.trace_model.specs.History.{push, push_close, reserved_records}
use Rattle.trace_model.specs.Frames.{Purpose, for_record, for_close, Progress, waiting, reserved, left, owner, helper}
use Rattle.trace_model.specs.Frames.{Phase, idle, looking, claiming, looking_next, marking, clearing, opening}
use Rattle.trace_model.specs.Frames.{releasing, wishing, Frame, WriteFault}
use Rattle.trace_model.specs.Ring.{Core}
use Rattle.trace_model.specs.Steps.{Event, pushes, pushes_close, steps, ends, reads, wishes, Answer, with_history_event}
use Rattle.trace_model.specs.Steps.{with_frame, in_phase, in_reserved, with_reservation, NeedsPage, after_leave}
use Rattle.trace_model.specs.Steps.{after_begin, Step, step_of}
use Rattle.trace_model.proofs.steps.StepCases.{StepCases, BeginsAgain, reserves, finds_nothing, is_crowded, is_worn}
use Rattle.trace_model.proofs.steps.StepCases.{notes, load_link_late, sees_free, sees_header, sees_update, claim_late}
use Rattle.trace_model.proofs.steps.StepCases.{claims, claim_fails, load_next_late, sees_normal, sees_other, mark_late}
use Rattle.trace_model.proofs.steps.StepCases.{marks, mark_fails, open_late, opens, IdleStep, FrameStep, PushRefused}
use Rattle.trace_model.proofs.steps.StepCases.{all_stand, has_no_room, comes_late, push_step, push_refused, close_step}
use Rattle.trace_model.proofs.steps.StepCases.{close_refused, frame_step, frame_lacks, end_step, end_lacks, end_early}
use Rattle.trace_model.proofs.steps.StepCases.{read_step, store_wish_step}
use Rattle.trace_model.proofs.steps.StepSound.{cases_of}
use Rattle.trace_model.proofs.steps.StepIs.{step_by}
use Rattle.ring_model.specs.Seats.{WriterStays, PhaseIsPrivate, TopIsPrivate, IsPrivate}

-- the second state, with the writer's part of the first
abbrev with_part : Core → Core → Core
with_part c d = record d {
  frames = c.frames;
  open_pages = c.open_pages;
  history = c.history;
  done = c.done;
  opened = c.opened;
}

part_is : (c d : Core) → WriterStays c d → with_part c d ≡ d
part_is c d same = λ i. record d {
  frames = sym same.frames i;
  open_pages = sym same.open_pages i;
  history = sym same.history i;
  done = sym same.done i;
  opened = sym same.opened i;
}

-- such a step leads on, to a state with the same writer's part
abbrev Made : (Core → Type 0) → Core → Type 0
Made step after = (next : Core) × step next × WriterStays after next

same_there : (after there next : Core) → after ≡ there → WriterStays there next → WriterStays after next
same_there after there next is same = subst (λ (x : Core). WriterStays x next) (sym is) same

module _ (n size : ℕ) (c other : Core) where
  abbrev d : Core
  d = with_part c other

  leave_same : (frame : Frame) (below : List Frame) (payload : Option (List ℕ))
      → WriterStays (after_leave c frame below payload) (after_leave d frame below payload)
  leave_same frame [] payload = record { frames = refl; open_pages = refl; history = refl; done = refl; opened = refl }
  leave_same frame (next ∷ below) payload =
      record { frames = refl; open_pages = refl; history = refl; done = refl; opened = refl }

  phase_same : (frame : Frame) (below : List Frame) (phase : Phase)
      → WriterStays (in_phase c frame below phase) (in_phase d frame below phase)
  phase_same frame below phase = record { frames = refl; open_pages = refl; history = refl; done = refl; opened = refl }

  begin_same : (kind : Purpose) (state : Progress) (frame : Frame) (below : List Frame)
      → WriterStays (after_begin kind state c frame below) (after_begin kind state d frame below)
  begin_same (for_record moment len) waiting frame below = phase_same frame below idle
  begin_same for_close waiting frame below = leave_same frame below None
  begin_same kind (reserved number) frame below = phase_same frame below idle
  begin_same kind left frame below =
      record { frames = refl; open_pages = refl; history = refl; done = refl; opened = refl }

  stays_same : WriterStays c d
  stays_same = record { frames = refl; open_pages = refl; history = refl; done = refl; opened = refl }

  needs_same : (kind : Purpose) → NeedsPage size c kind → NeedsPage size d kind
  needs_same (for_record moment len) needs = needs
  needs_same for_close needs = needs

  refused_same : (moment len : ℕ) (why : WriteFault) → PushRefused size c moment len why
      → PushRefused size d moment len why
  refused_same moment len why (all_stand many) = all_stand many
  refused_same moment len why (has_no_room few long) = has_no_room few long
  refused_same moment len why (comes_late few short late) = comes_late few short late

  module _ (frame : Frame) (below : List Frame) (answer : Answer) (after : Core) where
    again_same : (noted : ℕ) → BeginsAgain c frame below noted answer after
        → Made (BeginsAgain d frame below noted answer) after
    again_same noted step = (
      after_begin frame.kind frame.state d frame below,
      record { passed = step.passed; answer_is = step.answer_is; after_is = refl },
      same_there after _ _ step.after_is (begin_same frame.kind frame.state frame below),
    )

    leaves_same : after ≡ after_leave c frame below None → WriterStays after (after_leave d frame below None)
    leaves_same is = same_there after _ _ is (leave_same frame below None)

    idle_same : (state : Progress) → IdleStep n size c frame below state answer after
        → Made (IdleStep n size d frame below state answer) after
    idle_same waiting (reserves moment len r kind r_is fits a is) = (
      in_reserved (with_reservation d r) frame below (length (reserved_records c.history)),
      reserves moment len r kind r_is fits a refl,
      same_there after _ _ is record { frames = refl; open_pages = refl; history = refl; done = refl; opened = refl },
    )
    idle_same waiting (finds_nothing kind none a is) =
        (after_leave d frame below None, finds_nothing kind none a refl, leaves_same is)
    idle_same waiting (is_crowded needs full a is) =
        (after_leave d frame below None, is_crowded (needs_same frame.kind needs) full a refl, leaves_same is)
    idle_same waiting (is_worn needs room last a is) =
        (after_leave d frame below None, is_worn (needs_same frame.kind needs) room last a refl, leaves_same is)
    idle_same waiting (notes needs room small a is) = (
      in_phase d frame below (looking c.opened),
      notes (needs_same frame.kind needs) room small a refl,
      same_there after _ _ is (phase_same frame below (looking c.opened)),
    )
    idle_same (reserved number) step = (d, (step.0, refl), same_there after _ _ step.1 stays_same)
    idle_same left step = absurd step

    frame_same : (phase : Phase) → PhaseIsPrivate phase c.opened → FrameStep n size c frame below phase answer after
        → Made (FrameStep n size d frame below phase answer) after
    frame_same idle own step = idle_same frame.state step
    frame_same (looking noted) own (load_link_late step) = let (next, again, same) = again_same noted step in
        (next, load_link_late again, same)
    frame_same (looking noted) own (sees_free page now at a is) = absurd (own now)
    frame_same (looking noted) own (sees_header page lost now sum at a is) = absurd (own now)
    frame_same (looking noted) own (sees_update page lost now sum at a is) = absurd (own now)
    frame_same (claiming noted page) own (claim_late step) = let (next, again, same) = again_same noted step in
        (next, claim_late again, same)
    frame_same (claiming noted page) own (claims lost now sum at a is) = absurd (own now)
    frame_same (claiming noted page) own (claim_fails now other a is) = absurd (own now)
    frame_same (looking_next owner noted page) own step = absurd own
    frame_same (looking_next helper noted page) own (load_next_late helps step) =
        let (next, again, same) =
        again_same noted step in
        (next, load_next_late helps again, same)
    frame_same (looking_next helper noted page) own (sees_normal lost next on sum at a is) = absurd (own on)
    frame_same (looking_next helper noted page) own (sees_other lost on sum other a is) = absurd (own on)
    frame_same (marking owner noted page next) own step = absurd own
    frame_same (marking helper noted page next) own (mark_late helps step) =
        let (there, again, same) =
        again_same noted step in
        (there, mark_late helps again, same)
    frame_same (marking helper noted page next) own (marks lost on sum at a is) = absurd (own on)
    frame_same (marking helper noted page next) own (mark_fails lost on sum other a is) = absurd (own on)
    frame_same (clearing noted page) own step = absurd own
    frame_same (opening noted page) own (open_late step) = let (next, again, same) = again_same noted step in
        (next, open_late again, same)
    frame_same (opening noted page) own (opens now a is) = absurd (own now)
    frame_same releasing own step = absurd own
    frame_same wishing own step = absurd own

  step_same : (event : Event) (answer : Answer) (after : Core) → IsPrivate c event
      → StepCases n size c event answer after → Made (StepCases n size d event answer) after
  step_same event answer after own (push_step moment len e few short early a is) = (
    with_history_event (with_frame d (for_record moment len)) (push moment len),
    push_step moment len e few short early a refl,
    same_there after _ _ is record { frames = refl; open_pages = refl; history = refl; done = refl; opened = refl },
  )
  step_same event answer after own (push_refused moment len why e refused a is) = (
    d,
    push_refused moment len why e (refused_same moment len why refused) a refl,
    same_there after _ _ is stays_same,
  )
  step_same event answer after own (close_step e few a is) = (
    with_history_event (with_frame d for_close) push_close,
    close_step e few a refl,
    same_there after _ _ is record { frames = refl; open_pages = refl; history = refl; done = refl; opened = refl },
  )
  step_same event answer after own (close_refused e many a is) =
      (d, close_refused e many a refl, same_there after _ _ is stays_same)
  step_same event answer after own (frame_step frame below e top step) =
      let private = subst (λ (fs : List Frame). TopIsPrivate fs c.opened) top (subst (IsPrivate c) e own) in
      let (next, made, same) = frame_same frame below answer after frame.phase private step in
      (next, frame_step frame below e top made, same)
  step_same event answer after own (frame_lacks e none a is) =
      (d, frame_lacks e none a refl, same_there after _ _ is stays_same)
  step_same event answer after own (end_step payload frame below number moment len e top at kind slot a is) = (
    after_leave d frame below (Some payload),
    end_step payload frame below number moment len e top at kind slot a refl,
    same_there after _ _ is (leave_same frame below (Some payload)),
  )
  step_same event answer after own (end_lacks payload e none a is) =
      (d, end_lacks payload e none a refl, same_there after _ _ is stays_same)
  step_same event answer after own (end_early payload frame below e top none a is) =
      (d, end_early payload frame below e top none a refl, same_there after _ _ is stays_same)
  step_same event answer after own (read_step e step) = absurd (subst (IsPrivate c) e own)
  step_same event answer after own (store_wish_step e a is) = absurd (subst (IsPrivate c) e own)

  own_same : (event : Event) → IsPrivate c event → IsPrivate d event
  own_same (pushes moment len) own = tt
  own_same pushes_close own = tt
  own_same steps own = own
  own_same (ends payload) own = tt
  own_same reads own = absurd own
  own_same wishes own = absurd own

-- The event is a private step from this state too, with this answer, to one with the same writer's part.
pub record IsAlike (n size : ℕ) (d : Core) (event : Event) (answer : Answer) (after : Core) : Type 0 where
  pub next : Core
  pub private : IsPrivate d event
  pub step : Step n size d event answer next
  pub same : WriterStays after next

pub private_alike : (n size : ℕ) (c d : Core) (event : Event) (answer : Answer) (after : Core) → WriterStays c d
    → IsPrivate c event → Step n size c event answer after → IsAlike n size d event answer after
private_alike n size c d event answer after part own step =
    let (next, made, same) = step_same n size c d event answer after own (cases_of step) in
    subst (λ (x : Core). IsAlike n size x event answer after) (part_is c d part)
    record { next = next; private = own_same n size c d event own; step = step_by made; same = same }

-- so the function that computes a step gives it there
pub private_computed : (n size : ℕ) (c d : Core) (event : Event) (answer : Answer) (after : Core) → WriterStays c d
    → IsPrivate c event → Step n size c event answer after
    → (next : Core) × (step_of n size d event ≡ Some (answer, next)) × WriterStays after next
private_computed n size c d event answer after part own step =
    let alike = private_alike n size c d event answer after part own step in
    (alike.next, alike.step.is, alike.same)
