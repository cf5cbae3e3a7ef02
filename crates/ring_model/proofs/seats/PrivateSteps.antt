-- The writer's private steps: they change frames, history and what pages hold, and no word of the ring; and they are
-- the same whatever those words and the reader's part are.
use Rattle.std.proofs.Common.{◌≡◌, ℕ, List, [], ◌∷◌, ◌++◌, length, map, Option, Some, None, refl, sym, ap, ◌∙◌, subst}
use Rattle.std.specs.Prelude.{slice_index_or, slice_set}
use Rattle.trace_model.specs.History.{HistoryEvent, push, push_close, Reservation, reserved_records}
use Rattle.trace_model.specs.Links.{Link}
use Rattle.trace_model.specs.Frames.{Purpose, for_record, for_close, Progress, waiting, reserved, left, owner, helper}
use Rattle.trace_model.specs.Frames.{Phase, idle, looking, claiming, looking_next, marking, clearing, opening}
use Rattle.trace_model.specs.Frames.{releasing, wishing, Frame, WriteFault}
use Rattle.trace_model.specs.Ring.{PageRecords, empty_page, Reader, Core}
use Rattle.trace_model.specs.Steps.{Event, pushes, pushes_close, steps, ends, reads, wishes, Answer, with_history_event}
use Rattle.trace_model.specs.Steps.{with_frame, in_phase, in_reserved, with_reservation, tail_page, held_with_payload}
use Rattle.trace_model.specs.Steps.{own_number, closing_phase, NeedsPage, after_leave, after_begin, Step}
use Rattle.trace_model.proofs.steps.StepCases.{StepCases, BeginsAgain, reserves, finds_nothing, is_crowded, is_worn}
use Rattle.trace_model.proofs.steps.StepCases.{notes, load_link_late, sees_free, sees_header, sees_update, claim_late}
use Rattle.trace_model.proofs.steps.StepCases.{claims, claim_fails, load_next_late, sees_normal, sees_other, mark_late}
use Rattle.trace_model.proofs.steps.StepCases.{marks, mark_fails, open_late, opens, IdleStep, FrameStep, PushRefused}
use Rattle.trace_model.proofs.steps.StepCases.{all_stand, has_no_room, comes_late, push_step, push_refused, close_step}
use Rattle.trace_model.proofs.steps.StepCases.{close_refused, frame_step, frame_lacks, end_step, end_lacks, end_early}
use Rattle.trace_model.proofs.steps.StepCases.{read_step, store_wish_step}
use Rattle.trace_model.proofs.steps.StepSound.{cases_of}
use Rattle.ring_model.specs.Seats.{PhaseIsPrivate, TopIsPrivate, IsPrivate, WordsStay}

-- ---- what a private step makes of the state

-- the state with other frames, another history and other contents of pages
abbrev pub private_state : Core → List Frame → List HistoryEvent → List PageRecords → Core
private_state c frames history held = record c { frames = frames; history = history; held = held }

-- The state after a private step: as it was; with a frame pushed; or the frame on top has reserved, goes on, or
-- leaves.
pub data PrivateResult (c after : Core) : Type 0 where
  stays : after ≡ c → PrivateResult c after
  pushed_one : (kind : Purpose) (history_event : HistoryEvent)
      → after ≡ with_history_event (with_frame c kind) history_event → PrivateResult c after
  reserved_one : (frame : Frame) (below : List Frame) (r : Reservation) (number : ℕ)
      → after ≡ in_reserved (with_reservation c r) frame below number → PrivateResult c after
  goes_on : (frame : Frame) (below : List Frame) (phase : Phase) → after ≡ in_phase c frame below phase
      → PrivateResult c after
  leaves : (frame : Frame) (below : List Frame) (payload : Option (List ℕ)) → c.frames ≡ frame ∷ below
      → after ≡ after_leave c frame below payload → PrivateResult c after

begin_result : (c : Core) (kind : Purpose) (state : Progress) (frame : Frame) (below : List Frame) (after : Core)
    → c.frames ≡ frame ∷ below → after ≡ after_begin kind state c frame below → PrivateResult c after
begin_result c (for_record moment len) waiting frame below after top is = goes_on frame below idle is
begin_result c for_close waiting frame below after top is = leaves frame below None top is
begin_result c kind (reserved number) frame below after top is = goes_on frame below idle is
begin_result c kind left frame below after top is = goes_on frame below (closing_phase c) is

module _ (n size : ℕ) (c : Core) (frame : Frame) (below : List Frame) (answer : Answer) (after : Core)
    (top : c.frames ≡ frame ∷ below) where
  again_result : (noted : ℕ) → BeginsAgain c frame below noted answer after → PrivateResult c after
  again_result noted step = begin_result c frame.kind frame.state frame below after top step.after_is

  idle_result : (state : Progress) → IdleStep n size c frame below state answer after → PrivateResult c after
  idle_result waiting (reserves moment len r kind r_is fits a is) =
      reserved_one frame below r (length (reserved_records c.history)) is
  idle_result waiting (finds_nothing kind none a is) = leaves frame below None top is
  idle_result waiting (is_crowded needs full a is) = leaves frame below None top is
  idle_result waiting (is_worn needs room last a is) = leaves frame below None top is
  idle_result waiting (notes needs room small a is) = goes_on frame below (looking c.opened) is
  idle_result (reserved number) step = stays step.1
  idle_result left step = absurd step

  frame_result : (phase : Phase) → PhaseIsPrivate phase c.opened → FrameStep n size c frame below phase answer after
      → PrivateResult c after
  frame_result idle own step = idle_result frame.state step
  frame_result (looking noted) own (load_link_late step) = again_result noted step
  frame_result (looking noted) own (sees_free page now at a is) = absurd (own now)
  frame_result (looking noted) own (sees_header page lost now sum at a is) = absurd (own now)
  frame_result (looking noted) own (sees_update page lost now sum at a is) = absurd (own now)
  frame_result (claiming noted page) own (claim_late step) = again_result noted step
  frame_result (claiming noted page) own (claims lost now sum at a is) = absurd (own now)
  frame_result (claiming noted page) own (claim_fails now other a is) = absurd (own now)
  frame_result (looking_next owner noted page) own step = absurd own
  frame_result (looking_next helper noted page) own (load_next_late helps step) = again_result noted step
  frame_result (looking_next helper noted page) own (sees_normal lost next on sum at a is) = absurd (own on)
  frame_result (looking_next helper noted page) own (sees_other lost on sum other a is) = absurd (own on)
  frame_result (marking owner noted page next) own step = absurd own
  frame_result (marking helper noted page next) own (mark_late helps step) = again_result noted step
  frame_result (marking helper noted page next) own (marks lost on sum at a is) = absurd (own on)
  frame_result (marking helper noted page next) own (mark_fails lost on sum other a is) = absurd (own on)
  frame_result (clearing noted page) own step = absurd own
  frame_result (opening noted page) own (open_late step) = again_result noted step
  frame_result (opening noted page) own (opens now a is) = absurd (own now)
  frame_result releasing own step = absurd own
  frame_result wishing own step = absurd own

pub private_result : (n size : ℕ) (c : Core) (event : Event) (answer : Answer) (after : Core) → IsPrivate c event
    → StepCases n size c event answer after → PrivateResult c after
private_result n size c event answer after own (push_step moment len e few short early a is) =
    pushed_one (for_record moment len) (push moment len) is
private_result n size c event answer after own (push_refused moment len why e refused a is) = stays is
private_result n size c event answer after own (close_step e few a is) = pushed_one for_close push_close is
private_result n size c event answer after own (close_refused e many a is) = stays is
private_result n size c event answer after own (frame_step frame below e top step) =
    frame_result n size c frame below answer after top frame.phase
    (subst (λ (fs : List Frame). TopIsPrivate fs c.opened) top (subst (IsPrivate c) e own)) step
private_result n size c event answer after own (frame_lacks e none a is) = stays is
private_result n size c event answer after own
    (end_step payload frame below number moment len e top at kind slot a is) =
    leaves frame below (Some payload) top is
private_result n size c event answer after own (end_lacks payload e none a is) = stays is
private_result n size c event answer after own (end_early payload frame below e top none a is) = stays is
private_result n size c event answer after own (read_step e step) = absurd (subst (IsPrivate c) e own)
private_result n size c event answer after own (store_wish_step e a is) = absurd (subst (IsPrivate c) e own)

-- frames, history and contents of pages alone are others
abbrev pub IsPrivateOf : Core → Core → Type 0
IsPrivateOf c after = after ≡ private_state c after.frames after.history after.held

pub changes_privately : (c after : Core) → PrivateResult c after → IsPrivateOf c after
changes_privately c after (stays is) = subst (IsPrivateOf c) (sym is) refl
changes_privately c after (pushed_one kind history_event is) = subst (IsPrivateOf c) (sym is) refl
changes_privately c after (reserved_one frame below r number is) = subst (IsPrivateOf c) (sym is) refl
changes_privately c after (goes_on frame below phase is) = subst (IsPrivateOf c) (sym is) refl
changes_privately c after (leaves frame below payload top is) = subst (IsPrivateOf c) (sym is) refl

pub private_touches_no_word : (n size : ℕ) (c : Core) (event : Event) (answer : Answer) (after : Core)
    → IsPrivate c event → Step n size c event answer after → WordsStay c after
private_touches_no_word n size c event answer after own step =
    let is =
    changes_privately c after (private_result n size c event answer after own (cases_of step)) in
    record {
      links = ap (λ (d : Core). d.links) is;
      spare_link = ap (λ (d : Core). d.spare_link) is;
      done = ap (λ (d : Core). d.done) is;
      opened = ap (λ (d : Core). d.opened) is;
      wish = ap (λ (d : Core). d.wish) is;
      head = ap (λ (d : Core). d.head) is;
    }

-- ---- the same step in another state

-- what a step of the reader may change, but for what pages hold
pub record ReaderWords : Type 0 where
  pub links : List Link
  pub spare_link : Link
  pub wish : ℕ
  pub head : ℕ
  pub order : List ℕ
  pub spare : ℕ
  pub reader : Reader

-- the state with these, and with other contents of pages
abbrev pub read_state : ReaderWords → (List PageRecords → List PageRecords) → Core → Core
read_state words turned c = record c {
  links = words.links;
  spare_link = words.spare_link;
  wish = words.wish;
  head = words.head;
  order = words.order;
  spare = words.spare;
  reader = words.reader;
  held = turned c.held;
}

-- the pages, with one record more in this one
abbrev pub held_reserved : List PageRecords → ℕ → Reservation → List PageRecords
held_reserved held page r =
    slice_set held page
    record {
      first = (slice_index_or held page empty_page).first;
      records = (slice_index_or held page empty_page).records ++ r ∷ [];
    }

-- it is the same whether the pages' contents change before a private step or after it
pub record TurnsAlike (turned : List PageRecords → List PageRecords) (c : Core) : Type 0 where
  pub ended : (number : Option ℕ) (payload : Option (List ℕ))
      → turned (map (held_with_payload number payload) c.held) ≡ map (held_with_payload number payload) (turned c.held)
  pub reserved : (r : Reservation)
      → turned (held_reserved c.held (tail_page c) r) ≡ held_reserved (turned c.held) (tail_page c) r

module _ (n size : ℕ) (words : ReaderWords) (turned : List PageRecords → List PageRecords) (c : Core)
    (alike : TurnsAlike turned c) where
  abbrev there : Core → Core
  there d = read_state words turned d

  leave_there : (frame : Frame) (below : List Frame) (payload : Option (List ℕ))
      → there (after_leave c frame below payload) ≡ after_leave (there c) frame below payload
  leave_there frame [] payload =
      ap (λ (b : List PageRecords). record (after_leave (there c) frame [] payload) { held = b })
      (alike.ended (own_number frame.kind frame.state) payload)
  leave_there frame (next ∷ below) payload =
      ap (λ (b : List PageRecords). record (after_leave (there c) frame (next ∷ below) payload) { held = b })
      (alike.ended (own_number frame.kind frame.state) payload)

  begin_there : (kind : Purpose) (state : Progress) (frame : Frame) (below : List Frame)
      → there (after_begin kind state c frame below) ≡ after_begin kind state (there c) frame below
  begin_there (for_record moment len) waiting frame below = refl
  begin_there for_close waiting frame below = leave_there frame below None
  begin_there kind (reserved number) frame below = refl
  begin_there kind left frame below = refl

  needs_there : (kind : Purpose) → NeedsPage size c kind → NeedsPage size (there c) kind
  needs_there (for_record moment len) needs = needs
  needs_there for_close needs = needs

  refused_there : (moment len : ℕ) (why : WriteFault) → PushRefused size c moment len why
      → PushRefused size (there c) moment len why
  refused_there moment len why (all_stand many) = all_stand many
  refused_there moment len why (has_no_room few long) = has_no_room few long
  refused_there moment len why (comes_late few short late) = comes_late few short late

  module _ (frame : Frame) (below : List Frame) (answer : Answer) (after : Core) where
    again_there : (noted : ℕ) → BeginsAgain c frame below noted answer after
        → BeginsAgain (there c) frame below noted answer (there after)
    again_there noted step =
        record {
          passed = step.passed;
          answer_is = step.answer_is;
          after_is = ap there step.after_is ∙ begin_there frame.kind frame.state frame below;
        }

    idle_there : (state : Progress) → IdleStep n size c frame below state answer after
        → IdleStep n size (there c) frame below state answer (there after)
    idle_there waiting (reserves moment len r kind r_is fits a is) = reserves moment len r kind r_is fits a
        (ap there is
        ∙ ap
        (λ (b : List PageRecords).
        record (in_reserved (with_reservation (there c) r) frame below (length (reserved_records c.history)))
        { held = b }) (alike.reserved r))
    idle_there waiting (finds_nothing kind none a is) =
        finds_nothing kind none a (ap there is ∙ leave_there frame below None)
    idle_there waiting (is_crowded needs full a is) =
        is_crowded (needs_there frame.kind needs) full a (ap there is ∙ leave_there frame below None)
    idle_there waiting (is_worn needs room last a is) =
        is_worn (needs_there frame.kind needs) room last a (ap there is ∙ leave_there frame below None)
    idle_there waiting (notes needs room small a is) = notes (needs_there frame.kind needs) room small a (ap there is)
    idle_there (reserved number) step = (step.0, ap there step.1)
    idle_there left step = absurd step

    frame_there : (phase : Phase) → PhaseIsPrivate phase c.opened → FrameStep n size c frame below phase answer after
        → FrameStep n size (there c) frame below phase answer (there after)
    frame_there idle own step = idle_there frame.state step
    frame_there (looking noted) own (load_link_late step) = load_link_late (again_there noted step)
    frame_there (looking noted) own (sees_free page now at a is) = absurd (own now)
    frame_there (looking noted) own (sees_header page lost now sum at a is) = absurd (own now)
    frame_there (looking noted) own (sees_update page lost now sum at a is) = absurd (own now)
    frame_there (claiming noted page) own (claim_late step) = claim_late (again_there noted step)
    frame_there (claiming noted page) own (claims lost now sum at a is) = absurd (own now)
    frame_there (claiming noted page) own (claim_fails now other a is) = absurd (own now)
    frame_there (looking_next owner noted page) own step = absurd own
    frame_there (looking_next helper noted page) own (load_next_late helps step) =
        load_next_late helps (again_there noted step)
    frame_there (looking_next helper noted page) own (sees_normal lost next on sum at a is) = absurd (own on)
    frame_there (looking_next helper noted page) own (sees_other lost on sum other a is) = absurd (own on)
    frame_there (marking owner noted page next) own step = absurd own
    frame_there (marking helper noted page next) own (mark_late helps step) = mark_late helps (again_there noted step)
    frame_there (marking helper noted page next) own (marks lost on sum at a is) = absurd (own on)
    frame_there (marking helper noted page next) own (mark_fails lost on sum other a is) = absurd (own on)
    frame_there (clearing noted page) own step = absurd own
    frame_there (opening noted page) own (open_late step) = open_late (again_there noted step)
    frame_there (opening noted page) own (opens now a is) = absurd (own now)
    frame_there releasing own step = absurd own
    frame_there wishing own step = absurd own

  pub private_step_there : (event : Event) (answer : Answer) (after : Core) → IsPrivate c event
      → StepCases n size c event answer after → StepCases n size (there c) event answer (there after)
  private_step_there event answer after own (push_step moment len e few short early a is) =
      push_step moment len e few short early a (ap there is)
  private_step_there event answer after own (push_refused moment len why e refused a is) =
      push_refused moment len why e (refused_there moment len why refused) a (ap there is)
  private_step_there event answer after own (close_step e few a is) = close_step e few a (ap there is)
  private_step_there event answer after own (close_refused e many a is) = close_refused e many a (ap there is)
  private_step_there event answer after own (frame_step frame below e top step) =
      frame_step frame below e top
      (frame_there frame below answer after frame.phase
      (subst (λ (fs : List Frame). TopIsPrivate fs c.opened) top (subst (IsPrivate c) e own)) step)
  private_step_there event answer after own (frame_lacks e none a is) = frame_lacks e none a (ap there is)
  private_step_there event answer after own (end_step payload frame below number moment len e top at kind slot a is) =
      end_step payload frame below number moment len e top at kind slot a
      (ap there is ∙ leave_there frame below (Some payload))
  private_step_there event answer after own (end_lacks payload e none a is) = end_lacks payload e none a (ap there is)
  private_step_there event answer after own (end_early payload frame below e top none a is) =
      end_early payload frame below e top none a (ap there is)
  private_step_there event answer after own (read_step e step) = absurd (subst (IsPrivate c) e own)
  private_step_there event answer after own (store_wish_step e a is) = absurd (subst (IsPrivate c) e own)

pub private_read : (words : ReaderWords) (turned : List PageRecords → List PageRecords) (c : Core) (event : Event)
    → IsPrivate c event → IsPrivate (read_state words turned c) event
private_read words turned c (pushes moment len) own = tt
private_read words turned c pushes_close own = tt
private_read words turned c steps own = own
private_read words turned c (ends payload) own = tt
private_read words turned c reads own = absurd own
private_read words turned c wishes own = absurd own
