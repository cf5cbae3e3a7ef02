-- A frame that is refused a page was about to reserve, and needed one.
use Rattle.std.proofs.Common.{◌≡◌, ℕ, List, [], ◌∷◌, refl, sym, subst}
use Rattle.trace_model.specs.Frames.{Purpose, for_record, for_close, Progress, waiting, reserved, left, Phase, idle}
use Rattle.trace_model.specs.Frames.{looking, claiming, looking_next, marking, clearing, opening, releasing, wishing}
use Rattle.trace_model.specs.Frames.{Frame, WriteFault, too_deep, too_long, late_moment, crowded, worn, no_frame}
use Rattle.trace_model.specs.Frames.{not_reserved}
use Rattle.trace_model.specs.Ring.{ReaderPhase, loading_head, loading_done, storing_spare_link, swapping, Core}
use Rattle.trace_model.specs.Steps.{Event, Answer, pushed, going, reserved_as, pending, full, gone, refused, reading}
use Rattle.trace_model.specs.Steps.{empty, moving, page_taken, wished_for, leave_answer, begin_answer, end_answer}
use Rattle.trace_model.proofs.steps.StepCases.{StepCases, PushRefused, all_stand, has_no_room, comes_late, BeginsAgain}
use Rattle.trace_model.proofs.steps.StepCases.{IdleStep, reserves, finds_nothing, is_crowded, is_worn, notes}
use Rattle.trace_model.proofs.steps.StepCases.{load_link_late, sees_free, sees_header, sees_update, claim_late, claims}
use Rattle.trace_model.proofs.steps.StepCases.{claim_fails, load_next_late, sees_normal, sees_other, mark_late, marks}
use Rattle.trace_model.proofs.steps.StepCases.{mark_fails, clears, open_late, opens, releases, releases_last, grants}
use Rattle.trace_model.proofs.steps.StepCases.{closes_more, goes_away, FrameStep, loads_header, loads_update}
use Rattle.trace_model.proofs.steps.StepCases.{loads_owed, loads_passed, finds_none, finds_closed, swaps, swap_fails}
use Rattle.trace_model.proofs.steps.StepCases.{ReadStep, push_step, push_refused, close_step, close_refused, frame_step}
use Rattle.trace_model.proofs.steps.StepCases.{frame_lacks, end_step, end_lacks, end_early, read_step, store_wish_step}
use Rattle.trace_model.proofs.steps.StepSound.{cases_of}
use Rattle.ring_model.specs.AnswerLaws.{IsInNeed}
use Rattle.line_model.specs.SingleFrames.{RefusedFramesNeedPages}

module _ (n size : ℕ) (c : Core) where
  abbrev DueRefusal : WriteFault → Type 0
  DueRefusal too_deep = Unit {0}
  DueRefusal too_long = Unit {0}
  DueRefusal late_moment = Unit {0}
  DueRefusal crowded = IsInNeed n size c
  DueRefusal worn = IsInNeed n size c
  DueRefusal no_frame = Unit {0}
  DueRefusal not_reserved = Unit {0}

  abbrev Due : Answer → Type 0
  Due pushed = Unit {0}
  Due going = Unit {0}
  Due (reserved_as number) = Unit {0}
  Due pending = Unit {0}
  Due full = Unit {0}
  Due gone = Unit {0}
  Due (refused why) = DueRefusal why
  Due reading = Unit {0}
  Due (empty done) = Unit {0}
  Due (moving fill) = Unit {0}
  Due (page_taken t) = Unit {0}
  Due (wished_for fill) = Unit {0}

  due : (answer a : Answer) → answer ≡ a → Due a → Due answer
  due answer a e d = subst Due (sym e) d

  leaves_due : (below : List Frame) → Due (leave_answer below)
  leaves_due [] = tt
  leaves_due (next ∷ below) = tt

  ends_due : (below : List Frame) → Due (end_answer below)
  ends_due [] = tt
  ends_due (next ∷ below) = tt

  begins_due : (kind : Purpose) (state : Progress) (below : List Frame) → Due (begin_answer kind state below)
  begins_due (for_record moment len) waiting below = tt
  begins_due for_close waiting below = leaves_due below
  begins_due kind (reserved number) below = tt
  begins_due kind left below = tt

  module _ (frame : Frame) (below : List Frame) (top : c.frames ≡ frame ∷ below) (answer : Answer) (after : Core) where
    again : (noted : ℕ) → BeginsAgain c frame below noted answer after → Due answer
    again noted step = due answer _ step.answer_is (begins_due frame.kind frame.state below)

    idle_due : (state : Progress)
        → frame.state ≡ state
        → frame.phase ≡ idle
        → IdleStep n size c frame below state answer after
        → Due answer
    idle_due waiting at rests (reserves moment len r kind r_is fits a is) = due answer _ a tt
    idle_due waiting at rests (finds_nothing kind nothing a is) = due answer _ a (leaves_due below)
    idle_due waiting at rests (is_crowded needs all a is) = due answer (refused crowded) a
        record { top = frame; below = below; is_top = top; waits = at; about = rests; needs = needs }
    idle_due waiting at rests (is_worn needs some last a is) = due answer (refused worn) a
        record { top = frame; below = below; is_top = top; waits = at; about = rests; needs = needs }
    idle_due waiting at rests (notes needs room small a is) = due answer _ a tt
    idle_due (reserved number) at rests step = due answer _ step.0 tt
    idle_due left at rests step = absurd step

    frame_due : (phase : Phase) → frame.phase ≡ phase → FrameStep n size c frame below phase answer after → Due answer
    frame_due idle rests step = idle_due frame.state refl rests step
    frame_due (looking noted) at (load_link_late step) = again noted step
    frame_due (looking noted) at (sees_free page now known a is) = due answer _ a tt
    frame_due (looking noted) at (sees_header page lost now sum known a is) = due answer _ a tt
    frame_due (looking noted) at (sees_update page lost now sum known a is) = due answer _ a tt
    frame_due (claiming noted page) at (claim_late step) = again noted step
    frame_due (claiming noted page) at (claims lost now sum known a is) = due answer _ a tt
    frame_due (claiming noted page) at (claim_fails now other a is) = due answer _ a tt
    frame_due (looking_next role noted page) at (load_next_late helps step) = again noted step
    frame_due (looking_next role noted page) at (sees_normal lost next on sum known a is) = due answer _ a tt
    frame_due (looking_next role noted page) at (sees_other lost on sum other a is) = due answer _ a tt
    frame_due (marking role noted page next) at (mark_late helps step) = again noted step
    frame_due (marking role noted page next) at (marks lost on sum known a is) = due answer _ a tt
    frame_due (marking role noted page next) at (mark_fails lost on sum other a is) = due answer _ a tt
    frame_due (clearing noted page) at (clears lost sum known a is) = due answer _ a tt
    frame_due (opening noted page) at (open_late step) = again noted step
    frame_due (opening noted page) at (opens now a is) = due answer _ a (begins_due frame.kind frame.state below)
    frame_due releasing at (releases alone more a is) = due answer _ a tt
    frame_due releasing at (releases_last alone last a is) = due answer _ a tt
    frame_due wishing at (grants alone granted a is) = due answer _ a tt
    frame_due wishing at (closes_more alone denied more a is) = due answer _ a tt
    frame_due wishing at (goes_away alone denied last a is) = due answer _ a tt

  push_due : (moment len : ℕ) (why : WriteFault) → PushRefused size c moment len why → DueRefusal why
  push_due moment len why (all_stand many) = tt
  push_due moment len why (has_no_room few long) = tt
  push_due moment len why (comes_late few fits tardy) = tt

  read_due : (phase : ReaderPhase) (answer : Answer) (after : Core) → ReadStep n c phase answer after → Due answer
  read_due loading_head answer after (loads_header page fill at a is) = due answer _ a tt
  read_due loading_head answer after (loads_update page lost at a is) = due answer _ a tt
  read_due loading_head answer after (loads_owed page at a is) = due answer _ a tt
  read_due loading_head answer after (loads_passed page fill least at more sum a is) = due answer _ a tt
  read_due (loading_done page fill) answer after (finds_none le a is) = due answer _ a tt
  read_due (loading_done page fill) answer after (finds_closed below a is) = due answer _ a tt
  read_due (storing_spare_link page fill) answer after step = due answer _ step.answer_is tt
  read_due (swapping page fill) answer after (swaps at a is) = due answer _ a tt
  read_due (swapping page fill) answer after (swap_fails at a is) = due answer _ a tt

  step_due : (event : Event) (answer : Answer) (after : Core) → StepCases n size c event answer after → Due answer
  step_due event answer after (push_step moment len e few fits early a is) = due answer _ a tt
  step_due event answer after (push_refused moment len why e denied a is) =
      due answer _ a (push_due moment len why denied)
  step_due event answer after (close_step e few a is) = due answer _ a tt
  step_due event answer after (close_refused e many a is) = due answer _ a tt
  step_due event answer after (frame_step frame below e top step) =
      frame_due frame below top answer after frame.phase refl step
  step_due event answer after (frame_lacks e nothing a is) = due answer _ a tt
  step_due event answer after (end_step payload frame below number moment len e top phase kind slot a is) =
      due answer _ a (ends_due below)
  step_due event answer after (end_lacks payload e nothing a is) = due answer _ a tt
  step_due event answer after (end_early payload frame below e top nothing a is) = due answer _ a tt
  step_due event answer after (read_step e step) = read_due c.reader.phase answer after step
  step_due event answer after (store_wish_step e a is) = due answer _ a tt

pub refused_frames_need_pages : RefusedFramesNeedPages
refused_frames_need_pages n size c event answer after step = (
  λ e. subst (Due n size c) e (step_due n size c event answer after (cases_of step)),
  λ e. subst (Due n size c) e (step_due n size c event answer after (cases_of step)),
)
