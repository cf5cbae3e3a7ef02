-- What each of a ring's two seats reads and changes: a step of the writer reads nothing of the reader's part, and
-- leaves it; a step of the reader leaves the writer's part; and a private step of the writer touches no word.
use Rattle.std.proofs.Common.{◌≡◌, ℕ, List, [], ◌∷◌, Option, Some, None, refl, sym, ap, ◌∙◌, subst}
use Rattle.trace_model.specs.Frames.{Purpose, for_record, for_close, Progress, waiting, reserved, left, Phase, idle}
use Rattle.trace_model.specs.Frames.{looking, claiming, looking_next, marking, clearing, opening, releasing, wishing}
use Rattle.trace_model.specs.Frames.{Frame, WriteFault}
use Rattle.trace_model.specs.Ring.{ReaderPhase, loading_head, loading_done, storing_spare_link, swapping, Core}
use Rattle.trace_model.specs.Steps.{Event, Answer, NeedsPage, with_new_tail, after_leave, after_begin, IsGranted, Step}
use Rattle.trace_model.proofs.steps.StepCases.{StepCases, BeginsAgain, reserves, finds_nothing, is_crowded, is_worn}
use Rattle.trace_model.proofs.steps.StepCases.{notes, load_link_late, sees_free, sees_header, sees_update, claim_late}
use Rattle.trace_model.proofs.steps.StepCases.{claims, claim_fails, load_next_late, sees_normal, sees_other, mark_late}
use Rattle.trace_model.proofs.steps.StepCases.{marks, mark_fails, clears, open_late, opens, releases, releases_last}
use Rattle.trace_model.proofs.steps.StepCases.{grants, closes_more, goes_away, IdleStep, FrameStep, loads_header}
use Rattle.trace_model.proofs.steps.StepCases.{loads_update, loads_owed, loads_passed, finds_none, finds_closed, swaps}
use Rattle.trace_model.proofs.steps.StepCases.{swap_fails, ReadStep, PushRefused, all_stand, has_no_room, comes_late}
use Rattle.trace_model.proofs.steps.StepCases.{push_step, push_refused, close_step, close_refused, frame_step}
use Rattle.trace_model.proofs.steps.StepCases.{frame_lacks, end_step, end_lacks, end_early, read_step, store_wish_step}
use Rattle.trace_model.proofs.steps.StepSound.{cases_of}
use Rattle.ring_model.specs.Seats.{IsOfReader, ReaderPart, seen_by, WriterPart, written_by, WriterStays, ReaderStays}

-- ---- the writer reads nothing of the reader's part

module _ (n size : ℕ) (part : ReaderPart) where
  leave_seen : (c : Core) (frame : Frame) (below : List Frame) (payload : Option (List ℕ))
      → seen_by part (after_leave c frame below payload) ≡ after_leave (seen_by part c) frame below payload
  leave_seen c frame [] payload = refl
  leave_seen c frame (next ∷ below) payload = refl

  begin_seen : (kind : Purpose) (state : Progress) (c : Core) (frame : Frame) (below : List Frame)
      → seen_by part (after_begin kind state c frame below) ≡ after_begin kind state (seen_by part c) frame below
  begin_seen (for_record moment len) waiting c frame below = refl
  begin_seen for_close waiting c frame below = leave_seen c frame below None
  begin_seen kind (reserved number) c frame below = refl
  begin_seen kind left c frame below = refl

  needs_seen : (c : Core) (kind : Purpose) → NeedsPage size c kind → NeedsPage size (seen_by part c) kind
  needs_seen c (for_record moment len) needs = needs
  needs_seen c for_close needs = needs

  granted_seen : (c : Core) → IsGranted n c → IsGranted n (seen_by part c)
  granted_seen c g = record { asks_tail = g.asks_tail; holds_record = g.holds_record; numbers_left = g.numbers_left }

  granted_before : (c : Core) → IsGranted n (seen_by part c) → IsGranted n c
  granted_before c g = record { asks_tail = g.asks_tail; holds_record = g.holds_record; numbers_left = g.numbers_left }

  refused_seen : (c : Core) (moment len : ℕ) (why : WriteFault) → PushRefused size c moment len why
      → PushRefused size (seen_by part c) moment len why
  refused_seen c moment len why (all_stand many) = all_stand many
  refused_seen c moment len why (has_no_room few long) = has_no_room few long
  refused_seen c moment len why (comes_late few short late) = comes_late few short late

  module _ (c : Core) (frame : Frame) (below : List Frame) (answer : Answer) (after : Core) where
    again_seen : (noted : ℕ) → BeginsAgain c frame below noted answer after
        → BeginsAgain (seen_by part c) frame below noted answer (seen_by part after)
    again_seen noted step =
        record {
          passed = step.passed;
          answer_is = step.answer_is;
          after_is = ap (seen_by part) step.after_is ∙ begin_seen frame.kind frame.state c frame below;
        }

    leaves_seen : after ≡ after_leave c frame below None
        → seen_by part after ≡ after_leave (seen_by part c) frame below None
    leaves_seen is = ap (seen_by part) is ∙ leave_seen c frame below None

    idle_seen : (state : Progress) → IdleStep n size c frame below state answer after
        → IdleStep n size (seen_by part c) frame below state answer (seen_by part after)
    idle_seen waiting (reserves moment len r kind r_is fits a is) =
        reserves moment len r kind r_is fits a (ap (seen_by part) is)
    idle_seen waiting (finds_nothing kind none a is) = finds_nothing kind none a (leaves_seen is)
    idle_seen waiting (is_crowded needs full a is) = is_crowded (needs_seen c frame.kind needs) full a (leaves_seen is)
    idle_seen waiting (is_worn needs room last a is) =
        is_worn (needs_seen c frame.kind needs) room last a (leaves_seen is)
    idle_seen waiting (notes needs room small a is) =
        notes (needs_seen c frame.kind needs) room small a (ap (seen_by part) is)
    idle_seen (reserved number) step = (step.0, ap (seen_by part) step.1)
    idle_seen left step = absurd step

    frame_seen : (phase : Phase) → FrameStep n size c frame below phase answer after
        → FrameStep n size (seen_by part c) frame below phase answer (seen_by part after)
    frame_seen idle step = idle_seen frame.state step
    frame_seen (looking noted) (load_link_late step) = load_link_late (again_seen noted step)
    frame_seen (looking noted) (sees_free page now at a is) = sees_free page now at a (ap (seen_by part) is)
    frame_seen (looking noted) (sees_header page lost now sum at a is) =
        sees_header page lost now sum at a (ap (seen_by part) is)
    frame_seen (looking noted) (sees_update page lost now sum at a is) =
        sees_update page lost now sum at a (ap (seen_by part) is)
    frame_seen (claiming noted page) (claim_late step) = claim_late (again_seen noted step)
    frame_seen (claiming noted page) (claims lost now sum at a is) = claims lost now sum at a (ap (seen_by part) is)
    frame_seen (claiming noted page) (claim_fails now other a is) = claim_fails now other a (ap (seen_by part) is)
    frame_seen (looking_next role noted page) (load_next_late helps step) = load_next_late helps (again_seen noted step)
    frame_seen (looking_next role noted page) (sees_normal lost next on sum at a is) =
        sees_normal lost next on sum at a (ap (seen_by part) is)
    frame_seen (looking_next role noted page) (sees_other lost on sum other a is) =
        sees_other lost on sum other a (ap (seen_by part) is)
    frame_seen (marking role noted page next) (mark_late helps step) = mark_late helps (again_seen noted step)
    frame_seen (marking role noted page next) (marks lost on sum at a is) =
        marks lost on sum at a (ap (seen_by part) is)
    frame_seen (marking role noted page next) (mark_fails lost on sum other a is) =
        mark_fails lost on sum other a (ap (seen_by part) is)
    frame_seen (clearing noted page) (clears lost sum at a is) = clears lost sum at a (ap (seen_by part) is)
    frame_seen (opening noted page) (open_late step) = open_late (again_seen noted step)
    frame_seen (opening noted page) (opens now a is) =
        opens now a (ap (seen_by part) is ∙ begin_seen frame.kind frame.state (with_new_tail c page) frame below)
    frame_seen releasing (releases alone more a is) = releases alone more a (ap (seen_by part) is)
    frame_seen releasing (releases_last alone last a is) = releases_last alone last a (ap (seen_by part) is)
    frame_seen wishing (grants alone granted a is) = grants alone (granted_seen c granted) a (ap (seen_by part) is)
    frame_seen wishing (closes_more alone denied more a is) =
        closes_more alone (λ g. denied (granted_before c g)) more a (ap (seen_by part) is)
    frame_seen wishing (goes_away alone denied last a is) =
        goes_away alone (λ g. denied (granted_before c g)) last a (ap (seen_by part) is)

pub writer_reads_no_reader : (n size : ℕ) (c : Core) (event : Event) (answer : Answer) (after : Core)
    (part : ReaderPart) → (IsOfReader event → ⊥) → StepCases n size c event answer after
    → StepCases n size (seen_by part c) event answer (seen_by part after)
writer_reads_no_reader n size c event answer after part writes (push_step moment len e few short early a is) =
    push_step moment len e few short early a (ap (seen_by part) is)
writer_reads_no_reader n size c event answer after part writes (push_refused moment len why e refused a is) =
    push_refused moment len why e (refused_seen n size part c moment len why refused) a (ap (seen_by part) is)
writer_reads_no_reader n size c event answer after part writes (close_step e few a is) =
    close_step e few a (ap (seen_by part) is)
writer_reads_no_reader n size c event answer after part writes (close_refused e many a is) =
    close_refused e many a (ap (seen_by part) is)
writer_reads_no_reader n size c event answer after part writes (frame_step frame below e top step) =
    frame_step frame below e top (frame_seen n size part c frame below answer after frame.phase step)
writer_reads_no_reader n size c event answer after part writes (frame_lacks e none a is) =
    frame_lacks e none a (ap (seen_by part) is)
writer_reads_no_reader n size c event answer after part writes
    (end_step payload frame below number moment len e top at kind slot a is) =
    end_step payload frame below number moment len e top at kind slot a
    (ap (seen_by part) is ∙ leave_seen n size part c frame below (Some payload))
writer_reads_no_reader n size c event answer after part writes (end_lacks payload e none a is) =
    end_lacks payload e none a (ap (seen_by part) is)
writer_reads_no_reader n size c event answer after part writes (end_early payload frame below e top none a is) =
    end_early payload frame below e top none a (ap (seen_by part) is)
writer_reads_no_reader n size c event answer after part writes (read_step e step) =
    absurd (writes (subst IsOfReader (sym e) tt))
writer_reads_no_reader n size c event answer after part writes (store_wish_step e a is) =
    absurd (writes (subst IsOfReader (sym e) tt))

-- ---- the writer leaves it

record ReaderSide : Type 0 where
  part : ReaderPart
  wish : ℕ

reader_side : Core → ReaderSide
reader_side c =
    record {
      part = record { order = c.order; spare = c.spare; spare_link = c.spare_link; reader = c.reader };
      wish = c.wish;
    }

module _ (n size : ℕ) where
  begin_side : (kind : Purpose) (state : Progress) (c : Core) (frame : Frame) (below : List Frame)
      → reader_side (after_begin kind state c frame below) ≡ reader_side c
  unfolding reader_side
  begin_side (for_record moment len) waiting c frame below = refl
  begin_side for_close waiting c frame below = refl
  begin_side kind (reserved number) c frame below = refl
  begin_side kind left c frame below = refl

  module _ (c : Core) (frame : Frame) (below : List Frame) (answer : Answer) (after : Core) where
    again_side : (noted : ℕ) → BeginsAgain c frame below noted answer after → reader_side after ≡ reader_side c
    again_side noted step = ap reader_side step.after_is ∙ begin_side frame.kind frame.state c frame below

    idle_side : (state : Progress) → IdleStep n size c frame below state answer after
        → reader_side after ≡ reader_side c
    unfolding reader_side
    idle_side waiting (reserves moment len r kind r_is fits a is) = ap reader_side is
    idle_side waiting (finds_nothing kind none a is) = ap reader_side is
    idle_side waiting (is_crowded needs full a is) = ap reader_side is
    idle_side waiting (is_worn needs room last a is) = ap reader_side is
    idle_side waiting (notes needs room small a is) = ap reader_side is
    idle_side (reserved number) step = ap reader_side step.1
    idle_side left step = absurd step

    frame_side : (phase : Phase) → FrameStep n size c frame below phase answer after → reader_side after ≡ reader_side c
    unfolding reader_side
    frame_side idle step = idle_side frame.state step
    frame_side (looking noted) (load_link_late step) = again_side noted step
    frame_side (looking noted) (sees_free page now at a is) = ap reader_side is
    frame_side (looking noted) (sees_header page lost now sum at a is) = ap reader_side is
    frame_side (looking noted) (sees_update page lost now sum at a is) = ap reader_side is
    frame_side (claiming noted page) (claim_late step) = again_side noted step
    frame_side (claiming noted page) (claims lost now sum at a is) = ap reader_side is
    frame_side (claiming noted page) (claim_fails now other a is) = ap reader_side is
    frame_side (looking_next role noted page) (load_next_late helps step) = again_side noted step
    frame_side (looking_next role noted page) (sees_normal lost next on sum at a is) = ap reader_side is
    frame_side (looking_next role noted page) (sees_other lost on sum other a is) = ap reader_side is
    frame_side (marking role noted page next) (mark_late helps step) = again_side noted step
    frame_side (marking role noted page next) (marks lost on sum at a is) = ap reader_side is
    frame_side (marking role noted page next) (mark_fails lost on sum other a is) = ap reader_side is
    frame_side (clearing noted page) (clears lost sum at a is) = ap reader_side is
    frame_side (opening noted page) (open_late step) = again_side noted step
    frame_side (opening noted page) (opens now a is) =
        ap reader_side is ∙ begin_side frame.kind frame.state (with_new_tail c page) frame below
    frame_side releasing (releases alone more a is) = ap reader_side is
    frame_side releasing (releases_last alone last a is) = ap reader_side is
    frame_side wishing (grants alone granted a is) = ap reader_side is
    frame_side wishing (closes_more alone denied more a is) = ap reader_side is
    frame_side wishing (goes_away alone denied last a is) = ap reader_side is

  step_side : (c : Core) (event : Event) (answer : Answer) (after : Core) → (IsOfReader event → ⊥)
      → StepCases n size c event answer after → reader_side after ≡ reader_side c
  unfolding reader_side
  step_side c event answer after writes (push_step moment len e few short early a is) = ap reader_side is
  step_side c event answer after writes (push_refused moment len why e refused a is) = ap reader_side is
  step_side c event answer after writes (close_step e few a is) = ap reader_side is
  step_side c event answer after writes (close_refused e many a is) = ap reader_side is
  step_side c event answer after writes (frame_step frame below e top step) =
      frame_side c frame below answer after frame.phase step
  step_side c event answer after writes (frame_lacks e none a is) = ap reader_side is
  step_side c event answer after writes (end_step payload frame below number moment len e top at kind slot a is) =
      ap reader_side is
  step_side c event answer after writes (end_lacks payload e none a is) = ap reader_side is
  step_side c event answer after writes (end_early payload frame below e top none a is) = ap reader_side is
  step_side c event answer after writes (read_step e step) = absurd (writes (subst IsOfReader (sym e) tt))
  step_side c event answer after writes (store_wish_step e a is) = absurd (writes (subst IsOfReader (sym e) tt))

pub writer_leaves_reader : (n size : ℕ) (c : Core) (event : Event) (answer : Answer) (after : Core)
    → (IsOfReader event → ⊥) → Step n size c event answer after → ReaderStays c after
unfolding reader_side
writer_leaves_reader n size c event answer after writes step =
    let same =
    step_side n size c event answer after writes (cases_of step) in
    record {
      order = ap (λ (s : ReaderSide). s.part.order) same;
      spare = ap (λ (s : ReaderSide). s.part.spare) same;
      spare_link = ap (λ (s : ReaderSide). s.part.spare_link) same;
      reader = ap (λ (s : ReaderSide). s.part.reader) same;
      wish = ap (λ (s : ReaderSide). s.wish) same;
    }

-- ---- the reader leaves the writer's part

stays : (c next after : Core) → next.frames ≡ c.frames → next.open_pages ≡ c.open_pages → next.history ≡ c.history
    → next.done ≡ c.done → next.opened ≡ c.opened → after ≡ next → WriterStays c after
stays c next after frames open_pages history done opened is =
    subst (WriterStays c) (sym is)
    record { frames = frames; open_pages = open_pages; history = history; done = done; opened = opened }

read_leaves : (n : ℕ) (c : Core) (phase : ReaderPhase) (answer : Answer) (after : Core)
    → ReadStep n c phase answer after → WriterStays c after
read_leaves n c loading_head answer after (loads_header page fill at a is) = stays c _ after refl refl refl refl refl is
read_leaves n c loading_head answer after (loads_update page lost at a is) = stays c _ after refl refl refl refl refl is
read_leaves n c loading_head answer after (loads_owed page at a is) = stays c _ after refl refl refl refl refl is
read_leaves n c loading_head answer after (loads_passed page fill least at more sum a is) =
    stays c _ after refl refl refl refl refl is
read_leaves n c (loading_done page fill) answer after (finds_none le a is) = stays c _ after refl refl refl refl refl is
read_leaves n c (loading_done page fill) answer after (finds_closed below a is) =
    stays c _ after refl refl refl refl refl is
read_leaves n c (storing_spare_link page fill) answer after step =
    stays c _ after refl refl refl refl refl step.after_is
read_leaves n c (swapping page fill) answer after (swaps at a is) = stays c _ after refl refl refl refl refl is
read_leaves n c (swapping page fill) answer after (swap_fails at a is) = stays c _ after refl refl refl refl refl is

pub reader_leaves_writer : (n size : ℕ) (c : Core) (event : Event) (answer : Answer) (after : Core) → IsOfReader event
    → StepCases n size c event answer after → WriterStays c after
reader_leaves_writer n size c event answer after reads (push_step moment len e few short early a is) =
    absurd (subst IsOfReader e reads)
reader_leaves_writer n size c event answer after reads (push_refused moment len why e refused a is) =
    absurd (subst IsOfReader e reads)
reader_leaves_writer n size c event answer after reads (close_step e few a is) = absurd (subst IsOfReader e reads)
reader_leaves_writer n size c event answer after reads (close_refused e many a is) = absurd (subst IsOfReader e reads)
reader_leaves_writer n size c event answer after reads (frame_step frame below e top step) =
    absurd (subst IsOfReader e reads)
reader_leaves_writer n size c event answer after reads (frame_lacks e none a is) = absurd (subst IsOfReader e reads)
reader_leaves_writer n size c event answer after reads
    (end_step payload frame below number moment len e top at kind slot a is) =
    absurd (subst IsOfReader e reads)
reader_leaves_writer n size c event answer after reads (end_lacks payload e none a is) =
    absurd (subst IsOfReader e reads)
reader_leaves_writer n size c event answer after reads (end_early payload frame below e top none a is) =
    absurd (subst IsOfReader e reads)
reader_leaves_writer n size c event answer after reads (read_step e step) =
    read_leaves n c c.reader.phase answer after step
reader_leaves_writer n size c event answer after reads (store_wish_step e a is) =
    stays c _ after refl refl refl refl refl is

-- ---- and it reads nothing of that

module _ (n : ℕ) (part : WriterPart) (c : Core) (answer : Answer) (after : Core) where
  read_beside : (phase : ReaderPhase) → ReadStep n c phase answer after
      → ReadStep n (written_by part c) phase answer (written_by part after)
  read_beside loading_head (loads_header page fill at a is) = loads_header page fill at a (ap (written_by part) is)
  read_beside loading_head (loads_update page lost at a is) = loads_update page lost at a (ap (written_by part) is)
  read_beside loading_head (loads_owed page at a is) = loads_owed page at a (ap (written_by part) is)
  read_beside loading_head (loads_passed page fill least at more sum a is) =
      loads_passed page fill least at more sum a (ap (written_by part) is)
  read_beside (loading_done page fill) (finds_none le a is) = finds_none le a (ap (written_by part) is)
  read_beside (loading_done page fill) (finds_closed below a is) = finds_closed below a (ap (written_by part) is)
  read_beside (storing_spare_link page fill) step =
      record { answer_is = step.answer_is; after_is = ap (written_by part) step.after_is }
  read_beside (swapping page fill) (swaps at a is) = swaps at a (ap (written_by part) is)
  read_beside (swapping page fill) (swap_fails at a is) = swap_fails at a (ap (written_by part) is)

pub reader_reads_no_writer : (n size : ℕ) (c : Core) (event : Event) (answer : Answer) (after : Core)
    (part : WriterPart) → IsOfReader event → StepCases n size c event answer after
    → StepCases n size (written_by part c) event answer (written_by part after)
reader_reads_no_writer n size c event answer after part reads (push_step moment len e few short early a is) =
    absurd (subst IsOfReader e reads)
reader_reads_no_writer n size c event answer after part reads (push_refused moment len why e refused a is) =
    absurd (subst IsOfReader e reads)
reader_reads_no_writer n size c event answer after part reads (close_step e few a is) =
    absurd (subst IsOfReader e reads)
reader_reads_no_writer n size c event answer after part reads (close_refused e many a is) =
    absurd (subst IsOfReader e reads)
reader_reads_no_writer n size c event answer after part reads (frame_step frame below e top step) =
    absurd (subst IsOfReader e reads)
reader_reads_no_writer n size c event answer after part reads (frame_lacks e none a is) =
    absurd (subst IsOfReader e reads)
reader_reads_no_writer n size c event answer after part reads
    (end_step payload frame below number moment len e top at kind slot a is) =
    absurd (subst IsOfReader e reads)
reader_reads_no_writer n size c event answer after part reads (end_lacks payload e none a is) =
    absurd (subst IsOfReader e reads)
reader_reads_no_writer n size c event answer after part reads (end_early payload frame below e top none a is) =
    absurd (subst IsOfReader e reads)
reader_reads_no_writer n size c event answer after part reads (read_step e step) =
    read_step e (read_beside n part c answer after c.reader.phase step)
reader_reads_no_writer n size c event answer after part reads (store_wish_step e a is) =
    store_wish_step e a (ap (written_by part) is)
