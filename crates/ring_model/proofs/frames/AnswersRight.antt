-- What each answer of a ring says of its state.
use Rattle.std.proofs.Common.{◌≡◌, ℕ, suc, ◌+◌, ◌%◌, ◌<◌, ◌≤◌, List, [], ◌∷◌, ◌++◌, get_or, refl, sym, ap, ◌∙◌, subst}
use Rattle.std.proofs.Common.{inl, inr, ◌⊎◌, mod-lt, arith}
use mathlib.Core.Logic.{dite}
use native.Mathlib.Decide.{dec_le}
use Rattle.trace_model.specs.declared.limits.TheConstants.{LINK_FILLS}
use Rattle.trace_model.specs.Frames.{Purpose, for_record, for_close, Progress, waiting, reserved, left, Phase, idle}
use Rattle.trace_model.specs.Frames.{looking, claiming, looking_next, marking, clearing, opening, releasing, wishing}
use Rattle.trace_model.specs.Frames.{Frame, WriteFault, too_deep, too_long, late_moment, crowded, worn, no_frame}
use Rattle.trace_model.specs.Frames.{not_reserved}
use Rattle.trace_model.specs.Links.{Link, normal_link, update_link}
use Rattle.trace_model.specs.Ring.{link_into, page_at, IsTaken, ReaderPhase, loading_head, loading_done}
use Rattle.trace_model.specs.Ring.{storing_spare_link, swapping, TakenFill, Core}
use Rattle.trace_model.specs.Steps.{Event, Answer, pushed, going, reserved_as, pending, full, gone, refused, reading}
use Rattle.trace_model.specs.Steps.{empty, moving, page_taken, wished_for, leave_answer, begin_answer, end_answer, Step}
use Rattle.trace_model.proofs.steps.StepCases.{StepCases, BeginsAgain, reserves, finds_nothing, is_crowded, is_worn}
use Rattle.trace_model.proofs.steps.StepCases.{notes, load_link_late, sees_free, sees_header, sees_update, claim_late}
use Rattle.trace_model.proofs.steps.StepCases.{claims, claim_fails, load_next_late, sees_normal, sees_other, mark_late}
use Rattle.trace_model.proofs.steps.StepCases.{marks, mark_fails, clears, open_late, opens, releases, releases_last}
use Rattle.trace_model.proofs.steps.StepCases.{grants, closes_more, goes_away, IdleStep, FrameStep, PushRefused}
use Rattle.trace_model.proofs.steps.StepCases.{all_stand, has_no_room, comes_late, push_step, push_refused, close_step}
use Rattle.trace_model.proofs.steps.StepCases.{close_refused, frame_step, frame_lacks, end_step, end_lacks, end_early}
use Rattle.trace_model.proofs.steps.StepCases.{read_step, store_wish_step, loads_header, loads_update, loads_owed}
use Rattle.trace_model.proofs.steps.StepCases.{loads_passed, finds_none, finds_closed, swaps, swap_fails, ReadStep}
use Rattle.trace_model.proofs.steps.StepSound.{cases_of}
use Rattle.ring_model.specs.KeptLinks.{HasMover, LinkKept, is_normal, is_header, is_update, ReaderKept}
use Rattle.ring_model.specs.RingKept.{IsRingKept}
use Rattle.ring_model.specs.AnswerLaws.{ArePassed, IsInTheWay}
use Rattle.trace_model.proofs.Positions.{at_position, one_position}
use Rattle.ring_model.proofs.links.FramePhases.{normal_ne_header, normal_ne_update}
use Rattle.ring_model.proofs.links.LinkFills.{normal_reports, header_reports, update_reports, owned_by, fill_at}
use Rattle.ring_model.proofs.partition.RingsKept.{stands_moved, is_ring}

-- ---- of a frame

abbrev Refused : ℕ → Core → WriteFault → Type 0
Refused n c too_deep = Unit {0}
Refused n c too_long = Unit {0}
Refused n c late_moment = Unit {0}
Refused n c crowded = c.opened ≡ c.done + n
Refused n c worn = (LINK_FILLS ≤ c.opened + n) × (c.opened ≡ c.done + n → ⊥)
Refused n c no_frame = Unit {0}
Refused n c not_reserved = Unit {0}

-- what an answer says, of those that say something
abbrev Says : (n : ℕ) (c : Core) (none : ℕ → Type 0) (way : ℕ → Type 0) (took : TakenFill → Type 0) → Answer → Type 0
Says n c none way took pushed = Unit {0}
Says n c none way took going = Unit {0}
Says n c none way took (reserved_as number) = Unit {0}
Says n c none way took pending = Unit {0}
Says n c none way took full = Unit {0}
Says n c none way took gone = Unit {0}
Says n c none way took (refused why) = Refused n c why
Says n c none way took reading = Unit {0}
Says n c none way took (empty done) = none done
Says n c none way took (moving fill) = way fill
Says n c none way took (page_taken t) = took t
Says n c none way took (wished_for fill) = Unit {0}

module _ (n size : ℕ) (c : Core) (none : ℕ → Type 0) (way : ℕ → Type 0) (took : TakenFill → Type 0) where
  abbrev IsTrueOf : Answer → Type 0
  IsTrueOf answer = Says n c none way took answer

  says : (answer a : Answer) → answer ≡ a → IsTrueOf a → IsTrueOf answer
  says answer a e t = subst IsTrueOf (sym e) t

  leaves_true : (below : List Frame) → IsTrueOf (leave_answer below)
  leaves_true [] = tt
  leaves_true (next ∷ below) = tt

  begun_true : (kind : Purpose) (state : Progress) (below : List Frame) → IsTrueOf (begin_answer kind state below)
  begun_true (for_record moment len) waiting below = tt
  begun_true for_close waiting below = leaves_true below
  begun_true kind (reserved number) below = tt
  begun_true kind left below = tt

  again : (frame : Frame) (below : List Frame) (noted : ℕ) (answer : Answer) (after : Core)
      → BeginsAgain c frame below noted answer after → IsTrueOf answer
  again frame below noted answer after step =
      says answer (begin_answer frame.kind frame.state below) step.answer_is (begun_true frame.kind frame.state below)

  idle_true : (frame : Frame) (below : List Frame) (state : Progress) (answer : Answer) (after : Core)
      → IdleStep n size c frame below state answer after → IsTrueOf answer
  idle_true frame below waiting answer after (reserves moment len r kind r_is fits a is) = says answer _ a tt
  idle_true frame below waiting answer after (finds_nothing kind nothing a is) =
      says answer (leave_answer below) a (leaves_true below)
  idle_true frame below waiting answer after (is_crowded needs all a is) = says answer (refused crowded) a all
  idle_true frame below waiting answer after (is_worn needs some last a is) = says answer (refused worn) a (last, some)
  idle_true frame below waiting answer after (notes needs room small a is) = says answer going a tt
  idle_true frame below (reserved number) answer after step = says answer (reserved_as number) step.0 tt
  idle_true frame below left answer after step = absurd step

  frame_true : (frame : Frame) (below : List Frame) (phase : Phase) (answer : Answer) (after : Core)
      → FrameStep n size c frame below phase answer after → IsTrueOf answer
  frame_true frame below idle answer after step = idle_true frame below frame.state answer after step
  frame_true frame below (looking noted) answer after (load_link_late step) = again frame below noted answer after step
  frame_true frame below (looking noted) answer after (sees_free page now at a is) = says answer going a tt
  frame_true frame below (looking noted) answer after (sees_header page lost now sum at a is) = says answer going a tt
  frame_true frame below (looking noted) answer after (sees_update page lost now sum at a is) = says answer going a tt
  frame_true frame below (claiming noted page) answer after (claim_late step) =
      again frame below noted answer after step
  frame_true frame below (claiming noted page) answer after (claims lost now sum at a is) = says answer going a tt
  frame_true frame below (claiming noted page) answer after (claim_fails now other a is) = says answer going a tt
  frame_true frame below (looking_next role noted page) answer after (load_next_late helps step) =
      again frame below noted answer after step
  frame_true frame below (looking_next role noted page) answer after (sees_normal lost next goes_on sum at a is) =
      says answer going a tt
  frame_true frame below (looking_next role noted page) answer after (sees_other lost goes_on sum other a is) =
      says answer going a tt
  frame_true frame below (marking role noted page next) answer after (mark_late helps step) =
      again frame below noted answer after step
  frame_true frame below (marking role noted page next) answer after (marks lost goes_on sum at a is) =
      says answer going a tt
  frame_true frame below (marking role noted page next) answer after (mark_fails lost goes_on sum other a is) =
      says answer going a tt
  frame_true frame below (clearing noted page) answer after (clears lost sum at a is) = says answer going a tt
  frame_true frame below (opening noted page) answer after (open_late step) = again frame below noted answer after step
  frame_true frame below (opening noted page) answer after (opens now a is) =
      says answer (begin_answer frame.kind frame.state below) a (begun_true frame.kind frame.state below)
  frame_true frame below releasing answer after (releases alone more a is) = says answer going a tt
  frame_true frame below releasing answer after (releases_last alone last a is) = says answer going a tt
  frame_true frame below wishing answer after (grants alone granted a is) = says answer going a tt
  frame_true frame below wishing answer after (closes_more alone denied more a is) = says answer going a tt
  frame_true frame below wishing answer after (goes_away alone denied last a is) = says answer gone a tt

  push_true : (moment len : ℕ) (why : WriteFault) → PushRefused size c moment len why → Refused n c why
  push_true moment len why (all_stand many) = tt
  push_true moment len why (has_no_room few long) = tt
  push_true moment len why (comes_late few fits late) = tt

  ended_true : (below : List Frame) → IsTrueOf (end_answer below)
  ended_true [] = tt
  ended_true (next ∷ below) = tt

  pub step_true : (event : Event) (answer : Answer) (after : Core)
      → (ReadStep n c c.reader.phase answer after → IsTrueOf answer) → StepCases n size c event answer after
      → IsTrueOf answer
  step_true event answer after reads (push_step moment len e few fits early a is) = says answer pushed a tt
  step_true event answer after reads (push_refused moment len why e refuses a is) =
      says answer (refused why) a (push_true moment len why refuses)
  step_true event answer after reads (close_step e few a is) = says answer pushed a tt
  step_true event answer after reads (close_refused e many a is) = says answer (refused too_deep) a tt
  step_true event answer after reads (frame_step frame below e top step) =
      frame_true frame below frame.phase answer after step
  step_true event answer after reads (frame_lacks e nothing a is) = says answer (refused no_frame) a tt
  step_true event answer after reads (end_step payload frame below number moment len e top phase kind slot a is) =
      says answer (end_answer below) a (ended_true below)
  step_true event answer after reads (end_lacks payload e nothing a is) = says answer (refused no_frame) a tt
  step_true event answer after reads (end_early payload frame below e top nothing a is) =
      says answer (refused not_reserved) a tt
  step_true event answer after reads (read_step e step) = reads step
  step_true event answer after reads (store_wish_step e a is) = says answer (wished_for c.reader.seen) a tt

-- ---- of the reader

read_any : (n : ℕ) (c : Core) (phase : ReaderPhase) (answer : Answer) (after : Core) → ReadStep n c phase answer after
    → Says n c (λ d. Unit {0}) (λ f. Unit {0}) (λ t. Unit {0}) answer
read_any n c loading_head answer after (loads_header page fill at a is) = says n 0 c _ _ _ answer reading a tt
read_any n c loading_head answer after (loads_update page lost at a is) =
    says n 0 c _ _ _ answer (moving (suc lost)) a tt
read_any n c loading_head answer after (loads_owed page at a is) = says n 0 c _ _ _ answer (moving c.reader.hint) a tt
read_any n c loading_head answer after (loads_passed page fill least at more sum a is) =
    says n 0 c _ _ _ answer reading a tt
read_any n c (loading_done page fill) answer after (finds_none le a is) = says n 0 c _ _ _ answer (empty c.done) a tt
read_any n c (loading_done page fill) answer after (finds_closed below a is) = says n 0 c _ _ _ answer reading a tt
read_any n c (storing_spare_link page fill) answer after step = says n 0 c _ _ _ answer reading step.answer_is tt
read_any n c (swapping page fill) answer after (swaps at a is) = says n 0 c _ _ _ answer (page_taken _) a tt
read_any n c (swapping page fill) answer after (swap_fails at a is) = says n 0 c _ _ _ answer reading a tt

pub refusal_true : (n size : ℕ) (c : Core) (event : Event) (answer : Answer) (after : Core)
    → Step n size c event answer after → Says n c (λ d. Unit {0}) (λ f. Unit {0}) (λ t. Unit {0}) answer
refusal_true n size c event answer after step =
    step_true n size c (λ d. Unit {0}) (λ f. Unit {0}) (λ t. Unit {0}) event answer after
    (read_any n c c.reader.phase answer after) (cases_of step)

pub crowded_right : (n size : ℕ) (c : Core) (event : Event) (after : Core) → Step n size c event (refused crowded) after
    → c.opened ≡ c.done + n
crowded_right n size c event after step = refusal_true n size c event (refused crowded) after step

pub worn_right : (n size start : ℕ) (c : Core) (event : Event) (after : Core) → IsRingKept n size start c
    → Step n size c event (refused worn) after → (c.opened + n ≡ LINK_FILLS) × (c.opened ≡ c.done + n → ⊥)
worn_right n size start c event after r step =
    let (last, some) =
    refusal_true n size c event (refused worn) after step in
    let fits = r.links.fits in
    (omega arith, some)

-- the HEADER is still to be stored by a move of the head that is not finished
owed_by : (n : ℕ) (links : List Link) (order : List ℕ) (head : ℕ) (frames : List Frame) (f page fill : ℕ)
    → LinkKept n links order head frames f → link_into n links f ≡ normal_link page fill → f ≡ head
    → (lost : ℕ) × (suc lost ≡ head) × HasMover frames (lost + n)
owed_by n links order head frames f page fill (is_normal e owed) at here = owed here
owed_by n links order head frames f page fill (is_header e is) at here =
    absurd (normal_ne_header page fill (page_at n order f) f (sym at ∙ e))
owed_by n links order head frames f page fill (is_update lost sum e st) at here =
    absurd (normal_ne_update page fill (page_at n order f) lost (sym at ∙ e))

-- a fill before the head that isn't taken is lost
taken_or_lost : (n : ℕ) (c : Core) (g : ℕ) → g < c.head → IsTaken c g ⊎ (g + n ≤ c.opened)
    → IsTaken c g ⊎ ((g < c.head) × (g + n ≤ c.opened))
taken_or_lost n c g before (inl taken) = inl taken
taken_or_lost n c g before (inr round) = inr (before, round)

module _ (n size start : ℕ) (c : Core) (r : IsRingKept n size start c) where
  pub passed_below : (f : ℕ) → f ≤ c.head → ArePassed n start c f
  passed_below f le g low high =
      let before : g < c.head = omega arith in
      taken_or_lost n c g before ((is_ring n size start c r).lost g low before)

  -- an unfinished move of the head is in the reader's way
  in_the_way : (lost fill : ℕ) → HasMover c.frames (lost + n) → fill ≤ c.head → c.reader.hint ≤ fill
      → IsInTheWay n start c fill
  in_the_way lost fill st le low = let (u, sum, below, open_yet, at) = owned_by n c r.links (lost + n) st in
      let same : u ≡ lost = omega arith in record {
        passed = passed_below fill le;
        fill_le = le;
        hint_le = low;
        lost = lost;
        lost_lt = omega arith;
        stands = at ∙ ap (λ (x : ℕ). update_link (page_at n c.order (lost + n)) x) same;
        owner = stands_moved c.frames (lost + n) r.links.movers st;
      }

  -- an UPDATE that the reader finds
  finds_update : (page lost : ℕ) → link_into n c.links c.reader.hint ≡ update_link page lost
      → IsInTheWay n start c (suc lost)
  finds_update page lost at =
      let some_pages = r.links.some_pages in let le = r.links.hint_le in let unread = r.links.head_le in
      let (g, low, high, position) = at_position c.head n (c.reader.hint % n) (mod-lt c.reader.hint (omega arith)) in
      let same : link_into n c.links g ≡ link_into n c.links c.reader.hint =
      ap (λ (i : ℕ). get_or c.links i (normal_link 0 0)) position in
      let reported =
      update_reports n c.links c.order c.head c.frames g page lost (r.links.each g low high) (same ∙ at) in
      let sum = reported.0 in
      let (u, u_sum, below, open_yet, there) = owned_by n c r.links g reported.2 in
      let known : c.reader.hint ≤ lost = dite (dec_le c.reader.hint lost) (λ yes. yes)
      (λ no. let e =
      one_position c.reader.hint n g c.reader.hint (omega arith) (omega arith) (omega arith) (omega arith)
      position in
      absurd (omega arith)) in
      in_the_way lost (suc lost) (subst (HasMover c.frames) (sym sum) reported.2) (omega arith) (omega arith)

  -- a HEADER that is owed
  finds_owed : (page : ℕ) → link_into n c.links c.reader.hint ≡ normal_link page c.reader.hint
      → IsInTheWay n start c c.reader.hint
  finds_owed page at =
      let le = r.links.hint_le in
      let (g, low, high, same, link) = fill_at n c r.links c.reader.hint in
      let reported = normal_reports n c.links c.order c.head c.frames g page c.reader.hint link (same ∙ at) in
      let is = reported.0 in
      let (lost, next, st) =
      owed_by n c.links c.order c.head c.frames g page c.reader.hint link (same ∙ at) (omega arith) in
      in_the_way lost c.reader.hint st (omega arith) (omega arith)

  abbrev NoneSaid : Core → ℕ → Type 0
  NoneSaid after d =
      (c.head ≡ d) × (c.done ≡ d) × (after.reader.taken ≡ c.reader.taken) × (after.reader.seen ≡ d)
      × (after.head ≡ c.head)

  abbrev WaySaid : Core → ℕ → Type 0
  WaySaid after f = IsInTheWay n start c f × (after.reader.taken ≡ c.reader.taken)

  abbrev TookSaid : Core → TakenFill → Type 0
  TookSaid after t =
      (t.fill ≡ c.head) × (c.head < c.done) × (after.head ≡ c.head + 1)
      × (after.reader.taken ≡ c.reader.taken ++ t ∷ [])

  read_true : (phase : ReaderPhase) (answer : Answer) (after : Core)
      → ReaderKept n c.links c.order c.spare_link c.head c.done c.reader.hint phase → ReadStep n c phase answer after
      → Says n c (NoneSaid after) (WaySaid after) (TookSaid after) answer
  read_true loading_head answer after facts (loads_header page fill at a is) =
      says n 0 c (NoneSaid after) (WaySaid after) (TookSaid after) answer reading a tt
  read_true loading_head answer after facts (loads_update page lost at a is) =
      says n 0 c (NoneSaid after) (WaySaid after) (TookSaid after) answer (moving (suc lost)) a
      (finds_update page lost at, ap (λ (d : Core). d.reader.taken) is)
  read_true loading_head answer after facts (loads_owed page at a is) =
      says n 0 c (NoneSaid after) (WaySaid after) (TookSaid after) answer (moving c.reader.hint) a
      (finds_owed page at, ap (λ (d : Core). d.reader.taken) is)
  read_true loading_head answer after facts (loads_passed page fill least at more sum a is) =
      says n 0 c (NoneSaid after) (WaySaid after) (TookSaid after) answer reading a tt
  read_true (loading_done page fill) answer after facts (finds_none le a is) = let fill_is = facts.fill_is in
      let low = r.links.hint_le in
      let unread = r.links.head_le in
      says n 0 c (NoneSaid after) (WaySaid after) (TookSaid after) answer (empty c.done) a (
        omega arith,
        refl,
        ap (λ (d : Core). d.reader.taken) is,
        ap (λ (d : Core). d.reader.seen) is,
        ap (λ (d : Core). d.head) is,
      )
  read_true (loading_done page fill) answer after facts (finds_closed below a is) =
      says n 0 c (NoneSaid after) (WaySaid after) (TookSaid after) answer reading a tt
  read_true (storing_spare_link page fill) answer after facts step =
      says n 0 c (NoneSaid after) (WaySaid after) (TookSaid after) answer reading step.answer_is tt
  read_true (swapping page fill) answer after facts (swaps at a is) =
      let (g, low_g, high_g, same, link) = fill_at n c r.links fill in
      let reported = header_reports n c.links c.order c.head c.frames g page fill link (same ∙ at) in
      let here : fill ≡ c.head = reported.0 ∙ reported.1 in let closed = facts.1 in
      says n 0 c (NoneSaid after) (WaySaid after) (TookSaid after) answer (page_taken _) a
      (here, omega arith, ap (λ (d : Core). d.head) is, ap (λ (d : Core). d.reader.taken) is)
  read_true (swapping page fill) answer after facts (swap_fails at a is) =
      says n 0 c (NoneSaid after) (WaySaid after) (TookSaid after) answer reading a tt

  pub all_true : (event : Event) (answer : Answer) (after : Core) → Step n size c event answer after
      → Says n c (NoneSaid after) (WaySaid after) (TookSaid after) answer
  all_true event answer after step =
      step_true n size c (NoneSaid after) (WaySaid after) (TookSaid after) event answer after
      (read_true c.reader.phase answer after r.links.reader) (cases_of step)

pub empty_right : (n size start : ℕ) (c : Core) (event : Event) (done : ℕ) (after : Core) → IsRingKept n size start c
    → Step n size c event (empty done) after
    → (c.head ≡ done) × (c.done ≡ done) × ArePassed n start c done × (after.reader.taken ≡ c.reader.taken)
    × (after.reader.seen ≡ done) × (after.head ≡ done)
empty_right n size start c event done after r step =
    let (a, b, same, seen, head) =
    all_true n size start c r event (empty done) after step in
    (a, b, passed_below n size start c r done (omega arith), same, seen, head ∙ a)

pub moving_right : (n size start : ℕ) (c : Core) (event : Event) (fill : ℕ) (after : Core) → IsRingKept n size start c
    → Step n size c event (moving fill) after → IsInTheWay n start c fill × (after.reader.taken ≡ c.reader.taken)
moving_right n size start c event fill after r step = all_true n size start c r event (moving fill) after step

pub swapped_right : (n size start : ℕ) (c : Core) (event : Event) (t : TakenFill) (after : Core)
    → IsRingKept n size start c → Step n size c event (page_taken t) after
    → (t.fill ≡ c.head) × (c.head < c.done) × (after.head ≡ c.head + 1)
    × (after.reader.taken ≡ c.reader.taken ++ t ∷ [])
swapped_right n size start c event t after r step = all_true n size start c r event (page_taken t) after step
