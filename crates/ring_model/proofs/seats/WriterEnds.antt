-- A frame of a running ring has an end: each of its steps lowers its rank, whatever the reader does in between.
use Rattle.std.proofs.Common.{◌≡◌, ◌≢◌, ℕ, suc, ◌+◌, ◌-◌, ◌*◌, ◌<◌, ◌≤◌, Bool, List, [], ◌∷◌, ◌++◌, length, Option}
use Rattle.std.proofs.Common.{Some, None, refl, sym, ap, ◌∙◌, subst, arith}
use Rattle.std.specs.Prelude.{if◌then◌else◌, ◌==◌, nat_lt}
use Rattle.std.proofs.lemmas.Bool.{cond_both, lt-ltb, le-ltb}
use Rattle.trace_model.specs.History.{HistoryEvent, leave, Reservation}
use Rattle.trace_model.specs.Packing.{tail_of}
use Rattle.trace_model.specs.Links.{header_link}
use Rattle.trace_model.specs.Frames.{Purpose, for_record, for_close, Progress, waiting, reserved, left, number_of, Role}
use Rattle.trace_model.specs.Frames.{owner, helper, Phase, idle, looking, claiming, looking_next, marking, clearing}
use Rattle.trace_model.specs.Frames.{opening, releasing, wishing, Frame}
use Rattle.trace_model.specs.Ring.{Core}
use Rattle.trace_model.specs.Steps.{Answer, closing_phase, in_phase, after_leave, after_next, with_link, with_new_tail}
use Rattle.trace_model.specs.Steps.{with_released, after_begin}
use Rattle.trace_model.proofs.steps.EventSteps.{top_step, top_ends}
use Rattle.trace_model.proofs.steps.StepCases.{BeginsAgain, IdleStep, ReserveStep, reserves, finds_nothing, is_crowded}
use Rattle.trace_model.proofs.steps.StepCases.{is_worn, notes, LoadLinkStep, load_link_late, sees_free, sees_header}
use Rattle.trace_model.proofs.steps.StepCases.{sees_update, ClaimHeadStep, claim_late, claims, claim_fails}
use Rattle.trace_model.proofs.steps.StepCases.{LoadNextStep, load_next_late, sees_normal, sees_other, MarkHeadStep}
use Rattle.trace_model.proofs.steps.StepCases.{mark_late, marks, mark_fails, ClearUpdateStep, clears, OpenFillStep}
use Rattle.trace_model.proofs.steps.StepCases.{open_late, opens, ReleaseFillStep, releases, releases_last, LoadWishStep}
use Rattle.trace_model.proofs.steps.StepCases.{grants, closes_more, goes_away, FrameStep}
use Rattle.ring_model.specs.KeptLinks.{LinksKept}
use Rattle.ring_model.specs.KeptStack.{MayBeIn}
use Rattle.ring_model.specs.RingKept.{IsRingKept}
use Rattle.ring_model.specs.Ranks.{state_rank, late_rank}
use Rattle.ring_model.specs.WriterRanks.{look_rank, need_rank, grant_rank, fresh_rank, own_rank, writer_rank, rank_in}
use Rattle.ring_model.specs.WriterRanks.{WriterStepsComeToAnEnd, WriterEndsComeToAnEnd, WritersAreNearTheirEnd}
use Rattle.ring_model.proofs.links.LinkFills.{header_inside}
use Rattle.ring_model.proofs.histories.HistorySteps.{top_agrees, wishing_left}
use Rattle.ring_model.proofs.seats.FrameEnds.{late_now, late_passed, late_le, opened_tail, again_rank, again_lt}
use Rattle.ring_model.proofs.seats.FrameEnds.{opened_lt, needs_tail, reserved_idle, state_le}

-- ---- parts of a rank

look_le : (n passed noted : ℕ) → look_rank n passed noted ≤ 12
look_le n passed noted =
    cond_both (nat_lt noted (passed + n)) 10 12 (λ (k : ℕ). k ≤ 12) (λ _. omega arith) (λ _. omega arith)

look_ge : (n passed noted : ℕ) → 10 ≤ look_rank n passed noted
look_ge n passed noted =
    cond_both (nat_lt noted (passed + n)) 10 12 (λ (k : ℕ). 10 ≤ k) (λ _. omega arith) (λ _. omega arith)

-- the fill that would be lost is known to be passed
look_once : (n passed noted : ℕ) → noted < passed + n → look_rank n passed noted ≡ 10
look_once n passed noted less = ap (λ (b : Bool). if b then 10 else 12) (lt-ltb noted (passed + n) less)

look_twice : (n passed noted : ℕ) → passed + n ≤ noted → look_rank n passed noted ≡ 12
look_twice n passed noted least = ap (λ (b : Bool). if b then 10 else 12) (le-ltb noted (passed + n) least)

need_le : (records : List Reservation) → need_rank records ≤ 34
need_le [] = omega arith
need_le (r ∷ records) = omega arith

need_ge : (records : List Reservation) → 16 ≤ need_rank records
need_ge [] = omega arith
need_ge (r ∷ records) = omega arith

need_held : (records : List Reservation) → records ≢ [] → need_rank records ≡ 34
need_held [] holds = absurd (holds refl)
need_held (r ∷ records) holds = refl

grant_le : (records : List Reservation) → grant_rank records ≤ 12
grant_le [] = omega arith
grant_le (r ∷ records) = omega arith

grant_held : (records : List Reservation) → records ≢ [] → grant_rank records ≡ 12
grant_held [] holds = absurd (holds refl)
grant_held (r ∷ records) holds = refl

closing_le : (n passed opened : ℕ) (history : List HistoryEvent) (c : Core) (state : Progress)
    → own_rank n passed opened history state (closing_phase c) ≤ grant_rank (tail_of history) + 1
closing_le n passed opened history c state =
    cond_both ((c.done + 1) == c.opened) wishing releasing
    (λ (p : Phase). own_rank n passed opened history state p ≤ grant_rank (tail_of history) + 1) (λ _. omega arith)
    (λ _. omega arith)

-- ---- a frame that leaves, or begins again

leave_le : (n passed : ℕ) (c : Core) (frame : Frame) (below : List Frame) (payload : Option (List ℕ))
    → length (after_leave c frame below payload).frames ≡ suc (length below)
    → rank_in n passed (after_leave c frame below payload) ≤ 3 * (c.opened - c.done) + 13
leave_le n passed c frame [] payload same =
    let history : List HistoryEvent = c.history ++ leave payload ∷ [] in
    let low = closing_le n passed c.opened history c left in let most = grant_le (tail_of history) in
    let le : 3 * (c.opened - c.done) + own_rank n passed c.opened history left (closing_phase c)
    ≤ 3 * (c.opened - c.done) + 13 =
    omega arith in
    le
leave_le n passed c frame (next ∷ below) payload same =
    absurd (let wrong : suc (length below) ≡ suc (suc (length below)) = same in omega arith)

begin_le : (n passed : ℕ) (c : Core) (kind : Purpose) (state : Progress) (frame : Frame) (below : List Frame) (i w : ℕ)
    → frame.state ≡ state → need_rank (tail_of c.history) ≤ i → grant_rank (tail_of c.history) + 1 ≤ w → 13 ≤ i
    → length (after_begin kind state c frame below).frames ≡ suc (length below)
    → rank_in n passed (after_begin kind state c frame below) ≤ 3 * (c.opened - c.done) + again_rank i w state
begin_le n passed c (for_record moment len) waiting frame below i w same low wish_low le stays =
    subst (λ (s : Progress). 3 * (c.opened - c.done) + fresh_rank c.history s ≤ 3 * (c.opened - c.done) + i) (sym same)
    (omega arith)
begin_le n passed c for_close waiting frame below i w same low wish_low le stays =
    let less =
    leave_le n passed c frame below None stays in
    omega arith
begin_le n passed c kind (reserved number) frame below i w same low wish_low le stays =
    subst (λ (s : Progress). 3 * (c.opened - c.done) + fresh_rank c.history s ≤ 3 * (c.opened - c.done) + 15) (sym same)
    (omega arith)
begin_le n passed c kind left frame below i w same low wish_low le stays =
    let less =
    closing_le n passed c.opened c.history c frame.state in
    omega arith

-- ---- the steps of a frame

module _ (n size start : ℕ) (c : Core) (frame : Frame) (below : List Frame) (r : IsRingKept n size start c)
    (top : c.frames ≡ frame ∷ below) (passed knows : ℕ) where
  k : LinksKept n c
  k = r.links

  old : (phase : Phase) → frame.phase ≡ phase
      → rank_in n passed c ≡ 3 * (c.opened - c.done) + own_rank n passed c.opened c.history frame.state phase
  old phase same =
      ap (writer_rank n passed c.done c.opened c.history) top
      ∙ ap (λ (p : Phase). 3 * (c.opened - c.done) + own_rank n passed c.opened c.history frame.state p) same

  -- the state after the step has a lower rank than the phase
  sinks : (after next : Core) (phase : Phase) → frame.phase ≡ phase
      → rank_in n knows next < 3 * (c.opened - c.done) + own_rank n passed c.opened c.history frame.state phase
      → after ≡ next → rank_in n knows after < rank_in n passed c
  sinks after next phase same less is =
      subst (λ (a : Core). rank_in n knows a < rank_in n passed c) (sym is)
      (subst (λ (m : ℕ). rank_in n knows next < m) (sym (old phase same)) less)

  goes : (after : Core) (phase next : Phase) → frame.phase ≡ phase
      → own_rank n knows c.opened c.history frame.state next < own_rank n passed c.opened c.history frame.state phase
      → after ≡ in_phase c frame below next → rank_in n knows after < rank_in n passed c
  goes after phase next same less is = sinks after (in_phase c frame below next) phase same (omega arith) is

  stands : (after b : Core) → after ≡ b → length after.frames ≡ length c.frames → length b.frames ≡ suc (length below)
  stands after b is stays = sym (ap (λ (a : Core). length a.frames) is) ∙ stays ∙ ap (length {A = Frame}) top

  leaves : (after : Core) (phase : Phase) (payload : Option (List ℕ)) → frame.phase ≡ phase
      → 13 < own_rank n passed c.opened c.history frame.state phase → length after.frames ≡ length c.frames
      → after ≡ after_leave c frame below payload → rank_in n knows after < rank_in n passed c
  leaves after phase payload same high stays is =
      let low = leave_le n knows c frame below payload (stands after (after_leave c frame below payload) is stays) in
      sinks after (after_leave c frame below payload) phase same (omega arith) is

  again : (noted : ℕ) (answer : Answer) (after : Core) (phase : Phase) → frame.phase ≡ phase
      → state_rank frame.state + late_rank noted c.opened + 5 ≤ own_rank n passed c.opened c.history frame.state phase
      → length after.frames ≡ length c.frames → BeginsAgain c frame below noted answer after
      → rank_in n knows after < rank_in n passed c
  again noted answer after phase same high stays step =
      let late = late_passed noted c.opened step.passed in
      let most = grant_le (tail_of c.history) in
      let begun : Core = after_begin frame.kind frame.state c frame below in
      let low =
      begin_le n knows c frame.kind frame.state frame below 34 13 refl (need_le (tail_of c.history)) (omega arith)
      (omega arith) (stands after begun step.after_is stays) in
      let less = again_lt frame.state in
      sinks after begun phase same (omega arith) step.after_is

  waiting_rank : frame.state ≡ waiting
      → own_rank n passed c.opened c.history frame.state idle ≡ need_rank (tail_of c.history)
  waiting_rank same = ap (fresh_rank c.history) same

  rests : frame.state ≡ waiting → 15 < own_rank n passed c.opened c.history frame.state idle
  rests waits = let high = need_ge (tail_of c.history) in let now = waiting_rank waits in omega arith

  reserve_lowers : (answer : Answer) (after : Core) → frame.phase ≡ idle → frame.state ≡ waiting
      → length after.frames ≡ length c.frames → ReserveStep n size c frame below answer after
      → rank_in n knows after < rank_in n passed c
  reserve_lowers answer after same waits stays (reserves moment len res kind r_is fits a is) = let high = rests waits in
      sinks after _ idle same
      (let less : 3 * (c.opened - c.done) + 15
      < 3 * (c.opened - c.done) + own_rank n passed c.opened c.history frame.state idle =
      omega arith in
      less) is
  reserve_lowers answer after same waits stays (finds_nothing kind none a is) =
      leaves after idle None same (let high = rests waits in omega arith) stays is
  reserve_lowers answer after same waits stays (is_crowded needs full a is) =
      leaves after idle None same (let high = rests waits in omega arith) stays is
  reserve_lowers answer after same waits stays (is_worn needs full last a is) =
      leaves after idle None same (let high = rests waits in omega arith) stays is
  reserve_lowers answer after same waits stays (notes needs room small a is) =
      let now = waiting_rank waits in
      let high =
      need_held (tail_of c.history) (needs_tail n size start c frame below r top frame.kind refl waits needs) in
      let first = ap state_rank waits in
      let fresh = late_now c.opened c.opened refl in
      let low = look_le n knows c.opened in
      goes after idle (looking c.opened) same (omega arith) is

  load_link_lowers : (noted : ℕ) (answer : Answer) (after : Core) → frame.phase ≡ looking noted
      → (noted ≡ c.opened → passed ≤ c.head) → length after.frames ≡ length c.frames
      → LoadLinkStep n c frame below noted answer after → rank_in n knows after < rank_in n passed c
  load_link_lowers noted answer after same behind stays (load_link_late step) = let high = look_ge n passed noted in
      again noted answer after (looking noted) same (omega arith) stays step
  load_link_lowers noted answer after same behind stays (sees_free page now at a is) =
      let high =
      look_ge n passed noted in
      goes after (looking noted) (opening noted page) same (omega arith) is
  load_link_lowers noted answer after same behind stays (sees_header page lost now sum at a is) =
      let unread = k.head_le in let open_yet = k.done_lt in let within = k.opened_le in
      let (here, page_is, head_at) = header_inside n c k noted page lost (omega arith) (omega arith) sum at in
      let low = behind now in
      let twice = look_twice n passed noted (omega arith) in
      goes after (looking noted) (claiming noted page) same (omega arith) is
  load_link_lowers noted answer after same behind stays (sees_update page lost now sum at a is) =
      let high =
      look_ge n passed noted in
      goes after (looking noted) (looking_next helper noted page) same (omega arith) is

  claim_head_lowers : (noted page : ℕ) (answer : Answer) (after : Core) → frame.phase ≡ claiming noted page
      → (noted ≡ c.opened → noted < knows + n) → length after.frames ≡ length c.frames
      → ClaimHeadStep n c frame below noted page answer after → rank_in n knows after < rank_in n passed c
  claim_head_lowers noted page answer after same past stays (claim_late step) =
      again noted answer after (claiming noted page) same (omega arith) stays step
  claim_head_lowers noted page answer after same past stays (claims lost now sum at a is) =
      sinks after _ (claiming noted page) same
      (let less : 3 * (c.opened - c.done) + (state_rank frame.state + late_rank noted c.opened + 8)
      < 3 * (c.opened - c.done) + (state_rank frame.state + late_rank noted c.opened + 11) =
      omega arith in
      less) is
  claim_head_lowers noted page answer after same past stays (claim_fails now other a is) =
      let once =
      look_once n knows noted (past now) in
      goes after (claiming noted page) (looking noted) same (omega arith) is

  -- after the look at the next link
  next_less : (role : Role) (noted page m : ℕ) → 6 < m
      → own_rank n knows c.opened c.history frame.state (after_next role noted page)
      < state_rank frame.state + late_rank noted c.opened + m
  next_less owner noted page m less = omega arith
  next_less helper noted page m less = omega arith

  load_next_lowers : (role : Role) (noted page : ℕ) (answer : Answer) (after : Core)
      → frame.phase ≡ looking_next role noted page → length after.frames ≡ length c.frames
      → LoadNextStep n c frame below role noted page answer after → rank_in n knows after < rank_in n passed c
  load_next_lowers role noted page answer after same stays (load_next_late helps step) =
      again noted answer after (looking_next role noted page) same (omega arith) stays step
  load_next_lowers role noted page answer after same stays (sees_normal lost next goes_on sum at a is) =
      goes after (looking_next role noted page) (marking role noted page next) same (omega arith) is
  load_next_lowers role noted page answer after same stays (sees_other lost goes_on sum other a is) =
      goes after (looking_next role noted page) (after_next role noted page) same
      (next_less role noted page 8 (omega arith)) is

  mark_head_lowers : (role : Role) (noted page next : ℕ) (answer : Answer) (after : Core)
      → frame.phase ≡ marking role noted page next → length after.frames ≡ length c.frames
      → MarkHeadStep n c frame below role noted page next answer after → rank_in n knows after < rank_in n passed c
  mark_head_lowers role noted page next answer after same stays (mark_late helps step) =
      again noted answer after (marking role noted page next) same (omega arith) stays step
  mark_head_lowers role noted page next answer after same stays (marks lost goes_on sum at a is) =
      let low = next_less role noted page 7 (omega arith) in
      sinks after
      (in_phase (with_link n c (suc lost) (header_link next (suc lost))) frame below (after_next role noted page))
      (marking role noted page next) same (omega arith) is
  mark_head_lowers role noted page next answer after same stays (mark_fails lost goes_on sum other a is) =
      goes after (marking role noted page next) (after_next role noted page) same
      (next_less role noted page 7 (omega arith)) is

  clear_update_lowers : (noted page : ℕ) (answer : Answer) (after : Core) → frame.phase ≡ clearing noted page
      → ClearUpdateStep n c frame below noted page answer after → rank_in n knows after < rank_in n passed c
  clear_update_lowers noted page answer after same (clears lost sum at a is) =
      sinks after _ (clearing noted page) same
      (let less : 3 * (c.opened - c.done) + (state_rank frame.state + late_rank noted c.opened + 5)
      < 3 * (c.opened - c.done) + (state_rank frame.state + late_rank noted c.opened + 6) =
      omega arith in
      less) is

  open_fill_lowers : (noted page : ℕ) (answer : Answer) (after : Core) → frame.phase ≡ opening noted page
      → length after.frames ≡ length c.frames → OpenFillStep n c frame below noted page answer after
      → rank_in n knows after < rank_in n passed c
  open_fill_lowers noted page answer after same stays (open_late step) =
      again noted answer after (opening noted page) same (omega arith) stays step
  open_fill_lowers noted page answer after same stays (opens now a is) =
      let behind = k.done_lt in
      let grown : Core = with_new_tail c page in
      let begun : Core = after_begin frame.kind frame.state grown frame below in
      let bare : need_rank (tail_of grown.history) ≡ 16 = ap need_rank (opened_tail c.history) in
      let unasked : grant_rank (tail_of grown.history) ≡ 0 = ap grant_rank (opened_tail c.history) in
      let low =
      begin_le n knows grown frame.kind frame.state frame below 16 1 refl (omega arith) (omega arith) (omega arith)
      (stands after begun is stays) in
      let le : rank_in n knows begun ≤ 3 * ((c.opened + 1) - c.done) + again_rank 16 1 frame.state = low in
      let less = opened_lt frame.state in
      sinks after begun (opening noted page) same (omega arith) is

  release_fill_lowers : (answer : Answer) (after : Core) → frame.phase ≡ releasing
      → ReleaseFillStep c frame below answer after → rank_in n knows after < rank_in n passed c
  release_fill_lowers answer after same (releases alone more a is) =
      let held : rank_in n knows (with_released c) ≡ 3 * (c.opened - (c.done + 1)) + grant_rank (tail_of c.history) =
      ap (writer_rank n knows (c.done + 1) c.opened c.history) top
      ∙ ap (λ (p : Phase). 3 * (c.opened - (c.done + 1)) + own_rank n knows c.opened c.history frame.state p)
      same in
      sinks after (with_released c) releasing same (omega arith) is
  release_fill_lowers answer after same (releases_last alone last a is) =
      sinks after _ releasing same
      (let less : 3 * (c.opened - (c.done + 1)) + (grant_rank (tail_of c.history) + 1)
      < 3 * (c.opened - c.done) + grant_rank (tail_of c.history) =
      omega arith in
      less) is

  load_wish_lowers : (answer : Answer) (after : Core) → frame.phase ≡ wishing → length after.frames ≡ length c.frames
      → LoadWishStep n c frame below answer after → rank_in n knows after < rank_in n passed c
  load_wish_lowers answer after same stays (grants alone granted a is) =
      let held = grant_held (tail_of c.history) granted.holds_record in
      let gone =
      ap state_rank
      (wishing_left frame.kind frame.state
      (subst (MayBeIn frame.kind frame.state) same (top_agrees c frame below r.stack top).0)) in
      let fresh = late_now c.opened c.opened refl in
      let low = look_le n knows c.opened in
      sinks after _ wishing same
      (let less : 3 * (c.opened - c.done)
      + (state_rank frame.state + late_rank c.opened c.opened + look_rank n knows c.opened)
      < 3 * (c.opened - c.done) + (grant_rank (tail_of c.history) + 1) =
      omega arith in
      less) is
  load_wish_lowers answer after same stays (closes_more alone denied more a is) =
      goes after wishing releasing same (omega arith) is
  load_wish_lowers answer after same stays (goes_away alone denied none_left a is) =
      absurd (let none : 0 ≡ suc (length below) = stands after (record c { frames = [] }) is stays in omega arith)

  idle_lowers : (state : Progress) (answer : Answer) (after : Core) → frame.phase ≡ idle → frame.state ≡ state
      → number_of state ≡ None → length after.frames ≡ length c.frames
      → IdleStep n size c frame below state answer after → rank_in n knows after < rank_in n passed c
  idle_lowers waiting answer after same at none stays step = reserve_lowers answer after same at stays step
  idle_lowers (reserved number) answer after same at none stays step = absurd cc
  idle_lowers left answer after same at none stays step = absurd step

  module _ (behind : (noted : ℕ) → frame.phase ≡ looking noted → noted ≡ c.opened → passed ≤ c.head)
      (past : (noted page : ℕ) → frame.phase ≡ claiming noted page → noted ≡ c.opened → noted < knows + n) where
    frame_lowers : (phase : Phase) (answer : Answer) (after : Core) → frame.phase ≡ phase → number_of frame.state ≡ None
        → length after.frames ≡ length c.frames → FrameStep n size c frame below phase answer after
        → rank_in n knows after < rank_in n passed c
    frame_lowers idle answer after same none stays step = idle_lowers frame.state answer after same refl none stays step
    frame_lowers (looking noted) answer after same none stays step =
        load_link_lowers noted answer after same (behind noted same) stays step
    frame_lowers (claiming noted page) answer after same none stays step =
        claim_head_lowers noted page answer after same (past noted page same) stays step
    frame_lowers (looking_next role noted page) answer after same none stays step =
        load_next_lowers role noted page answer after same stays step
    frame_lowers (marking role noted page next) answer after same none stays step =
        mark_head_lowers role noted page next answer after same stays step
    frame_lowers (clearing noted page) answer after same none stays step =
        clear_update_lowers noted page answer after same step
    frame_lowers (opening noted page) answer after same none stays step =
        open_fill_lowers noted page answer after same stays step
    frame_lowers releasing answer after same none stays step = release_fill_lowers answer after same step
    frame_lowers wishing answer after same none stays step = load_wish_lowers answer after same stays step

pub writer_steps_lower : WriterStepsComeToAnEnd
writer_steps_lower n size start c frame below answer after passed knows r top none step stays more behind past =
    frame_lowers n size start c frame below r top passed knows behind past frame.phase answer after refl none stays
    (top_step frame below frame.phase top refl step)

pub writer_ends_lower : WriterEndsComeToAnEnd
writer_ends_lower n size start c frame below number payload answer after passed knows r top own step stays =
    let end = top_ends payload frame below number top own step in
    leaves n size start c frame below r top passed knows after idle (Some payload)
    (reserved_idle frame.kind frame.state frame.phase number own (top_agrees c frame below r.stack top).0)
    (subst (λ (x : Progress). 13 < fresh_rank c.history x) (sym own) (omega arith)) stays end.after_is

-- ---- the limit

fresh_le : (history : List HistoryEvent) (state : Progress) → fresh_rank history state ≤ 34
fresh_le history waiting = need_le (tail_of history)
fresh_le history (reserved number) = omega arith
fresh_le history left = omega arith

own_le : (n passed opened : ℕ) (history : List HistoryEvent) (state : Progress) (phase : Phase)
    → own_rank n passed opened history state phase ≤ 52
own_le n passed opened history state idle = let low = fresh_le history state in omega arith
own_le n passed opened history state (looking noted) = let a = state_le state in
    let b = late_le noted opened in
    let d = look_le n passed noted in
    omega arith
own_le n passed opened history state (claiming noted page) = let a = state_le state in
    let b = late_le noted opened in
    omega arith
own_le n passed opened history state (looking_next role noted page) = let a = state_le state in
    let b = late_le noted opened in
    omega arith
own_le n passed opened history state (marking role noted page next) = let a = state_le state in
    let b = late_le noted opened in
    omega arith
own_le n passed opened history state (clearing noted page) = let a = state_le state in
    let b = late_le noted opened in
    omega arith
own_le n passed opened history state (opening noted page) = let a = state_le state in
    let b = late_le noted opened in
    omega arith
own_le n passed opened history state releasing = let low = grant_le (tail_of history) in omega arith
own_le n passed opened history state wishing = let low = grant_le (tail_of history) in omega arith

writer_le : (n passed done opened : ℕ) (history : List HistoryEvent) (frames : List Frame)
    → writer_rank n passed done opened history frames ≤ 3 * (opened - done) + 52
writer_le n passed done opened history [] = omega arith
writer_le n passed done opened history (frame ∷ below) =
    let low =
    own_le n passed opened history frame.state frame.phase in
    omega arith

pub writers_near : WritersAreNearTheirEnd
writers_near n size start passed c r = let low = writer_le n passed c.done c.opened c.history c.frames in
    let a = r.links.head_le in
    let b = r.links.opened_le in
    omega arith
