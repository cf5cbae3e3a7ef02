-- A frame that nothing interrupts has an end: each of its steps lowers its rank.
use Rattle.std.proofs.Common.{◌≡◌, ◌≢◌, ℕ, suc, ◌+◌, ◌-◌, ◌*◌, ◌<◌, ◌≤◌, Bool, true, false, List, [], ◌∷◌, ◌++◌, length}
use Rattle.std.proofs.Common.{get_or, Option, Some, None, refl, sym, ap, ◌∙◌, subst, arith, length-append}
use Rattle.std.specs.Prelude.{if◌then◌else◌, ◌==◌}
use Rattle.std.proofs.lemmas.Bool.{cond_both, eq-eqb, eqb-true, ne_eqb}
use mathlib.Core.Logic.{dite}
use native.Mathlib.Decide.{ℕ_discrete}
use Rattle.trace_model.specs.History.{HistoryEvent, open_fill, Reservation, reserved_records, reservation_for}
use Rattle.trace_model.specs.Packing.{cut_from, opens_of, tail_of, FitsBehind, is_wished}
use Rattle.trace_model.specs.Fitting.{tail_at, NeedsFill}
use Rattle.trace_model.specs.Links.{Mark, normal, header, update, Link, header_link}
use Rattle.trace_model.specs.Frames.{Purpose, for_record, for_close, Progress, waiting, reserved, left, number_of, Role}
use Rattle.trace_model.specs.Frames.{owner, helper, Phase, idle, looking, claiming, looking_next, marking, clearing}
use Rattle.trace_model.specs.Frames.{opening, releasing, wishing, Frame, pushed_frames}
use Rattle.trace_model.specs.Ring.{link_into, Core}
use Rattle.trace_model.specs.Steps.{Answer, NeedsPage, closing_phase, in_phase, after_leave, after_next, with_link}
use Rattle.trace_model.specs.Steps.{with_new_tail, after_begin}
use Rattle.trace_model.proofs.steps.EventSteps.{top_step, top_ends}
use Rattle.trace_model.proofs.steps.StepCases.{BeginsAgain, IdleStep, ReserveStep, reserves, finds_nothing, is_crowded}
use Rattle.trace_model.proofs.steps.StepCases.{is_worn, notes, LoadLinkStep, load_link_late, sees_free, sees_header}
use Rattle.trace_model.proofs.steps.StepCases.{sees_update, ClaimHeadStep, claim_late, claims, claim_fails}
use Rattle.trace_model.proofs.steps.StepCases.{LoadNextStep, load_next_late, sees_normal, sees_other, MarkHeadStep}
use Rattle.trace_model.proofs.steps.StepCases.{mark_late, marks, mark_fails, ClearUpdateStep, clears, OpenFillStep}
use Rattle.trace_model.proofs.steps.StepCases.{open_late, opens, ReleaseFillStep, releases, releases_last, LoadWishStep}
use Rattle.trace_model.proofs.steps.StepCases.{grants, closes_more, goes_away, FrameStep}
use Rattle.trace_model.proofs.histories.NextRecords.{records_snoc}
use Rattle.trace_model.proofs.packing.FillCuts.{opens_of-open_fill, opened_last}
use Rattle.trace_model.proofs.packing.PackedHistories.{tail_is, fit_open}
use Rattle.ring_model.specs.KeptLinks.{LinkKept, is_normal, is_header, is_update, LinksKept}
use Rattle.ring_model.specs.KeptStack.{MayBeIn}
use Rattle.ring_model.specs.KeptPacking.{PackedAt}
use Rattle.ring_model.specs.RingKept.{IsRingKept}
use Rattle.ring_model.specs.Ranks.{state_rank, late_rank, claim_rank, tail_rank, idle_rank, wish_rank, phase_rank}
use Rattle.ring_model.specs.Ranks.{top_rank, frame_rank, StepsComeToAnEnd, EndsComeToAnEnd, FramesAreNearTheirEnd}
use Rattle.trace_model.proofs.Positions.{link_round}
use Rattle.ring_model.proofs.histories.HistorySteps.{top_agrees, top_stack, wishing_left}

-- ---- parts of a rank

pub late_now : (noted opened : ℕ) → noted ≡ opened → late_rank noted opened ≡ 0
late_now noted opened e = ap (λ (b : Bool). if b then 0 else 20) (eq-eqb noted opened e)

pub late_passed : (noted opened : ℕ) → noted ≢ opened → late_rank noted opened ≡ 20
late_passed noted opened ne = ap (λ (b : Bool). if b then 0 else 20) (ne_eqb noted opened ne)

pub late_le : (noted opened : ℕ) → late_rank noted opened ≤ 20
late_le noted opened = cond_both (noted == opened) 0 20 (λ (k : ℕ). k ≤ 20) (λ _. omega arith) (λ _. omega arith)

wish_le : (c : Core) → wish_rank c ≤ 12
wish_le c = cond_both (c.wish == c.opened) 12 0 (λ (k : ℕ). k ≤ 12) (λ _. omega arith) (λ _. omega arith)

wish_now : (c : Core) → c.wish ≡ c.opened → wish_rank c ≡ 12
wish_now c e = ap (λ (b : Bool). if b then 12 else 0) (eq-eqb c.wish c.opened e)

wish_none : (c : Core) → c.wish ≢ c.opened → wish_rank c ≡ 0
wish_none c ne = ap (λ (b : Bool). if b then 12 else 0) (ne_eqb c.wish c.opened ne)

tail_le : (records : List Reservation) → tail_rank records ≤ 32
tail_le [] = omega arith
tail_le (r ∷ records) = omega arith

tail_ge : (records : List Reservation) → 16 ≤ tail_rank records
tail_ge [] = omega arith
tail_ge (r ∷ records) = omega arith

tail_held : (records : List Reservation) → records ≢ [] → tail_rank records ≡ 32
tail_held [] holds = absurd (holds refl)
tail_held (r ∷ records) holds = refl

closing_le : (n : ℕ) (c : Core) (state : Progress) → phase_rank n c state (closing_phase c) ≤ wish_rank c + 1
closing_le n c state =
    cond_both ((c.done + 1) == c.opened) wishing releasing (λ (p : Phase). phase_rank n c state p ≤ wish_rank c + 1)
    (λ _. omega arith) (λ _. omega arith)

pub opened_tail : (h : List HistoryEvent) → tail_of (h ++ open_fill ∷ []) ≡ []
opened_tail h =
    let cuts : List ℕ = opens_of h in
    let xs : List Reservation = reserved_records h in
    tail_is (h ++ open_fill ∷ [])
    ∙ (λ i. tail_at (opens_of-open_fill h i) (records_snoc h open_fill i))
    ∙ ap (λ (k : ℕ). get_or (cut_from 0 (cuts ++ length xs ∷ []) xs) k [])
    (let long = length-append cuts (length xs ∷ []) in
    let e : length (cuts ++ length xs ∷ []) ≡ suc (length cuts) = omega arith in
    e)
    ∙ opened_last 0 cuts xs

-- ---- a frame that leaves, or begins again

leave_le : (n : ℕ) (c : Core) (frame : Frame) (below : List Frame) (payload : Option (List ℕ))
    → length (after_leave c frame below payload).frames ≡ suc (length below)
    → frame_rank n (after_leave c frame below payload) ≤ 3 * (c.opened - c.done) + (wish_rank c + 1)
leave_le n c frame [] payload same = let low = closing_le n c left in
    let le : 3 * (c.opened - c.done) + phase_rank n c left (closing_phase c)
    ≤ 3 * (c.opened - c.done) + (wish_rank c + 1) =
    omega arith in
    closing n c le
  where
    closing : (n : ℕ) (c : Core)
        → 3 * (c.opened - c.done) + phase_rank n c left (closing_phase c) ≤ 3 * (c.opened - c.done) + (wish_rank c + 1)
        → frame_rank n (after_leave c frame [] payload) ≤ 3 * (c.opened - c.done) + (wish_rank c + 1)
    closing n c le =
        cond_both ((c.done + 1) == c.opened) wishing releasing
        (λ (p : Phase).
        3 * (c.opened - c.done) + phase_rank n (after_leave c frame [] payload) left p
        ≤ 3 * (c.opened - c.done) + (wish_rank c + 1)) (λ _. omega arith) (λ _. omega arith)
leave_le n c frame (next ∷ below) payload same =
    absurd (let wrong : suc (length below) ≡ suc (suc (length below)) = same in omega arith)

-- what a frame that begins again has before it, if an idle one has at most i, and one that closes fills at most w
abbrev pub again_rank : ℕ → ℕ → Progress → ℕ
again_rank i w waiting = i
again_rank i w (reserved number) = 15
again_rank i w left = w

begin_le : (n : ℕ) (c : Core) (kind : Purpose) (state : Progress) (frame : Frame) (below : List Frame) (i w : ℕ)
    → frame.state ≡ state → tail_rank (tail_of c.history) ≤ i → wish_rank c + 1 ≤ w → w ≤ i
    → length (after_begin kind state c frame below).frames ≡ suc (length below)
    → frame_rank n (after_begin kind state c frame below) ≤ 3 * (c.opened - c.done) + again_rank i w state
begin_le n c (for_record moment len) waiting frame below i w same low wish_low le stays =
    subst (λ (s : Progress). 3 * (c.opened - c.done) + idle_rank c s ≤ 3 * (c.opened - c.done) + i) (sym same)
    (omega arith)
begin_le n c for_close waiting frame below i w same low wish_low le stays =
    let less =
    leave_le n c frame below None stays in
    omega arith
begin_le n c kind (reserved number) frame below i w same low wish_low le stays =
    subst (λ (s : Progress). 3 * (c.opened - c.done) + idle_rank c s ≤ 3 * (c.opened - c.done) + 15) (sym same)
    (omega arith)
begin_le n c kind left frame below i w same low wish_low le stays = let less = closing_le n c frame.state in omega arith

pub again_lt : (state : Progress) → again_rank 34 13 state < state_rank state + 25
again_lt waiting = omega arith
again_lt (reserved number) = omega arith
again_lt left = omega arith

pub opened_lt : (state : Progress) → again_rank 16 1 state + 3 < state_rank state + 5
opened_lt waiting = omega arith
opened_lt (reserved number) = omega arith
opened_lt left = omega arith

-- ---- a claim

claim_le : (m : Mark) (same : Bool) → claim_rank m same ≤ 11
claim_le header true = omega arith
claim_le header false = omega arith
claim_le normal same = omega arith
claim_le update same = omega arith

claim_ge : (m : Mark) (same : Bool) → 9 ≤ claim_rank m same
claim_ge header true = omega arith
claim_ge header false = omega arith
claim_ge normal same = omega arith
claim_ge update same = omega arith

claim_of : (l : Link) (page lost : ℕ) → l ≡ header_link page lost → claim_rank l.mark (l.page == page) ≡ 9
claim_of l page lost e =
    (λ i. claim_rank (e i).mark ((e i).page == page)) ∙ ap (claim_rank header) (eq-eqb page page refl)

claim_other : (l : Link) (page : ℕ) → (l.mark ≡ header → l.page ≡ page → ⊥) → claim_rank l.mark (l.page == page) ≡ 11
claim_other l page other = by l.mark (l.page == page) refl refl
  where
    by : (m : Mark) (same : Bool) → l.mark ≡ m → (l.page == page) ≡ same → claim_rank m same ≡ 11
    by header true at is = absurd (other at (eqb-true l.page page is))
    by header false at is = refl
    by normal same at is = refl
    by update same at is = refl

-- a HEADER of the page at the position of the fill to open is the head's, and can be claimed
claimable : (n : ℕ) (c : Core) (k : LinksKept n c) (noted page : ℕ) → c.head < noted → noted ≤ c.head + n
    → (link_into n c.links noted).mark ≡ header → (link_into n c.links noted).page ≡ page
    → (lost : ℕ) × (lost + n ≡ noted) × (link_into n c.links noted ≡ header_link page lost)
claimable n c k noted page low high at is = let some_pages = k.some_pages in dite (ℕ_discrete noted (c.head + n))
    (λ e. let turn = ap (link_into n c.links) e ∙ link_round n c.links c.head in (
      c.head,
      sym e,
      turn ∙ reported c.head (k.each c.head (omega arith) (omega arith)) (sym (ap (λ (l : Link). l.mark) turn) ∙ at)
          ∙ ap (λ (p : ℕ). header_link p c.head) (page_is turn),
    ))
    (λ ne. absurd (inside (k.each noted (omega arith) (omega arith))))
  where
    reported : (f : ℕ) → LinkKept n c.links c.order c.head c.frames f → (link_into n c.links f).mark ≡ header
        → link_into n c.links f ≡ header_link (link_into n c.links f).page f
    reported f (is_normal e owed) mark =
        absurd (let m : normal ≡ header = sym (ap (λ (l : Link). l.mark) e) ∙ mark in cc)
    reported f (is_header e here) mark = e ∙ ap (λ (p : ℕ). header_link p f) (sym (ap (λ (l : Link). l.page) e))
    reported f (is_update lost sum e st) mark =
        absurd (let m : update ≡ header = sym (ap (λ (l : Link). l.mark) e) ∙ mark in cc)

    page_is : link_into n c.links noted ≡ link_into n c.links c.head → (link_into n c.links c.head).page ≡ page
    page_is turn = sym (ap (λ (l : Link). l.page) turn) ∙ is

    inside : LinkKept n c.links c.order c.head c.frames noted → ⊥
    inside (is_normal e owed) = let m : normal ≡ header = sym (ap (λ (l : Link). l.mark) e) ∙ at in cc
    inside (is_header e here) = omega arith
    inside (is_update lost sum e st) = let m : update ≡ header = sym (ap (λ (l : Link). l.mark) e) ∙ at in cc

-- ---- the steps of a frame

module _ (n size start : ℕ) (c : Core) (frame : Frame) (below : List Frame) (r : IsRingKept n size start c)
    (top : c.frames ≡ frame ∷ below) where
  k : LinksKept n c
  k = r.links

  old : (phase : Phase) → frame.phase ≡ phase
      → frame_rank n c ≡ 3 * (c.opened - c.done) + phase_rank n c frame.state phase
  old phase same =
      ap (λ (fs : List Frame). 3 * (c.opened - c.done) + top_rank n c fs) top
      ∙ ap (λ (p : Phase). 3 * (c.opened - c.done) + phase_rank n c frame.state p) same

  goes : (after : Core) (phase next : Phase) → frame.phase ≡ phase
      → phase_rank n c frame.state next < phase_rank n c frame.state phase → after ≡ in_phase c frame below next
      → frame_rank n after < frame_rank n c
  goes after phase next same less is = subst (λ (a : Core). frame_rank n a < frame_rank n c) (sym is)
      (subst (λ (m : ℕ). 3 * (c.opened - c.done) + phase_rank n c frame.state next < m) (sym (old phase same))
      (omega arith))

  stands : (after b : Core) → after ≡ b → length after.frames ≡ length c.frames → length b.frames ≡ suc (length below)
  stands after b is stays = sym (ap (λ (a : Core). length a.frames) is) ∙ stays ∙ ap (length {A = Frame}) top

  leaves : (after : Core) (phase : Phase) (payload : Option (List ℕ)) → frame.phase ≡ phase
      → 13 < phase_rank n c frame.state phase → length after.frames ≡ length c.frames
      → after ≡ after_leave c frame below payload → frame_rank n after < frame_rank n c
  leaves after phase payload same high stays is =
      let low = leave_le n c frame below payload (stands after (after_leave c frame below payload) is stays) in
      let wish_low = wish_le c in
      subst (λ (a : Core). frame_rank n a < frame_rank n c) (sym is)
      (subst (λ (m : ℕ). frame_rank n (after_leave c frame below payload) < m) (sym (old phase same)) (omega arith))

  again : (noted : ℕ) (answer : Answer) (after : Core) (phase : Phase) → frame.phase ≡ phase
      → state_rank frame.state + late_rank noted c.opened + 5 ≤ phase_rank n c frame.state phase
      → length after.frames ≡ length c.frames → BeginsAgain c frame below noted answer after
      → frame_rank n after < frame_rank n c
  again noted answer after phase same high stays step =
      let late = late_passed noted c.opened step.passed in
      let wish_low = wish_le c in
      let begun : Core = after_begin frame.kind frame.state c frame below in
      let low =
      begin_le n c frame.kind frame.state frame below 34 13 refl
      (let low = tail_le (tail_of c.history) in omega arith) (omega arith) (omega arith)
      (stands after begun step.after_is stays) in
      let less = again_lt frame.state in
      subst (λ (a : Core). frame_rank n a < frame_rank n c) (sym step.after_is)
      (subst (λ (m : ℕ). frame_rank n begun < m) (sym (old phase same)) (omega arith))

  -- a page is needed only where the tail holds a record
  pub needs_tail : (kind : Purpose) → frame.kind ≡ kind → frame.state ≡ waiting → NeedsPage size c kind
      → tail_of c.history ≢ []
  needs_tail kind kind_is state_is needs =
      let p : PackedAt size c.history c.opened (frame ∷ below) =
      subst (PackedAt size c.history c.opened) top r.packed in
      (fit_open size c.history frame.kind frame.state (pushed_frames below)
      (top_stack n start c frame below r.history top)
      (λ gone. ap pushed_frames ((top_agrees c frame below r.stack top).1 gone)) p.needs.0
      (subst (NeedsFill size (opens_of c.history) (reserved_records c.history) (is_wished c.history) frame.kind)
      (sym state_is)
      (subst
      (λ (x : Purpose).
      NeedsFill size (opens_of c.history) (reserved_records c.history) (is_wished c.history) x waiting)
      (sym kind_is) (fill_for kind needs)))).0
    where
      fill_for : (kind : Purpose) → NeedsPage size c kind
          → NeedsFill size (opens_of c.history) (reserved_records c.history) (is_wished c.history) kind waiting
      fill_for (for_record moment len) needs =
          λ fits.
          needs (subst
          (λ (l : List Reservation).
          FitsBehind size l (reservation_for moment len (reserved_records c.history)))
          (sym (tail_is c.history)) fits)
      fill_for for_close needs = λ none. needs (tail_is c.history ∙ none)

  waiting_rank : frame.state ≡ waiting → phase_rank n c frame.state idle ≡ tail_rank (tail_of c.history)
  waiting_rank same = ap (idle_rank c) same

  reserve_lowers : (answer : Answer) (after : Core) → frame.phase ≡ idle → frame.state ≡ waiting
      → length after.frames ≡ length c.frames → ReserveStep n size c frame below answer after
      → frame_rank n after < frame_rank n c
  reserve_lowers answer after same waits stays (reserves moment len res kind r_is fits a is) =
      let high = tail_ge (tail_of c.history) in let now = waiting_rank waits in
      subst (λ (a : Core). frame_rank n a < frame_rank n c) (sym is)
      (subst (λ (m : ℕ). 3 * (c.opened - c.done) + 15 < m) (sym (old idle same)) (omega arith))
  reserve_lowers answer after same waits stays (finds_nothing kind none a is) =
      leaves after idle None same
      (let high = tail_ge (tail_of c.history) in let now = waiting_rank waits in omega arith) stays is
  reserve_lowers answer after same waits stays (is_crowded needs full a is) =
      leaves after idle None same
      (let high = tail_ge (tail_of c.history) in let now = waiting_rank waits in omega arith) stays is
  reserve_lowers answer after same waits stays (is_worn needs full last a is) =
      leaves after idle None same
      (let high = tail_ge (tail_of c.history) in let now = waiting_rank waits in omega arith) stays is
  reserve_lowers answer after same waits stays (notes needs room small a is) =
      let now = waiting_rank waits in
      let high = tail_held (tail_of c.history) (needs_tail frame.kind refl waits needs) in
      let first = ap state_rank waits in
      let fresh = late_now c.opened c.opened refl in
      goes after idle (looking c.opened) same (omega arith) is

  load_link_lowers : (noted : ℕ) (answer : Answer) (after : Core) → frame.phase ≡ looking noted
      → length after.frames ≡ length c.frames → LoadLinkStep n c frame below noted answer after
      → frame_rank n after < frame_rank n c
  load_link_lowers noted answer after same stays (load_link_late step) =
      again noted answer after (looking noted) same (omega arith) stays step
  load_link_lowers noted answer after same stays (sees_free page now at a is) =
      goes after (looking noted) (opening noted page) same (omega arith) is
  load_link_lowers noted answer after same stays (sees_header page lost now sum at a is) =
      let nine =
      claim_of (link_into n c.links noted) page lost at in
      goes after (looking noted) (claiming noted page) same (omega arith) is
  load_link_lowers noted answer after same stays (sees_update page lost now sum at a is) =
      goes after (looking noted) (looking_next helper noted page) same (omega arith) is

  claim_head_lowers : (noted page : ℕ) (answer : Answer) (after : Core) → frame.phase ≡ claiming noted page
      → length after.frames ≡ length c.frames → ClaimHeadStep n c frame below noted page answer after
      → frame_rank n after < frame_rank n c
  claim_head_lowers noted page answer after same stays (claim_late step) =
      let nine =
      claim_ge (link_into n c.links noted).mark ((link_into n c.links noted).page == page) in
      again noted answer after (claiming noted page) same (omega arith) stays step
  claim_head_lowers noted page answer after same stays (claims lost now sum at a is) =
      let nine = claim_of (link_into n c.links noted) page lost at in
      subst (λ (a : Core). frame_rank n a < frame_rank n c) (sym is)
      (subst (λ (m : ℕ). 3 * (c.opened - c.done) + (state_rank frame.state + late_rank noted c.opened + 8) < m)
      (sym (old (claiming noted page) same)) (omega arith))
  claim_head_lowers noted page answer after same stays (claim_fails now other a is) =
      let unread = k.head_le in let behind = k.done_lt in let within = k.opened_le in
      let eleven =
      claim_other (link_into n c.links noted) page
      (λ at is. let (lost, sum, it) = claimable n c k noted page (omega arith) (omega arith) at is in
      other lost sum it) in
      goes after (claiming noted page) (looking noted) same (omega arith) is

  load_next_lowers : (role : Role) (noted page : ℕ) (answer : Answer) (after : Core)
      → frame.phase ≡ looking_next role noted page → length after.frames ≡ length c.frames
      → LoadNextStep n c frame below role noted page answer after → frame_rank n after < frame_rank n c
  load_next_lowers role noted page answer after same stays (load_next_late helps step) =
      again noted answer after (looking_next role noted page) same (omega arith) stays step
  load_next_lowers role noted page answer after same stays (sees_normal lost next goes_on sum at a is) =
      goes after (looking_next role noted page) (marking role noted page next) same (omega arith) is
  load_next_lowers role noted page answer after same stays (sees_other lost goes_on sum other a is) =
      goes after (looking_next role noted page) (after_next role noted page) same (next_less role 8 (omega arith)) is
    where
      next_less : (role : Role) (m : ℕ) → 6 < m
          → phase_rank n c frame.state (after_next role noted page)
          < state_rank frame.state + late_rank noted c.opened + m
      next_less owner m less = omega arith
      next_less helper m less = omega arith

  mark_head_lowers : (role : Role) (noted page next : ℕ) (answer : Answer) (after : Core)
      → frame.phase ≡ marking role noted page next → length after.frames ≡ length c.frames
      → MarkHeadStep n c frame below role noted page next answer after → frame_rank n after < frame_rank n c
  mark_head_lowers role noted page next answer after same stays (mark_late helps step) =
      again noted answer after (marking role noted page next) same (omega arith) stays step
  mark_head_lowers role noted page next answer after same stays (marks lost goes_on sum at a is) =
      subst (λ (a : Core). frame_rank n a < frame_rank n c) (sym is)
      (subst (λ (m : ℕ). frame_rank n (marked role) < m) (sym (old (marking role noted page next) same))
      (less role))
    where
      marked : Role → Core
      marked role =
          in_phase (with_link n c (suc lost) (header_link next (suc lost))) frame below (after_next role noted page)

      less : (role : Role)
          → frame_rank n (marked role)
          < 3 * (c.opened - c.done) + (state_rank frame.state + late_rank noted c.opened + 7)
      less owner = omega arith
      less helper = omega arith
  mark_head_lowers role noted page next answer after same stays (mark_fails lost goes_on sum other a is) =
      goes after (marking role noted page next) (after_next role noted page) same (less role) is
    where
      less : (role : Role)
          → phase_rank n c frame.state (after_next role noted page)
          < state_rank frame.state + late_rank noted c.opened + 7
      less owner = omega arith
      less helper = omega arith

  clear_update_lowers : (noted page : ℕ) (answer : Answer) (after : Core) → frame.phase ≡ clearing noted page
      → length after.frames ≡ length c.frames → ClearUpdateStep n c frame below noted page answer after
      → frame_rank n after < frame_rank n c
  clear_update_lowers noted page answer after same stays (clears lost sum at a is) =
      subst (λ (a : Core). frame_rank n a < frame_rank n c) (sym is)
      (subst (λ (m : ℕ). 3 * (c.opened - c.done) + (state_rank frame.state + late_rank noted c.opened + 5) < m)
      (sym (old (clearing noted page) same)) (omega arith))

  open_fill_lowers : (noted page : ℕ) (answer : Answer) (after : Core) → frame.phase ≡ opening noted page
      → length after.frames ≡ length c.frames → OpenFillStep n c frame below noted page answer after
      → frame_rank n after < frame_rank n c
  open_fill_lowers noted page answer after same stays (open_late step) =
      again noted answer after (opening noted page) same (omega arith) stays step
  open_fill_lowers noted page answer after same stays (opens now a is) =
      let behind = k.done_lt in let seen_le = k.seen_le in let asks_le = k.wish_le in
      let grown : Core = with_new_tail c page in
      let begun : Core = after_begin frame.kind frame.state grown frame below in
      let unasked : wish_rank grown ≡ 0 = wish_none grown (λ e. let w : c.wish ≡ c.opened + 1 = e in omega arith) in
      let bare : tail_rank (tail_of grown.history) ≡ 16 = ap tail_rank (opened_tail c.history) in
      let low =
      begin_le n grown frame.kind frame.state frame below 16 1 refl (omega arith) (omega arith) (omega arith)
      (stands after begun is stays) in
      let le : frame_rank n begun ≤ 3 * ((c.opened + 1) - c.done) + again_rank 16 1 frame.state = low in
      let less = opened_lt frame.state in
      subst (λ (a : Core). frame_rank n a < frame_rank n c) (sym is)
      (subst (λ (m : ℕ). frame_rank n begun < m) (sym (old (opening noted page) same)) (omega arith))

  release_fill_lowers : (answer : Answer) (after : Core) → frame.phase ≡ releasing
      → ReleaseFillStep c frame below answer after → frame_rank n after < frame_rank n c
  release_fill_lowers answer after same (releases alone more a is) =
      subst (λ (a : Core). frame_rank n a < frame_rank n c) (sym is)
      (subst
      (λ (fs : List Frame).
      3 * (c.opened - (c.done + 1)) + top_rank n c fs < 3 * (c.opened - c.done) + top_rank n c fs) (sym top)
      (omega arith))
  release_fill_lowers answer after same (releases_last alone last a is) =
      subst (λ (a : Core). frame_rank n a < frame_rank n c) (sym is)
      (subst (λ (m : ℕ). 3 * (c.opened - (c.done + 1)) + (wish_rank c + 1) < m) (sym (old releasing same))
      (omega arith))

  load_wish_lowers : (answer : Answer) (after : Core) → frame.phase ≡ wishing → length after.frames ≡ length c.frames
      → LoadWishStep n c frame below answer after → frame_rank n after < frame_rank n c
  load_wish_lowers answer after same stays (grants alone granted a is) =
      let asked = wish_now c granted.asks_tail in
      let gone =
      ap state_rank
      (wishing_left frame.kind frame.state
      (subst (MayBeIn frame.kind frame.state) same (top_agrees c frame below r.stack top).0)) in
      let fresh = late_now c.opened c.opened refl in
      subst (λ (a : Core). frame_rank n a < frame_rank n c) (sym is)
      (subst (λ (m : ℕ). 3 * (c.opened - c.done) + (state_rank frame.state + late_rank c.opened c.opened + 10) < m)
      (sym (old wishing same)) (omega arith))
  load_wish_lowers answer after same stays (closes_more alone denied more a is) =
      goes after wishing releasing same (omega arith) is
  load_wish_lowers answer after same stays (goes_away alone denied none_left a is) =
      absurd (let none : 0 ≡ suc (length below) = stands after (record c { frames = [] }) is stays in omega arith)

  idle_lowers : (state : Progress) (answer : Answer) (after : Core) → frame.phase ≡ idle → frame.state ≡ state
      → number_of state ≡ None → length after.frames ≡ length c.frames
      → IdleStep n size c frame below state answer after → frame_rank n after < frame_rank n c
  idle_lowers waiting answer after same at none stays step = reserve_lowers answer after same at stays step
  idle_lowers (reserved number) answer after same at none stays step = absurd cc
  idle_lowers left answer after same at none stays step = absurd step

  frame_lowers : (phase : Phase) (answer : Answer) (after : Core) → frame.phase ≡ phase → number_of frame.state ≡ None
      → length after.frames ≡ length c.frames → FrameStep n size c frame below phase answer after
      → frame_rank n after < frame_rank n c
  frame_lowers idle answer after same none stays step = idle_lowers frame.state answer after same refl none stays step
  frame_lowers (looking noted) answer after same none stays step = load_link_lowers noted answer after same stays step
  frame_lowers (claiming noted page) answer after same none stays step =
      claim_head_lowers noted page answer after same stays step
  frame_lowers (looking_next role noted page) answer after same none stays step =
      load_next_lowers role noted page answer after same stays step
  frame_lowers (marking role noted page next) answer after same none stays step =
      mark_head_lowers role noted page next answer after same stays step
  frame_lowers (clearing noted page) answer after same none stays step =
      clear_update_lowers noted page answer after same stays step
  frame_lowers (opening noted page) answer after same none stays step =
      open_fill_lowers noted page answer after same stays step
  frame_lowers releasing answer after same none stays step = release_fill_lowers answer after same step
  frame_lowers wishing answer after same none stays step = load_wish_lowers answer after same stays step

pub steps_lower : StepsComeToAnEnd
steps_lower n size start c frame below answer after r top none step stays =
    frame_lowers n size start c frame below r top frame.phase answer after refl none stays
    (top_step frame below frame.phase top refl step)

-- a frame that has reserved touches no word
pub reserved_idle : (kind : Purpose) (state : Progress) (phase : Phase) (number : ℕ) → state ≡ reserved number
    → MayBeIn kind state phase → phase ≡ idle
reserved_idle kind waiting phase number at may = absurd cc
reserved_idle kind (reserved m) phase number at may = may.1
reserved_idle kind left phase number at may = absurd cc

pub ends_lower : EndsComeToAnEnd
ends_lower n size start c frame below number payload answer after r top own step stays =
    let end = top_ends payload frame below number top own step in
    leaves n size start c frame below r top after idle (Some payload)
    (reserved_idle frame.kind frame.state frame.phase number own (top_agrees c frame below r.stack top).0)
    (subst (λ (x : Progress). 13 < idle_rank c x) (sym own) (omega arith)) stays end.after_is

-- ---- the limit

pub state_le : (state : Progress) → state_rank state ≤ 20
state_le waiting = omega arith
state_le (reserved number) = omega arith
state_le left = omega arith

idle_le : (c : Core) (state : Progress) → idle_rank c state ≤ 32
idle_le c waiting = tail_le (tail_of c.history)
idle_le c (reserved number) = omega arith
idle_le c left = omega arith

phase_le : (n : ℕ) (c : Core) (state : Progress) (phase : Phase) → phase_rank n c state phase ≤ 51
phase_le n c state idle = let low = idle_le c state in omega arith
phase_le n c state (looking noted) = let a = state_le state in let b = late_le noted c.opened in omega arith
phase_le n c state (claiming noted page) = let a = state_le state in
    let b = late_le noted c.opened in
    let d = claim_le (link_into n c.links noted).mark ((link_into n c.links noted).page == page) in
    omega arith
phase_le n c state (looking_next role noted page) = let a = state_le state in
    let b = late_le noted c.opened in
    omega arith
phase_le n c state (marking role noted page next) = let a = state_le state in
    let b = late_le noted c.opened in
    omega arith
phase_le n c state (clearing noted page) = let a = state_le state in let b = late_le noted c.opened in omega arith
phase_le n c state (opening noted page) = let a = state_le state in let b = late_le noted c.opened in omega arith
phase_le n c state releasing = let low = wish_le c in omega arith
phase_le n c state wishing = let low = wish_le c in omega arith

top_le : (n : ℕ) (c : Core) (frames : List Frame) → top_rank n c frames ≤ 51
top_le n c [] = omega arith
top_le n c (frame ∷ below) = phase_le n c frame.state frame.phase

pub frames_are_near : FramesAreNearTheirEnd
frames_are_near n size start c r = let low = top_le n c c.frames in
    let a = r.links.head_le in
    let b = r.links.opened_le in
    omega arith
