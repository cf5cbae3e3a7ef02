-- The reader's wish: how the last frame leaves the stack, that the wish is answered, and that it loses nothing.
use Rattle.std.proofs.Common.{◌≡◌, ◌≢◌, ℕ, ◌+◌, ◌<◌, ◌≤◌, ◌⊎◌, List, [], ◌∷◌, ◌++◌, refl, sym, ap, ◌∙◌, subst, inl, inr}
use Rattle.std.proofs.Common.{⊎_elim, arith}
use mathlib.Core.Logic.{dite}
use native.Mathlib.Decide.{ℕ_discrete, dec_le}
use Rattle.trace_model.specs.declared.limits.TheConstants.{LINK_FILLS}
use Rattle.trace_model.specs.History.{HistoryEvent, Reservation}
use Rattle.trace_model.specs.Packing.{tail_of}
use Rattle.trace_model.specs.Frames.{Purpose, for_record, for_close, Progress, waiting, reserved, left, Phase, idle}
use Rattle.trace_model.specs.Frames.{looking, claiming, looking_next, marking, clearing, opening, releasing, wishing}
use Rattle.trace_model.specs.Frames.{Frame}
use Rattle.trace_model.specs.Ring.{ReaderPhase, loading_head, loading_done, storing_spare_link, swapping, Core}
use Rattle.trace_model.specs.Ring.{window_of}
use Rattle.trace_model.specs.Steps.{Event, Answer, gone, empty, IsGranted, with_new_tail, frames_after_leave}
use Rattle.trace_model.specs.Steps.{after_begin, Step, Exchange, Run}
use Rattle.trace_model.proofs.steps.EventSteps.{reader_wishes}
use Rattle.trace_model.proofs.steps.StepCases.{StepCases, BeginsAgain, reserves, finds_nothing, is_crowded, is_worn}
use Rattle.trace_model.proofs.steps.StepCases.{notes, load_link_late, sees_free, sees_header, sees_update, claim_late}
use Rattle.trace_model.proofs.steps.StepCases.{claims, claim_fails, load_next_late, sees_normal, sees_other, mark_late}
use Rattle.trace_model.proofs.steps.StepCases.{marks, mark_fails, clears, open_late, opens, releases, releases_last}
use Rattle.trace_model.proofs.steps.StepCases.{grants, closes_more, goes_away, IdleStep, FrameStep, loads_header}
use Rattle.trace_model.proofs.steps.StepCases.{loads_update, loads_owed, loads_passed, finds_none, finds_closed, swaps}
use Rattle.trace_model.proofs.steps.StepCases.{swap_fails, ReadStep, push_step, push_refused, close_step, close_refused}
use Rattle.trace_model.proofs.steps.StepCases.{frame_step, frame_lacks, end_step, end_lacks, end_early, read_step}
use Rattle.trace_model.proofs.steps.StepCases.{store_wish_step}
use Rattle.trace_model.proofs.steps.StepSound.{cases_of}
use Rattle.ring_model.specs.RingKept.{IsRingKept}
use Rattle.ring_model.specs.WishLaws.{WishesAreHeld, GoneHasLooked, WishesAreAnswered, WishedTailsAreClosed}
use Rattle.ring_model.specs.WishLaws.{WishBehindEmptyLosesNone}
use Rattle.ring_model.proofs.partition.RingsKept.{run_snoc, ring_step, ring_run}
use Rattle.ring_model.proofs.histories.StepsAsEvents.{leads_run, counts_rise}
use Rattle.ring_model.proofs.frames.AnswersRight.{empty_right}
use Rattle.ring_model.proofs.wishes.Tails.{tail_over}

-- ---- the wish is stored

pub wishes_held : WishesAreHeld
wishes_held n size start c answer after r step = let made = reader_wishes step in (made.0, made.1, r.links.seen_le)

-- ---- the last frame leaves

some_stands : (frame : Frame) (below : List Frame) → frame ∷ below ≢ []
some_stands frame below e = cc

leave_stays : (c : Core) (frame : Frame) (below : List Frame) → frames_after_leave c frame below ≢ []
leave_stays c frame [] = some_stands _ []
leave_stays c frame (next ∷ below) = some_stands next below

begin_stays : (c : Core) (frame : Frame) (below : List Frame) (kind : Purpose) (state : Progress)
    → (after_begin kind state c frame below).frames ≢ []
begin_stays c frame below (for_record moment len) waiting = some_stands _ below
begin_stays c frame below for_close waiting = leave_stays c frame below
begin_stays c frame below kind (reserved number) = some_stands _ below
begin_stays c frame below kind left = some_stands _ below

-- how the last frame is gone
record HasLooked (n : ℕ) (c : Core) (below : List Frame) (phase : Phase) (answer : Answer) : Type 0 where
  pub alone : below ≡ []
  pub looked : phase ≡ wishing
  pub is_gone : answer ≡ gone
  pub denied : IsGranted n c → ⊥
  pub closed : c.done + 1 ≡ c.opened

module _ (n size : ℕ) (c : Core) (frame : Frame) (below : List Frame) (answer : Answer) (after : Core)
    (top : c.frames ≡ frame ∷ below) (none : after.frames ≡ []) where
  stands : (next : Core) → after ≡ next → next.frames ≢ [] → ⊥
  stands next is some = some (sym (ap (λ (x : Core). x.frames) is) ∙ none)

  goes : (next : Core) (there : Frame) → next.frames ≡ there ∷ below → after ≡ next → ⊥
  goes next there e is = stands next is (λ none_there. some_stands there below (sym e ∙ none_there))

  again : (noted : ℕ) → BeginsAgain c frame below noted answer after → ⊥
  again noted step = stands _ step.after_is (begin_stays c frame below frame.kind frame.state)

  gone_frame : (phase : Phase) → FrameStep n size c frame below phase answer after → HasLooked n c below phase answer
  gone_frame idle step = absurd (idle_stays frame.state step)
    where
      idle_stays : (state : Progress) → IdleStep n size c frame below state answer after → ⊥
      idle_stays waiting (reserves moment len r kind r_is fits a is) = goes _ _ refl is
      idle_stays waiting (finds_nothing kind nothing a is) = stands _ is (leave_stays c frame below)
      idle_stays waiting (is_crowded needs full a is) = stands _ is (leave_stays c frame below)
      idle_stays waiting (is_worn needs full last a is) = stands _ is (leave_stays c frame below)
      idle_stays waiting (notes needs room small a is) = goes _ _ refl is
      idle_stays (reserved number) step' = goes c frame top step'.1
      idle_stays left step' = step'
  gone_frame (looking noted) (load_link_late step) = absurd (again noted step)
  gone_frame (looking noted) (sees_free page now at a is) = absurd (goes _ _ refl is)
  gone_frame (looking noted) (sees_header page lost now sum at a is) = absurd (goes _ _ refl is)
  gone_frame (looking noted) (sees_update page lost now sum at a is) = absurd (goes _ _ refl is)
  gone_frame (claiming noted page) (claim_late step) = absurd (again noted step)
  gone_frame (claiming noted page) (claims lost now sum at a is) = absurd (goes _ _ refl is)
  gone_frame (claiming noted page) (claim_fails now other a is) = absurd (goes _ _ refl is)
  gone_frame (looking_next role noted page) (load_next_late helps step) = absurd (again noted step)
  gone_frame (looking_next role noted page) (sees_normal lost next goes_on sum at a is) = absurd (goes _ _ refl is)
  gone_frame (looking_next role noted page) (sees_other lost goes_on sum other a is) = absurd (goes _ _ refl is)
  gone_frame (marking role noted page next) (mark_late helps step) = absurd (again noted step)
  gone_frame (marking role noted page next) (marks lost goes_on sum at a is) = absurd (goes _ _ refl is)
  gone_frame (marking role noted page next) (mark_fails lost goes_on sum other a is) = absurd (goes _ _ refl is)
  gone_frame (clearing noted page) (clears lost sum at a is) = absurd (goes _ _ refl is)
  gone_frame (opening noted page) (open_late step) = absurd (again noted step)
  gone_frame (opening noted page) (opens now a is) =
      absurd (stands _ is (begin_stays (with_new_tail c page) frame below frame.kind frame.state))
  gone_frame releasing (releases alone more a is) = absurd (goes _ frame top is)
  gone_frame releasing (releases_last alone last a is) = absurd (goes _ _ refl is)
  gone_frame wishing (grants alone granted a is) = absurd (goes _ _ refl is)
  gone_frame wishing (closes_more alone denied more a is) = absurd (goes _ _ refl is)
  gone_frame wishing (goes_away alone denied last a is) =
      record { alone = alone; looked = refl; is_gone = a; denied = denied; closed = last }

same_top : (frame other : Frame) (below under : List Frame) → ◌≡◌ {A = List Frame} (frame ∷ below) (other ∷ under)
    → (frame ≡ other) × (below ≡ under)
same_top frame other below under e = (cc, cc)

read_stays : (n : ℕ) (c : Core) (phase : ReaderPhase) (answer : Answer) (after : Core) → ReadStep n c phase answer after
    → (after.frames ≡ c.frames) × (after.wish ≡ c.wish)
read_stays n c loading_head answer after (loads_header page fill at a is) =
    (ap (λ (x : Core). x.frames) is, ap (λ (x : Core). x.wish) is)
read_stays n c loading_head answer after (loads_update page lost at a is) =
    (ap (λ (x : Core). x.frames) is, ap (λ (x : Core). x.wish) is)
read_stays n c loading_head answer after (loads_owed page at a is) =
    (ap (λ (x : Core). x.frames) is, ap (λ (x : Core). x.wish) is)
read_stays n c loading_head answer after (loads_passed page fill least at more sum a is) =
    (ap (λ (x : Core). x.frames) is, ap (λ (x : Core). x.wish) is)
read_stays n c (loading_done page fill) answer after (finds_none le a is) =
    (ap (λ (x : Core). x.frames) is, ap (λ (x : Core). x.wish) is)
read_stays n c (loading_done page fill) answer after (finds_closed below a is) =
    (ap (λ (x : Core). x.frames) is, ap (λ (x : Core). x.wish) is)
read_stays n c (storing_spare_link page fill) answer after step =
    (ap (λ (x : Core). x.frames) step.after_is, ap (λ (x : Core). x.wish) step.after_is)
read_stays n c (swapping page fill) answer after (swaps at a is) =
    (ap (λ (x : Core). x.frames) is, ap (λ (x : Core). x.wish) is)
read_stays n c (swapping page fill) answer after (swap_fails at a is) =
    (ap (λ (x : Core). x.frames) is, ap (λ (x : Core). x.wish) is)

looked_step : (n size : ℕ) (c : Core) (event : Event) (answer : Answer) (after : Core) (frame : Frame)
    (below : List Frame) → c.frames ≡ frame ∷ below → StepCases n size c event answer after → after.frames ≡ []
    → HasLooked n c below frame.phase answer
looked_step n size c event answer after frame below top (push_step moment len e few fits early a is) none =
    absurd (some_stands _ c.frames (sym (ap (λ (x : Core). x.frames) is) ∙ none))
looked_step n size c event answer after frame below top (push_refused moment len why e refused a is) none =
    absurd (some_stands frame below (sym top ∙ sym (ap (λ (x : Core). x.frames) is) ∙ none))
looked_step n size c event answer after frame below top (close_step e few a is) none =
    absurd (some_stands _ c.frames (sym (ap (λ (x : Core). x.frames) is) ∙ none))
looked_step n size c event answer after frame below top (close_refused e many a is) none =
    absurd (some_stands frame below (sym top ∙ sym (ap (λ (x : Core). x.frames) is) ∙ none))
looked_step n size c event answer after frame below top (frame_step other under e there step) none =
    let (is_frame, is_below) = same_top other frame under below (sym there ∙ top) in
    subst (λ (f : Frame). HasLooked n c below f.phase answer) is_frame
    (subst (λ (b : List Frame). HasLooked n c b other.phase answer) is_below
    (gone_frame n size c other under answer after there none other.phase step))
looked_step n size c event answer after frame below top (frame_lacks e lacks a is) none =
    absurd (some_stands frame below (sym top ∙ lacks))
looked_step n size c event answer after frame below top
    (end_step payload other under number moment len e there state kind slot a is) none =
    absurd (leave_stays c other under (sym (ap (λ (x : Core). x.frames) is) ∙ none))
looked_step n size c event answer after frame below top (end_lacks payload e lacks a is) none =
    absurd (some_stands frame below (sym top ∙ lacks))
looked_step n size c event answer after frame below top (end_early payload other under e there lacks a is) none =
    absurd (some_stands frame below (sym top ∙ sym (ap (λ (x : Core). x.frames) is) ∙ none))
looked_step n size c event answer after frame below top (read_step e step) none =
    absurd (some_stands frame below (sym top ∙ sym (read_stays n c c.reader.phase answer after step).0 ∙ none))
looked_step n size c event answer after frame below top (store_wish_step e a is) none =
    absurd (some_stands frame below (sym top ∙ sym (ap (λ (x : Core). x.frames) is) ∙ none))

tail_cases : (records : List Reservation) → (records ≡ []) ⊎ (records ≢ [])
tail_cases [] = inl refl
tail_cases (r ∷ records) = inr (λ e. cc)

-- a wish for the tail that isn't granted
denied_why : (n : ℕ) (c : Core) → (IsGranted n c → ⊥) → c.wish ≡ c.opened
    → (tail_of c.history ≡ []) ⊎ (LINK_FILLS ≤ c.opened + n)
denied_why n c denied asks = ⊎_elim (λ none. inl none)
    (λ some.
    inr (dite (dec_le LINK_FILLS (c.opened + n)) (λ last. last)
    (λ more. absurd (denied record { asks_tail = asks; holds_record = some; numbers_left = omega arith }))))
    (tail_cases (tail_of c.history))

pub gone_has_looked : GoneHasLooked
gone_has_looked n size c event answer after frame below top step none =
    let l =
    looked_step n size c event answer after frame below top (cases_of step) none in
    (l.alone, l.looked, l.is_gone, λ asks. denied_why n c l.denied (asks ∙ l.closed))

-- ---- the wish is answered

begin_wish : (c : Core) (frame : Frame) (below : List Frame) (kind : Purpose) (state : Progress)
    → (after_begin kind state c frame below).wish ≡ c.wish
begin_wish c frame below (for_record moment len) waiting = refl
begin_wish c frame below for_close waiting = refl
begin_wish c frame below kind (reserved number) = refl
begin_wish c frame below kind left = refl

wish_is : (c after next : Core) → after ≡ next → next.wish ≡ c.wish → after.wish ≡ c.wish
wish_is c after next is same = ap (λ (x : Core). x.wish) is ∙ same

again_wish : (c : Core) (frame : Frame) (below : List Frame) (noted : ℕ) (answer : Answer) (after : Core)
    → BeginsAgain c frame below noted answer after → after.wish ≡ c.wish
again_wish c frame below noted answer after step =
    wish_is c after _ step.after_is (begin_wish c frame below frame.kind frame.state)

idle_wish : (n size : ℕ) (c : Core) (frame : Frame) (below : List Frame) (state : Progress) (answer : Answer)
    (after : Core) → IdleStep n size c frame below state answer after → after.wish ≡ c.wish
idle_wish n size c frame below waiting answer after (reserves moment len r kind r_is fits a is) =
    wish_is c after _ is refl
idle_wish n size c frame below waiting answer after (finds_nothing kind none a is) = wish_is c after _ is refl
idle_wish n size c frame below waiting answer after (is_crowded needs full a is) = wish_is c after _ is refl
idle_wish n size c frame below waiting answer after (is_worn needs full last a is) = wish_is c after _ is refl
idle_wish n size c frame below waiting answer after (notes needs room small a is) = wish_is c after _ is refl
idle_wish n size c frame below (reserved number) answer after step = wish_is c after c step.1 refl
idle_wish n size c frame below left answer after step = absurd step

frame_wish : (n size : ℕ) (c : Core) (frame : Frame) (below : List Frame) (phase : Phase) (answer : Answer)
    (after : Core) → FrameStep n size c frame below phase answer after → after.wish ≡ c.wish
frame_wish n size c frame below idle answer after step = idle_wish n size c frame below frame.state answer after step
frame_wish n size c frame below (looking noted) answer after (load_link_late step) =
    again_wish c frame below noted answer after step
frame_wish n size c frame below (looking noted) answer after (sees_free page now at a is) = wish_is c after _ is refl
frame_wish n size c frame below (looking noted) answer after (sees_header page lost now sum at a is) =
    wish_is c after _ is refl
frame_wish n size c frame below (looking noted) answer after (sees_update page lost now sum at a is) =
    wish_is c after _ is refl
frame_wish n size c frame below (claiming noted page) answer after (claim_late step) =
    again_wish c frame below noted answer after step
frame_wish n size c frame below (claiming noted page) answer after (claims lost now sum at a is) =
    wish_is c after _ is refl
frame_wish n size c frame below (claiming noted page) answer after (claim_fails now other a is) =
    wish_is c after _ is refl
frame_wish n size c frame below (looking_next role noted page) answer after (load_next_late helps step) =
    again_wish c frame below noted answer after step
frame_wish n size c frame below (looking_next role noted page) answer after
    (sees_normal lost next goes_on sum at a is) =
    wish_is c after _ is refl
frame_wish n size c frame below (looking_next role noted page) answer after (sees_other lost goes_on sum other a is) =
    wish_is c after _ is refl
frame_wish n size c frame below (marking role noted page next) answer after (mark_late helps step) =
    again_wish c frame below noted answer after step
frame_wish n size c frame below (marking role noted page next) answer after (marks lost goes_on sum at a is) =
    wish_is c after _ is refl
frame_wish n size c frame below (marking role noted page next) answer after (mark_fails lost goes_on sum other a is) =
    wish_is c after _ is refl
frame_wish n size c frame below (clearing noted page) answer after (clears lost sum at a is) = wish_is c after _ is refl
frame_wish n size c frame below (opening noted page) answer after (open_late step) =
    again_wish c frame below noted answer after step
frame_wish n size c frame below (opening noted page) answer after (opens now a is) =
    wish_is c after _ is (begin_wish (with_new_tail c page) frame below frame.kind frame.state)
frame_wish n size c frame below releasing answer after (releases alone more a is) = wish_is c after _ is refl
frame_wish n size c frame below releasing answer after (releases_last alone last a is) = wish_is c after _ is refl
frame_wish n size c frame below wishing answer after (grants alone granted a is) = wish_is c after _ is refl
frame_wish n size c frame below wishing answer after (closes_more alone denied more a is) = wish_is c after _ is refl
frame_wish n size c frame below wishing answer after (goes_away alone denied last a is) = wish_is c after _ is refl

-- the wish stays, or is the one after what the reader has seen
wish_moves : (n size : ℕ) (c : Core) (event : Event) (answer : Answer) (after : Core)
    → StepCases n size c event answer after → (after.wish ≡ c.wish) ⊎ (after.wish ≡ c.reader.seen + 1)
wish_moves n size c event answer after (push_step moment len e few fits early a is) = inl (wish_is c after _ is refl)
wish_moves n size c event answer after (push_refused moment len why e refused a is) = inl (wish_is c after _ is refl)
wish_moves n size c event answer after (close_step e few a is) = inl (wish_is c after _ is refl)
wish_moves n size c event answer after (close_refused e many a is) = inl (wish_is c after _ is refl)
wish_moves n size c event answer after (frame_step frame below e top step) =
    inl (frame_wish n size c frame below frame.phase answer after step)
wish_moves n size c event answer after (frame_lacks e none a is) = inl (wish_is c after _ is refl)
wish_moves n size c event answer after (end_step payload frame below number moment len e top state kind slot a is) =
    inl (wish_is c after _ is refl)
wish_moves n size c event answer after (end_lacks payload e none a is) = inl (wish_is c after _ is refl)
wish_moves n size c event answer after (end_early payload frame below e top none a is) = inl (wish_is c after _ is refl)
wish_moves n size c event answer after (read_step e step) = inl (read_stays n c c.reader.phase answer after step).1
wish_moves n size c event answer after (store_wish_step e a is) = inr (ap (λ (x : Core). x.wish) is)

-- The wish of a state isn't answered yet: no fill more is closed.
record IsPending (c s : Core) : Type 0 where
  pub closed : s.done ≡ c.done
  pub asks : s.wish ≡ c.done + 1

frames_of : (frames : List Frame) → frames ≢ [] → (frame : Frame) × (below : List Frame) × (frames ≡ frame ∷ below)
frames_of [] some = absurd (some refl)
frames_of (frame ∷ below) some = (frame, below, refl)

module _ (n size start : ℕ) (c : Core) where
  -- while the wish is pending, the last frame is gone only where the tail isn't to be closed
  pending_gone : (s : Core) (event : Event) (answer : Answer) (after : Core) → IsPending c s
      → Step n size s event answer after → s.frames ≢ [] → after.frames ≡ []
      → (tail_of s.history ≡ []) ⊎ (LINK_FILLS ≤ s.opened + n)
  pending_gone s event answer after p step stand none =
      let (frame, below, top) = frames_of s.frames stand in
      let l = looked_step n size s event answer after frame below top (cases_of step) none in
      let last = l.closed in let closed = p.closed in let asks = p.asks in
      denied_why n s l.denied (omega arith)

  pending_step : (s : Core) (event : Event) (answer : Answer) (after : Core) → IsRingKept n size start s
      → Step n size s event answer after → IsPending c s → IsPending c after ⊎ (c.done < after.done)
  pending_step s event answer after r step p =
      let rises =
      counts_rise n size start s after (record { event = event; answer = answer } ∷ []) r (after, step, refl) in
      let dones = rises.1 in let closed = p.closed in let asks = p.asks in
      let seen = r.links.seen_le in let wish = r.links.wish_le in
      dite (ℕ_discrete after.done c.done)
      (λ same. inl record {
        closed = same;
        asks =
            ⊎_elim (λ stays. stays ∙ asks) (λ new. omega arith)
            (wish_moves n size s event answer after (cases_of step));
      })
      (λ more. inr (omega arith))

  pending_run : (s after : Core) (exchanges : List Exchange) → IsRingKept n size start s → Run n size s exchanges after
      → IsPending c s ⊎ (c.done < s.done) → IsPending c after ⊎ (c.done < after.done)
  pending_run s after [] r run p = subst (λ (x : Core). IsPending c x ⊎ (c.done < x.done)) run p
  pending_run s after (x ∷ exchanges) r (between, step, run) p =
      pending_run between after exchanges (ring_step n size start s x.event x.answer between r step) run
      (⊎_elim (λ pending. pending_step s x.event x.answer between r step pending)
      (λ done. let rises = counts_rise n size start s between (x ∷ []) r (between, step, refl) in
      let dones = rises.1 in
      inr (omega arith)) p)

  -- while no fill is begun, the tail goes on to hold a record
  tail_run : (s : Core) (exchanges : List Exchange) → IsRingKept n size start c → Run n size c exchanges s
      → s.opened ≡ c.opened → tail_of c.history ≢ [] → tail_of s.history ≢ []
  tail_run s exchanges r run same some = let x = leads_run n size start c s exchanges r run in
      subst (λ (h : List HistoryEvent). tail_of h ≢ []) (sym x.history_events)
      (tail_over n c.history (window_of c) x.events (window_of s) r.contents.rising x.window same some)

  -- no state without a frame comes before the fill is closed
  stands_run : (s after : Core) (front exchanges : List Exchange) → tail_of c.history ≢ [] → c.opened + n < LINK_FILLS
      → IsRingKept n size start c → IsRingKept n size start s → Run n size c front s → Run n size s exchanges after
      → IsPending c s → s.frames ≢ [] → after.frames ≡ [] → c.done < after.done
  stands_run s after front [] some least r k before run p stand none =
      absurd (stand (ap (λ (x : Core). x.frames) run ∙ none))
  stands_run s after front (x ∷ exchanges) some least r k before (between, step, run) p stand none =
      let kept = ring_step n size start s x.event x.answer between k step in
      ⊎_elim
      (λ pending. none_or_some between.frames
      (λ gone. absurd (
      let (frame, below, top) = frames_of s.frames stand in
      let l = looked_step n size s x.event x.answer between frame below top (cases_of step) gone in
      let last = l.closed in let closed = p.closed in let behind = r.links.done_lt in
      let rises = counts_rise n size start c s front r before in let opens = rises.2 in
      ⊎_elim (λ empty. tail_run s front r before (omega arith) some empty) (λ full. omega arith)
      (pending_gone s x.event x.answer between p step stand gone)))
      (λ stands.
      stands_run between after (front ++ x ∷ []) exchanges some least r kept
      (run_snoc n size c s between front x before step) run pending stands none))
      (λ done. let rises = counts_rise n size start between after exchanges kept run in
      let dones = rises.1 in
      omega arith)
      (pending_step s x.event x.answer between k step p)
    where
      none_or_some : {B : Type 0} (frames : List Frame) → (frames ≡ [] → B) → (frames ≢ [] → B) → B
      none_or_some [] f g = f refl
      none_or_some (frame ∷ below) f g = g (some_stands frame below)

pub wishes_answered : WishesAreAnswered
wishes_answered n size start c before exchanges event answer after r asks run step stand none =
    ⊎_elim (λ p. inr (pending_gone n size start c before event answer after p step stand none)) (λ done. inl done)
    (pending_run n size start c c before exchanges r run (inl record { closed = refl; asks = asks }))

pub wished_tails_closed : WishedTailsAreClosed
wished_tails_closed n size start c after exchanges r stand asks some least run none =
    stands_run n size start c c after [] exchanges some least r r refl run record { closed = refl; asks = asks } stand
    none

-- ---- the wish loses nothing

pub wish_loses_none : WishBehindEmptyLosesNone
wish_loses_none n size start c empty_at granted_at between done event last_event exchanges more last_answer after r
    first run asks granted on same step lost =
    let (head, closed, passed, taken, seen, here) = empty_right n size start c event done empty_at r first in
    let empty_kept = ring_step n size start c event (empty done) empty_at r first in
    let granted_kept = ring_run n size start empty_at granted_at exchanges empty_kept run in
    let kept = ring_run n size start granted_at between more granted_kept on in
    let rises = counts_rise n size start empty_at granted_at exchanges empty_kept run in let heads = rises.0 in
    let later = counts_rise n size start granted_at between more granted_kept on in let later_heads = later.0 in
    let tail = granted.asks_tail in
    let some = kept.links.some_pages in let full = lost.0 in
    absurd (omega arith)
