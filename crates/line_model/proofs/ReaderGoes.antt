-- The steps of a reader's take, from a ring that matches an account: each is one of the account's.
use Rattle.std.proofs.Common.{◌≡◌, ◌≢◌, ℕ, suc, ◌+◌, ◌-◌, ◌%◌, ◌<◌, ◌≤◌, List, [], ◌∷◌, ◌++◌, length, get_or, refl, sym}
use Rattle.std.proofs.Common.{ap, ◌∙◌, subst, inl, inr, mod-lt, arith}
use mathlib.Core.Logic.{dite}
use native.Mathlib.Decide.{ℕ_discrete}
use Rattle.trace_model.specs.Links.{Link, normal_link}
use Rattle.trace_model.specs.Frames.{Frame}
use Rattle.trace_model.specs.Window.{Window, RingEvent, takes}
use Rattle.trace_model.specs.Ring.{link_into, page_at, ReaderPhase, loading_head, loading_done, storing_spare_link}
use Rattle.trace_model.specs.Ring.{swapping, TakenFill, Core, window_of}
use Rattle.trace_model.specs.Steps.{reads, Answer, reading, empty, moving, page_taken, Step, Exchange}
use Rattle.trace_model.proofs.Positions.{at_position}
use Rattle.trace_model.proofs.steps.StepCases.{ReadStep, loads_header, loads_update, loads_owed, loads_passed}
use Rattle.trace_model.proofs.steps.StepCases.{finds_none, finds_closed, swaps, swap_fails}
use Rattle.trace_model.proofs.steps.StepSound.{cases_of}
use Rattle.text_model.specs.Script.{Script}
use Rattle.ring_model.specs.KeptLinks.{HasMover, LinkKept, is_normal, is_header, is_update, ReaderKept}
use Rattle.ring_model.specs.RingKept.{IsRingKept}
use Rattle.ring_model.specs.Reached.{IsReached}
use Rattle.ring_model.proofs.frames.AnswersRight.{swapped_right}
use Rattle.ring_model.proofs.links.FramePhases.{normal_ne_header, normal_ne_update}
use Rattle.ring_model.proofs.links.LinkFills.{normal_reports, header_reports, update_reports, owned_by}
use Rattle.ring_model.proofs.partition.RingsKept.{reached_kept, reached_further}
use Rattle.world_model.specs.Lanes.{Lane, lane_behind, ReaderRun, HasTakeAnswer}
use Rattle.line_model.specs.Due.{window_at}
use Rattle.line_model.specs.Accounts.{Take, to_find, to_see, to_prepare, to_take, CpuState, IsMovedFor, IsAtHint}
use Rattle.line_model.specs.Accounts.{IsMovedTo, GoesOn, EndsTake, ReadsOn}
use Rattle.line_model.proofs.Standing.{FramesStand, take_of}
use Rattle.line_model.proofs.StandingKept.{mover_told, told_mover}
use Rattle.line_model.proofs.ReaderLines.{TakesNone, TakesOne, Stays, one_stays, by_case}

-- The ring is as the state of an account says, as far as its reader's steps go.
pub record Follows (script : Script) (payloads : List (List ℕ)) (c : Core) (state : CpuState) : Type 0 where
  pub reached : IsReached script.pages script.size script.start c
  pub window : window_at script.start state.events ≡ window_of c
  pub frames : FramesStand c.frames payloads state.frames
  pub seen : state.seen ≡ c.reader.seen
  pub hint : state.hint ≡ c.reader.hint
  pub take : state.take ≡ take_of c.reader.phase

-- the state, with what the reader of this ring knows
abbrev pub read_to : CpuState → Core → CpuState
read_to state after = record state {
  seen = after.reader.seen;
  hint = after.reader.hint;
  take = take_of after.reader.phase;
}

-- and with the event of a take
abbrev pub taken_to : CpuState → Core → CpuState
taken_to state after = record (read_to state after) { events = state.events ++ takes ∷ [] }

-- a head that waits for its HEADER is being moved to
owed_to : (n : ℕ) (links : List Link) (order : List ℕ) (head : ℕ) (frames : List Frame) (f page fill : ℕ)
    → LinkKept n links order head frames f
    → link_into n links f ≡ normal_link page fill
    → f ≡ head
    → (lost : ℕ) × (suc lost ≡ head) × HasMover frames (lost + n)
owed_to n links order head frames f page fill (is_normal e owed) at here = owed here
owed_to n links order head frames f page fill (is_header e is) at here =
    absurd (normal_ne_header page fill (page_at n order f) f (sym at ∙ e))
owed_to n links order head frames f page fill (is_update lost sum e st) at here =
    absurd (normal_ne_update page fill (page_at n order f) lost (sym at ∙ e))

-- ---- one step

module _ (script : Script) (payloads : List (List ℕ)) (c : Core) (state : CpuState)
    (follows : Follows script payloads c state) (answer : Answer) (after : Core)
    (step : Step script.pages script.size c reads answer after) where
  abbrev n : ℕ
  n = script.pages

  kept : IsRingKept script.pages script.size script.start c
  kept = reached_kept script.pages script.size script.start c follows.reached

  -- What the step is: one that isn't the last; or the last, which takes nothing, or the oldest fill.
  pub data OneRead : Type 0 where
    on : answer ≡ reading
        → TakesNone c after
        → GoesOn n (window_at script.start state.events) state.take state (read_to state after)
        → OneRead
    ends_none : answer ≢ reading
        → TakesNone c after
        → EndsTake n (window_at script.start state.events) state.take state [] (read_to state after)
        → OneRead
    ends_one : answer ≢ reading
        → TakesOne c after
        → EndsTake n (window_at script.start state.events) state.take state (takes ∷ []) (taken_to state after)
        → OneRead

  take_in : (phase : ReaderPhase) → c.reader.phase ≡ phase → state.take ≡ take_of phase
  take_in phase at = follows.take ∙ ap take_of at

  going_in : (phase : ReaderPhase)
      → c.reader.phase ≡ phase
      → GoesOn n (window_of c) (take_of phase) state (read_to state after)
      → GoesOn n (window_at script.start state.events) state.take state (read_to state after)
  going_in phase at going =
      subst (λ (w : Window). GoesOn n w state.take state (read_to state after)) (sym follows.window)
      (subst (λ (k : Take). GoesOn n (window_of c) k state (read_to state after)) (sym (take_in phase at)) going)

  ending_in : (phase : ReaderPhase) (own : List RingEvent) (next : CpuState)
      → c.reader.phase ≡ phase
      → EndsTake n (window_of c) (take_of phase) state own next
      → EndsTake n (window_at script.start state.events) state.take state own next
  ending_in phase own next at ending =
      subst (λ (w : Window). EndsTake n w state.take state own next) (sym follows.window)
      (subst (λ (k : Take). EndsTake n (window_of c) k state own next) (sym (take_in phase at)) ending)

  goes : (phase : ReaderPhase) (next : Core)
      → c.reader.phase ≡ phase
      → answer ≡ reading
      → after ≡ next
      → next.head ≡ c.head
      → next.reader.taken ≡ c.reader.taken
      → GoesOn n (window_of c) (take_of phase) state (read_to state after)
      → OneRead
  goes phase next at a is head taken going = on a
      record {
        head = ap (λ (d : Core). d.head) is ∙ head;
        taken = ap (λ (d : Core). d.reader.taken) is ∙ taken;
      }
      (going_in phase at going)

  ends : (phase : ReaderPhase) (next : Core)
      → c.reader.phase ≡ phase
      → answer ≢ reading
      → after ≡ next
      → next.head ≡ c.head
      → next.reader.taken ≡ c.reader.taken
      → EndsTake n (window_of c) (take_of phase) state [] (read_to state after)
      → OneRead
  ends phase next at a is head taken ending = ends_none a
      record {
        head = ap (λ (d : Core). d.head) is ∙ head;
        taken = ap (λ (d : Core). d.reader.taken) is ∙ taken;
      }
      (ending_in phase [] (read_to state after) at ending)

  -- what the reader knows then
  knows : (seen hint : ℕ) (take : Take)
      → after.reader.seen ≡ seen
      → after.reader.hint ≡ hint
      → take_of after.reader.phase ≡ take
      → read_to state after ≡ record state { seen = seen; hint = hint; take = take }
  knows seen hint take s h k = λ i. record state { seen = s i; hint = h i; take = k i }

  seen_stays : {next : Core} → after ≡ next → next.reader.seen ≡ c.reader.seen → after.reader.seen ≡ state.seen
  seen_stays is same = ap (λ (d : Core). d.reader.seen) is ∙ same ∙ sym follows.seen

  hint_stays : {next : Core} → after ≡ next → next.reader.hint ≡ c.reader.hint → after.reader.hint ≡ state.hint
  hint_stays is same = ap (λ (d : Core). d.reader.hint) is ∙ same ∙ sym follows.hint

  -- what it looks at
  record LooksAt : Type 0 where
    fill : ℕ
    low : c.head ≤ fill
    high : fill < c.head + n
    same : fill % n ≡ c.reader.hint % n
    link : link_into n c.links fill ≡ link_into n c.links c.reader.hint

  looks_at : LooksAt
  looks_at =
      let some_pages = kept.links.some_pages in
      let (fill, low, high, same) =
      at_position c.head n (c.reader.hint % n) (mod-lt c.reader.hint (omega (arith, some_pages))) in
      record {
        fill = fill;
        low = low;
        high = high;
        same = same;
        link = ap (λ (i : ℕ). get_or c.links i (normal_link 0 0)) same;
      }

  module _ (at : LooksAt) where
    known : LinkKept n c.links c.order c.head c.frames at.fill
    known = kept.links.each at.fill at.low at.high

    is_at : IsAtHint n (window_of c) state.hint at.fill
    is_at = (at.low, at.high, at.same ∙ ap (λ (h : ℕ). h % n) (sym follows.hint))

    moved_told : (f : ℕ) → HasMover c.frames f → IsMovedFor f state.frames
    moved_told f moved = mover_told f c.frames payloads state.frames follows.frames moved

    moved_to : (page fill : ℕ)
        → link_into n c.links at.fill ≡ normal_link page fill
        → at.fill ≡ c.head
        → IsMovedTo n (window_of c) state.frames
    moved_to page fill link here =
        let (lost, next, moved) = owed_to n c.links c.order c.head c.frames at.fill page fill known link here in
        (lost + n, omega (arith, next), moved_told (lost + n) moved)

    not_moved : (page fill : ℕ)
        → link_into n c.links at.fill ≡ normal_link page fill
        → IsMovedFor at.fill state.frames
        → ⊥
    not_moved page fill link moved =
        let (lost, sum, below, open_yet, stands) =
        owned_by n c kept.links at.fill (told_mover at.fill c.frames payloads state.frames follows.frames moved) in
        normal_ne_update page fill (page_at n c.order at.fill) lost (sym link ∙ stands)

    looks : c.reader.phase ≡ loading_head → ReadStep n c loading_head answer after → OneRead
    looks phase (loads_header page fill link a is) =
        let (fill_is, here, page_is) =
        header_reports n c.links c.order c.head c.frames at.fill page fill known (at.link ∙ link) in
        goes loading_head _ phase a is refl refl
        (inl (
          subst (IsAtHint n (window_of c) state.hint) here is_at,
          knows state.seen c.head to_see (seen_stays is refl) (ap (λ (d : Core). d.reader.hint) is ∙ fill_is ∙ here)
              (ap (λ (d : Core). take_of d.reader.phase) is),
        ))
    looks phase (loads_update page lost link a is) =
        let (sum, page_is, moved) =
        update_reports n c.links c.order c.head c.frames at.fill page lost known (at.link ∙ link) in
        ends loading_head _ phase (λ on. (let both : moving (suc lost) ≡ reading = sym a ∙ on in cc)) is refl refl (
          refl,
          inl (
            at.fill,
            is_at,
            moved_told at.fill moved,
            knows state.seen (at.fill + 1 - n) state.take (seen_stays is refl)
                (ap (λ (d : Core). d.reader.hint) is ∙ (let e : suc lost ≡ at.fill + 1 - n = omega (arith, sum) in e))
                (ap (λ (d : Core). take_of d.reader.phase) is ∙ sym (take_in loading_head phase)),
          ),
        )
    looks phase (loads_owed page link a is) =
        let (fill_is, page_is) =
        normal_reports n c.links c.order c.head c.frames at.fill page c.reader.hint known (at.link ∙ link) in
        let least = kept.links.hint_le in
        let low = at.low in
        let here : c.reader.hint ≡ c.head = omega (arith, fill_is, least, low) in
        ends loading_head _ phase (λ on. (let both : moving c.reader.hint ≡ reading = sym a ∙ on in cc)) is refl refl (
          refl,
          inr (
            follows.hint ∙ here,
            moved_to page c.reader.hint (at.link ∙ link) (sym fill_is ∙ here),
            knows state.seen state.hint state.take (seen_stays is refl) (hint_stays is refl)
                (ap (λ (d : Core). take_of d.reader.phase) is ∙ sym (take_in loading_head phase)),
          ),
        )
    looks phase (loads_passed page fill least link more sum a is) =
        let (fill_is, page_is) =
        normal_reports n c.links c.order c.head c.frames at.fill page fill known (at.link ∙ link) in
        let hint_is = follows.hint in
        goes loading_head _ phase a is refl refl
        (inr (
          at.fill,
          is_at,
          omega (arith, more, fill_is, hint_is),
          dite (ℕ_discrete at.fill c.head)
              (λ here. inr (moved_to page fill (at.link ∙ link) here))
              (λ other. let low = at.low in inl (omega (arith, low, other))),
          not_moved page fill (at.link ∙ link),
          knows state.seen (at.fill + 1 - n) state.take (seen_stays is refl)
              (ap (λ (d : Core). d.reader.hint) is
              ∙ (let e : least ≡ at.fill + 1 - n = omega (arith, sum, fill_is) in e))
              (ap (λ (d : Core). take_of d.reader.phase) is ∙ sym (take_in loading_head phase)),
        ))

  one_read_in : (phase : ReaderPhase)
      → c.reader.phase ≡ phase
      → ReaderKept n c.links c.order c.spare_link c.head c.done c.reader.hint phase
      → ReadStep n c phase answer after
      → OneRead
  one_read_in loading_head at has step = looks looks_at at step
  one_read_in (loading_done page fill) at has (finds_none le a is) =
      let fill_is = has.fill_is in
      let hint_is = follows.hint in
      ends (loading_done page fill) _ at (λ on. (let both : empty c.done ≡ reading = sym a ∙ on in cc)) is refl refl (
        omega (arith, le, fill_is, hint_is),
        refl,
        knows c.done state.hint to_find (ap (λ (d : Core). d.reader.seen) is) (hint_stays is refl)
            (ap (λ (d : Core). take_of d.reader.phase) is),
      )
  one_read_in (loading_done page fill) at has (finds_closed closed a is) =
      let fill_is = has.fill_is in
      let hint_is = follows.hint in
      goes (loading_done page fill) _ at a is refl refl (
        omega (arith, closed, fill_is, hint_is),
        knows c.done state.hint to_prepare (ap (λ (d : Core). d.reader.seen) is) (hint_stays is refl)
            (ap (λ (d : Core). take_of d.reader.phase) is),
      )
  one_read_in (storing_spare_link page fill) at has step =
      let is = step.after_is in
      goes (storing_spare_link page fill) _ at step.answer_is is refl refl
      (knows state.seen state.hint to_take (seen_stays is refl) (hint_stays is refl)
      (ap (λ (d : Core). take_of d.reader.phase) is))
  one_read_in (swapping page fill) at has (swaps link a is) =
      let (here, closed, head, taken) =
      swapped_right script.pages script.size script.start c reads _ after kept
      (subst (λ (b : Answer). Step script.pages script.size c reads b after) a step) in
      let hint_is = follows.hint in
      let fill_is = has.0.fill_is in
      ends_one (λ on. (let both : page_taken _ ≡ reading = sym a ∙ on in cc))
      record { page = _; fill = here; closed = closed; head = head; taken = taken }
      (ending_in (swapping page fill) (takes ∷ []) (taken_to state after) at (
        omega (arith, here, hint_is, fill_is),
        refl,
        ap (λ (s : CpuState). let t : CpuState = record s { events = state.events ++ takes ∷ [] } in t)
            (knows state.seen (state.hint + 1) to_find (seen_stays is refl)
            (ap (λ (d : Core). d.reader.hint) is
            ∙ (let e : suc fill ≡ state.hint + 1 = omega (arith, hint_is, fill_is) in e))
            (ap (λ (d : Core). take_of d.reader.phase) is)),
      ))
  one_read_in (swapping page fill) at has (swap_fails link a is) =
      let hint_is = follows.hint in
      let fill_is = has.0.fill_is in
      goes (swapping page fill) _ at a is refl refl (
        λ here. link (has.0.stays (let e : fill ≡ c.head = omega (arith, here, hint_is, fill_is) in e)),
        knows state.seen (state.hint + 1) to_find (seen_stays is refl)
            (ap (λ (d : Core). d.reader.hint) is
            ∙ (let e : suc fill ≡ state.hint + 1 = omega (arith, hint_is, fill_is) in e))
            (ap (λ (d : Core). take_of d.reader.phase) is),
      )

  pub one_read : OneRead
  one_read = one_read_in c.reader.phase refl kept.links.reader
      (by_case script.pages script.size script.start c answer after kept step (cases_of step))

  pub stays : Stays c after
  stays = one_stays script.pages script.size script.start c answer after kept step

  pub follows_on : TakesNone c after → Follows script payloads after (read_to state after)
  follows_on none = record {
    reached = reached_further script.pages script.size script.start c reads answer after follows.reached step;
    window = follows.window
        ∙ (λ i. record { head = sym none.head i; done = sym stays.done i; opened = sym stays.opened i });
    frames =
        subst (λ (frames : List Frame). FramesStand frames payloads state.frames) (sym stays.frames) follows.frames;
    seen = refl;
    hint = refl;
    take = refl;
  }

-- ---- the steps of a line

-- What a reader's steps are beside the account: the take goes on, or is answered, without a page or with the oldest.
pub data Reads (script : Script) (answered : Type 0) (count : ℕ) (state : CpuState) (c after : Core) : Type 0 where
  on : (answered → ⊥) → TakesNone c after → ReadsOn script count state (read_to state after)
      → Reads script answered count state c after
  ends_none : answered → TakesNone c after → (fewer : ℕ) (between : CpuState)
      → suc fewer ≡ count
      → ReadsOn script fewer state between
      → EndsTake script.pages (window_at script.start between.events) between.take between [] (read_to state after)
      → Reads script answered count state c after
  ends_one : answered → TakesOne c after → (fewer : ℕ) (between : CpuState)
      → suc fewer ≡ count
      → ReadsOn script fewer state between
      → EndsTake script.pages (window_at script.start between.events) between.take between (takes ∷ [])
      (taken_to state after)
      → Reads script answered count state c after

module _ (script : Script) (payloads : List (List ℕ)) where
  -- no step
  none_read : (c after : Core) (state : CpuState)
      → Follows script payloads c state
      → c ≡ after
      → Reads script ⊥ 0 state c after
  none_read c after state follows same = subst (Reads script ⊥ 0 state c) same
      (Reads.on (λ none. none) record { head = refl; taken = refl }
      (λ i. record state { seen = follows.seen i; hint = follows.hint i; take = follows.take i }))

  -- the last step
  last_read : (c after : Core) (state : CpuState) (answer : Answer)
      → Follows script payloads c state
      → Step script.pages script.size c reads answer after
      → Reads script (answer ≢ reading) 1 state c after
  last_read c after state answer follows step = by_read (one_read script payloads c state follows answer after step)
    where
      by_read : OneRead script payloads c state follows answer after step
          → Reads script (answer ≢ reading) 1 state c after
      by_read (on a none going) = Reads.on (λ not. not a) none (read_to state after, going, refl)
      by_read (ends_none not none ending) = Reads.ends_none not none 0 state refl refl ending
      by_read (ends_one not one ending) = Reads.ends_one not one 0 state refl refl ending

  -- one step, and then these
  more_read : (c between after : Core) (state : CpuState) (answered : Type 0) (count : ℕ)
      → Stays c between
      → TakesNone c between
      → GoesOn script.pages (window_at script.start state.events) state.take state (read_to state between)
      → Reads script answered count (read_to state between) between after
      → Reads script answered (suc count) state c after
  more_read c between after state answered count stays none going (Reads.on not rest steps) =
      Reads.on not record { head = rest.head ∙ none.head; taken = rest.taken ∙ none.taken }
      (read_to state between, going, steps)
  more_read c between after state answered count stays none going
      (Reads.ends_none is rest fewer last sum steps ending) =
      Reads.ends_none is record { head = rest.head ∙ none.head; taken = rest.taken ∙ none.taken }
      (suc fewer) last (ap suc sum) (read_to state between, going, steps) ending
  more_read c between after state answered count stays none going (Reads.ends_one is one fewer last sum steps ending) =
      Reads.ends_one is
      record {
        page = one.page;
        fill = one.fill ∙ none.head;
        closed = (let low = one.closed in
            let head = none.head in let done = stays.done in omega (arith, low, head, done));
        head = one.head ∙ ap (λ (k : ℕ). k + 1) none.head;
        taken = one.taken ∙ ap (λ (l : List TakenFill). l ++ one.page ∷ []) none.taken;
      }
      (suc fewer) last (ap suc sum) (read_to state between, going, steps) ending

  some : (x : Exchange) (xs : List Exchange) → ◌≢◌ {A = List Exchange} (x ∷ xs) []
  some x xs none = let e = ap (λ (l : List Exchange). length l) none in let no : ⊥ = omega (arith, e) in no

  pub run_reads : (before after : Lane) (xs : List Exchange) (state : CpuState)
      → Follows script payloads before.core state
      → ReaderRun script.pages script.size before xs after
      → Reads script (HasTakeAnswer xs) (length xs) state before.core after.core
  run_reads before after [] state follows same =
      none_read before.core after.core state follows (ap (λ (l : Lane). l.core) same)
  run_reads before after (x ∷ []) state follows (event, more, core, step, same) =
      subst (Reads script (x.answer ≢ reading) 1 state before.core) (ap (λ (l : Lane). l.core) same)
      (last_read before.core core state x.answer follows step)
  run_reads before after (x ∷ y ∷ xs) state follows (event, more, core, step, run) =
      by_read (one_read script payloads before.core state follows x.answer core step)
      (λ none. run_reads (lane_behind before core) after (y ∷ xs) (read_to state core)
      (follows_on script payloads before.core state follows x.answer core step none) run)
    where
      by_read : OneRead script payloads before.core state follows x.answer core step
          → (TakesNone before.core core
          → Reads script (HasTakeAnswer (y ∷ xs)) (length (y ∷ xs)) (read_to state core) core after.core)
          → Reads script (HasTakeAnswer (y ∷ xs)) (suc (length (y ∷ xs))) state before.core after.core
      by_read (on a none going) rest =
          more_read before.core core after.core state (HasTakeAnswer (y ∷ xs)) (length (y ∷ xs))
          (stays script payloads before.core state follows x.answer core step) none going (rest none)
      by_read (ends_none not none ending) rest = absurd (not (more (some y xs)))
      by_read (ends_one not one ending) rest = absurd (not (more (some y xs)))
