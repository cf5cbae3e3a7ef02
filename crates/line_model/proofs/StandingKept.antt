-- A ring beside an account: how many frames there are, which of them move the head, which window its events lead to,
-- and that its events go on.
use Rattle.std.proofs.Common.{◌≡◌, ◌≢◌, ℕ, zero, suc, ◌+◌, ◌-◌, ◌<◌, List, [], ◌∷◌, ◌++◌, length, drop, Some, refl, sym}
use Rattle.std.proofs.Common.{ap, ◌∙◌, subst, arith, append-nil, inl, inr}
use Rattle.trace_model.specs.History.{HistoryEvent}
use Rattle.trace_model.specs.Window.{Window, first_window, RingEvent, acts, takes, history_events_of, window_after}
use Rattle.trace_model.specs.Window.{MayMove, WindowRunFrom}
use Rattle.trace_model.specs.Frames.{owned_update, Frame}
use Rattle.trace_model.specs.Ring.{TakenFill, Core, window_of}
use Rattle.ring_model.specs.KeptLinks.{HasMover}
use Rattle.ring_model.specs.RunsAsEvents.{fills_taken, numbers_of, AreEventsOfRun}
use Rattle.ring_model.proofs.histories.WindowRuns.{history_events-append, run-append, taken-append, numbers-push}
use Rattle.text_model.specs.Script.{Script}
use Rattle.world_model.specs.Lanes.{Lane, payloads_left}
use Rattle.line_model.specs.Due.{window_at}
use Rattle.line_model.specs.Accounts.{moving, LineFrame, CpuState, IsMovedFor}
use Rattle.line_model.proofs.Standing.{owner_is_moving, moving_is_owner, FrameStands, FramesStand, Stands}
use Rattle.line_model.proofs.AccountWindows.{run_leads}

-- ---- frames

-- there are as many frames in the account
pub frames_many : (frames : List Frame) (payloads : List (List ℕ)) (lines : List LineFrame)
    → FramesStand frames payloads lines
    → length lines ≡ length frames
frames_many [] [] [] stand = refl
frames_many [] [] (line ∷ lines) stand = absurd stand
frames_many [] (payload ∷ payloads) lines stand = absurd stand
frames_many (frame ∷ frames) [] lines stand = absurd stand
frames_many (frame ∷ frames) (payload ∷ payloads) [] stand = absurd stand
frames_many (frame ∷ frames) (payload ∷ payloads) (line ∷ lines) stand =
    ap suc (frames_many frames payloads lines stand.1)

-- and as many payloads
pub payloads_many : (frames : List Frame) (payloads : List (List ℕ)) (lines : List LineFrame)
    → FramesStand frames payloads lines
    → length payloads ≡ length frames
payloads_many [] [] [] stand = refl
payloads_many [] [] (line ∷ lines) stand = absurd stand
payloads_many [] (payload ∷ payloads) lines stand = absurd stand
payloads_many (frame ∷ frames) [] lines stand = absurd stand
payloads_many (frame ∷ frames) (payload ∷ payloads) [] stand = absurd stand
payloads_many (frame ∷ frames) (payload ∷ payloads) (line ∷ lines) stand =
    ap suc (payloads_many frames payloads lines stand.1)

pub no_lines : (frames : List Frame) (payloads : List (List ℕ)) (lines : List LineFrame)
    → FramesStand frames payloads lines
    → frames ≡ []
    → lines ≡ []
no_lines frames payloads [] stand none = refl
no_lines frames payloads (line ∷ lines) stand none =
    let many = frames_many frames payloads (line ∷ lines) stand in
    let e = ap (λ (l : List Frame). length l) none in
    absurd (let no : ⊥ = omega (arith, many, e) in no)

pub some_lines : (frames : List Frame) (payloads : List (List ℕ)) (lines : List LineFrame)
    → FramesStand frames payloads lines
    → frames ≢ []
    → (top : LineFrame) × (below : List LineFrame) × (lines ≡ top ∷ below)
some_lines [] payloads [] stand some = absurd (some refl)
some_lines (frame ∷ frames) [] [] stand some = absurd stand
some_lines (frame ∷ frames) (payload ∷ payloads) [] stand some = absurd stand
some_lines frames payloads (line ∷ lines) stand some = (line, lines, refl)

-- the window allows the history event at any time, and stays as it is
abbrev pub BeginsNone : HistoryEvent → Type 0
BeginsNone a = (n : ℕ) (history : List HistoryEvent) (w : Window)
    → MayMove n history w (acts a) × (window_after w (acts a) ≡ w)

module _ (f : ℕ) where
  -- a frame that owns the UPDATE is moving the head, for the fill that it noted
  told_by : (line : LineFrame) (frame : Frame) (payload : List ℕ) (below : List LineFrame)
      → FrameStands frame payload below line
      → owned_update frame.phase ≡ Some f
      → (more : ℕ) × (line.stage ≡ moving f more)
  told_by line frame payload below stand owns =
      let (more, is) = owner_is_moving frame.phase f owns in (more, stand.stage ∙ is)

  -- some frame owns it exactly if one is moving the head
  pub mover_told : (frames : List Frame) (payloads : List (List ℕ)) (lines : List LineFrame)
      → FramesStand frames payloads lines
      → HasMover frames f
      → IsMovedFor f lines
  mover_told [] payloads lines stand moved = absurd moved
  mover_told (top ∷ frames) [] lines stand moved = absurd stand
  mover_told (top ∷ frames) (payload ∷ payloads) [] stand moved = absurd stand
  mover_told (top ∷ frames) (payload ∷ payloads) (line ∷ lines) stand (inl owns) =
      let (more, is) = told_by line top payload lines stand.0 owns in (line, (0, omega arith, refl), more, is)
  mover_told (top ∷ frames) (payload ∷ payloads) (line ∷ lines) stand (inr moved) =
      let (mover, (j, low, is), more, moves) = mover_told frames payloads lines stand.1 moved in
      (mover, (suc j, omega (arith, low), is), more, moves)

  pub told_mover : (frames : List Frame) (payloads : List (List ℕ)) (lines : List LineFrame)
      → FramesStand frames payloads lines
      → IsMovedFor f lines
      → HasMover frames f
  told_mover [] [] [] stand (mover, (k, low, is), more, moves) = absurd (let no : ⊥ = omega (arith, low) in no)
  told_mover [] [] (line ∷ lines) stand moved = absurd stand
  told_mover [] (payload ∷ payloads) lines stand moved = absurd stand
  told_mover (top ∷ frames) [] lines stand moved = absurd stand
  told_mover (top ∷ frames) (payload ∷ payloads) [] stand moved = absurd stand
  told_mover (top ∷ frames) (payload ∷ payloads) (line ∷ lines) stand (mover, (zero, low, is), more, moves) =
      inl (moving_is_owner top.phase f more
      (sym stand.0.stage ∙ ap (λ (x : LineFrame). x.stage) is ∙ moves))
  told_mover (top ∷ frames) (payload ∷ payloads) (line ∷ lines) stand (mover, (suc k, low, is), more, moves) =
      inr (told_mover frames payloads lines stand.1 (mover, (k, omega (arith, low), is), more, moves))

-- all payloads are left if there are as many as frames
pub all_left : (frames : List Frame) (payloads : List (List ℕ))
    → length payloads ≡ length frames
    → payloads_left frames payloads ≡ payloads
all_left frames payloads same =
    ap (λ (k : ℕ). drop k payloads) (let e : length payloads - length frames ≡ zero = omega (arith, same) in e)

-- ---- events

module _ (script : Script) (lane : Lane) (state : CpuState) (stands : Stands script lane state) where
  pub window_stands : window_at script.start state.events ≡ window_of lane.core
  window_stands =
      run_leads script.pages [] (first_window script.start) (window_of lane.core) state.events stands.run.window

  pub frames_count : length state.frames ≡ length lane.core.frames
  frames_count = frames_many lane.core.frames lane.payloads state.frames stands.frames

module _ (n start : ℕ) (c after : Core) (events : List RingEvent) (run : AreEventsOfRun n start c events) where
  -- events that go on with the run
  pub run_on : (own : List RingEvent)
      → after.history ≡ c.history ++ history_events_of own
      → WindowRunFrom n c.history (window_of c) own (window_of after)
      → numbers_of after.reader.taken ≡ numbers_of c.reader.taken ++ fills_taken c.head own
      → AreEventsOfRun n start after (events ++ own)
  run_on own history window took = record {
    history_events = history_events-append events own
        ∙ ap (λ (h : List HistoryEvent). h ++ history_events_of own) run.history_events
        ∙ sym history;
    window = run-append n [] (first_window start) (window_of c) (window_of after) events own run.window
        (subst (λ (h : List HistoryEvent). WindowRunFrom n h (window_of c) own (window_of after))
        (sym run.history_events) window);
    took = taken-append n [] (first_window start) (window_of c) events own run.window
        ∙ ap (λ (l : List ℕ). l ++ fills_taken c.head own) run.took
        ∙ sym took;
  }

  -- none
  pub run_rests : after.history ≡ c.history
      → window_of c ≡ window_of after
      → after.reader.taken ≡ c.reader.taken
      → AreEventsOfRun n start after events
  run_rests history window taken = record {
    history_events = run.history_events ∙ sym history;
    window = subst (λ (v : Window). WindowRunFrom n [] (first_window start) events v) window run.window;
    took = run.took ∙ ap numbers_of (sym taken);
  }

  -- a take
  pub run_takes : (t : TakenFill)
      → t.fill ≡ c.head
      → c.head < c.done
      → after.head ≡ c.head + 1
      → after.done ≡ c.done
      → after.opened ≡ c.opened
      → after.history ≡ c.history
      → after.reader.taken ≡ c.reader.taken ++ t ∷ []
      → AreEventsOfRun n start after (events ++ takes ∷ [])
  run_takes t fill closed head done opened history taken =
      run_on (takes ∷ []) (history ∙ sym (append-nil c.history))
      (closed, (λ i. record { head = sym head i; done = sym done i; opened = sym opened i }))
      (ap numbers_of taken
      ∙ numbers-push c.reader.taken t
      ∙ ap (λ (k : ℕ). numbers_of c.reader.taken ++ k ∷ []) fill)

  -- something that a frame does, which begins no fill
  pub run_acts : (a : HistoryEvent)
      → BeginsNone a
      → window_of c ≡ window_of after
      → after.history ≡ c.history ++ a ∷ []
      → after.reader.taken ≡ c.reader.taken
      → AreEventsOfRun n start after (events ++ acts a ∷ [])
  run_acts a none window history taken =
      run_on (acts a ∷ []) history
      ((none n c.history (window_of c)).0, (none n c.history (window_of c)).1 ∙ window)
      (ap numbers_of taken ∙ sym (append-nil (numbers_of c.reader.taken)))
