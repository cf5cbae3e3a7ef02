-- The laws of a ring's window, as statements: each is a clause of a function of src/laws/windows.rt.
use Rattle.std.specs.Prelude.{◌≡◌, ℕ, ◌+◌, ◌<◌, ◌≤◌, ◌⊎◌, List, [], ◌∷◌, ◌++◌, IsTrue, Contains}
use Rattle.trace_model.specs.History.{push, push_close, open_fill, reserve, leave, wished, is_settled}
use Rattle.trace_model.specs.Window.{RingEvent, WindowStep, closes, takes, loses, acts}
use Rattle.trace_model.specs.Ring.{TakenFill, Core, window_of}
use Rattle.trace_model.specs.Steps.{Event, Answer, page_taken, Step, Exchange, Run}
use Rattle.trace_model.specs.Sublist.{IsPrefix}
use Rattle.ring_model.specs.Reached.{IsReached}
use Rattle.ring_model.specs.RingKept.{IsRingKept}
use Rattle.ring_model.specs.RunsAsEvents.{fills_taken, fills_lost, AreEventsOfRun}

-- ---- steps

-- An event that moves the window, as the state shows it. If a fill is begun, the history has one more open_fill; if one
-- is taken, it is the head, and the last page that the reader took; that one is closed or lost changes neither. No
-- other history event moves the window.
abbrev pub IsEventShown : Core → Core → RingEvent → Type 0
IsEventShown c after (acts (push moment len)) = ⊥
IsEventShown c after (acts push_close) = ⊥
IsEventShown c after (acts reserve) = ⊥
IsEventShown c after (acts (leave payload)) = ⊥
IsEventShown c after (acts wished) = ⊥
IsEventShown c after (acts open_fill) = IsPrefix (c.history ++ open_fill ∷ []) after.history × (after.reader ≡ c.reader)
IsEventShown c after closes = (after.history ≡ c.history) × (after.reader ≡ c.reader)
IsEventShown c after takes =
    (after.history ≡ c.history)
    × (t : TakenFill)
    × (t.fill ≡ c.head)
    × (after.reader.taken ≡ c.reader.taken ++ t ∷ [])
IsEventShown c after loses = (after.history ≡ c.history) × (after.reader ≡ c.reader)

-- The event moves the window of one state to that of another, as it may, and is shown there.
pub record MovesWindow (n : ℕ) (c : Core) (what : RingEvent) (after : Core) : Type 0 where
  pub step : WindowStep n c.history (window_of c) what (window_of after)
  pub shown : IsEventShown c after what

-- the window and what was taken are as they were
abbrev pub WindowStays : Core → Core → Type 0
WindowStays c after = (window_of after ≡ window_of c) × (after.reader.taken ≡ c.reader.taken)

-- every step leaves the window and what was taken as they were, or is one step of the window: a fill is begun
-- only if a position is free; or the oldest one that isn't closed is closed, and each push has its leave; or the head
-- is taken, closed; or the head is lost, closed and in a full ring
abbrev pub StepsMoveWindow : Type 0
StepsMoveWindow = (n size start : ℕ) (c : Core) (event : Event) (answer : Answer) (after : Core)
    → IsRingKept n size start c
    → Step n size c event answer after
    → WindowStays c after ⊎ ((what : RingEvent) × MovesWindow n c what after)

-- and what happens is one: what is taken doesn't pass as lost, nor what is lost as taken
abbrev pub OneWindowEvent : Type 0
OneWindowEvent = (n : ℕ) (c after : Core) (what other : RingEvent)
    → MovesWindow n c what after
    → MovesWindow n c other after
    → what ≡ other

-- where the window stays, nothing happens
abbrev pub NothingHappens : Type 0
NothingHappens = (n : ℕ) (c after : Core) (what : RingEvent)
    → window_of after ≡ window_of c
    → MovesWindow n c what after
    → ⊥

-- the head is taken, as the answer says
abbrev pub HeadIsTaken : Core → Answer → Core → Type 0
HeadIsTaken c answer after = (t : TakenFill) × (answer ≡ page_taken t) × (t.fill ≡ c.head) × (after.head ≡ c.head + 1)

-- the head is lost, in a full ring, and the reader knows nothing of it
abbrev pub HeadIsLost : ℕ → Core → Core → Type 0
HeadIsLost n c after = (c.opened ≡ c.head + n) × (after.head ≡ c.head + 1) × (after.reader ≡ c.reader)

-- the head stays, is taken, or is lost in a full ring
abbrev pub LossesNeedAFullRing : Type 0
LossesNeedAFullRing = (n size start : ℕ) (c : Core) (event : Event) (answer : Answer) (after : Core)
    → IsRingKept n size start c
    → Step n size c event answer after
    → (after.head ≡ c.head) ⊎ (HeadIsTaken c answer after ⊎ HeadIsLost n c after)

-- no fill is closed; or the oldest one is, and each push has its leave
abbrev pub ClosesNeedNoFrame : Type 0
ClosesNeedNoFrame = (n size start : ℕ) (c : Core) (event : Event) (answer : Answer) (after : Core)
    → IsRingKept n size start c
    → Step n size c event answer after
    → (after.done ≡ c.done) ⊎ (IsTrue (is_settled c.history) × (after.done ≡ c.done + 1))

-- ---- runs

-- every run of steps from a new ring is a run of its window: events, each allowed at its point, determine what
-- the frames did, the window as it is now, and which fills the reader took
abbrev pub RunsMoveWindow : Type 0
RunsMoveWindow = (n size start : ℕ) (c : Core)
    → IsReached n size start c
    → (events : List RingEvent) × AreEventsOfRun n start c events

-- and the events of a longer run go on from those of a shorter one
abbrev pub RunsExtendEvents : Type 0
RunsExtendEvents = (n size start : ℕ) (c after : Core) (exchanges : List Exchange) (events : List RingEvent)
    → IsRingKept n size start c
    → AreEventsOfRun n start c events
    → Run n size c exchanges after
    → (more : List RingEvent) × AreEventsOfRun n start after (events ++ more)

-- over a run the counts only rise: so what was once passed, closed or begun stays so
abbrev pub CountsRise : Type 0
CountsRise = (n size start : ℕ) (c after : Core) (exchanges : List Exchange)
    → IsRingKept n size start c
    → Run n size c exchanges after
    → (c.head ≤ after.head) × (c.done ≤ after.done) × (c.opened ≤ after.opened)

-- each fill from the start to the head was taken or lost
abbrev pub PassedAreTakenOrLost : Type 0
PassedAreTakenOrLost = (n start : ℕ) (c : Core) (events : List RingEvent) (f : ℕ)
    → AreEventsOfRun n start c events
    → start ≤ f
    → f < c.head
    → Contains (fills_taken start events) f ⊎ Contains (fills_lost start events) f

-- no fill is both taken and lost
abbrev pub NoneIsTakenAndLost : Type 0
NoneIsTakenAndLost = (n start : ℕ) (c : Core) (events : List RingEvent) (f : ℕ)
    → AreEventsOfRun n start c events
    → Contains (fills_taken start events) f
    → Contains (fills_lost start events) f
    → ⊥

-- a fill that was taken had been closed
abbrev pub TakenAreClosed : Type 0
TakenAreClosed = (n start : ℕ) (c : Core) (events : List RingEvent) (f : ℕ)
    → AreEventsOfRun n start c events
    → Contains (fills_taken start events) f
    → (start ≤ f) × (f < c.head) × (f < c.done)

-- so had one that was lost; and a whole round of fills is begun from it on
abbrev pub LostAreClosed : Type 0
LostAreClosed = (n start : ℕ) (c : Core) (events : List RingEvent) (f : ℕ)
    → AreEventsOfRun n start c events
    → Contains (fills_lost start events) f
    → (start ≤ f) × (f < c.head) × (f < c.done) × (f + n ≤ c.opened)
