-- A run of a ring with the events of each of its steps. docs/formats/ring.md, "The ring".
use Rattle.std.specs.Prelude.{◌≡◌, ℕ, List, [], ◌∷◌, ◌++◌}
use Rattle.trace_model.specs.Window.{RingEvent, history_events_of, WindowRunFrom}
use Rattle.trace_model.specs.Ring.{Core, window_of}
use Rattle.trace_model.specs.Steps.{Exchange, Step}
use Rattle.ring_model.specs.RunsAsEvents.{fills_taken, numbers_of}

-- These events are what happens from one state of a ring to another: what the frames did, in order; the window moves by
-- them, each allowed in the state in which it is done; and the fills that they take are those that the reader took.
pub record AreEventsOf (n : ℕ) (before : Core) (events : List RingEvent) (after : Core) : Type 0 where
  pub history_events : after.history ≡ before.history ++ history_events_of events
  pub window : WindowRunFrom n before.history (window_of before) events (window_of after)
  pub took : numbers_of after.reader.taken ≡ numbers_of before.reader.taken ++ fills_taken before.head events

-- The exchanges are steps of the ring, one after the other, and the events are those of each step in turn. So a fill is
-- lost in these events in the very step that loses it, and that step is allowed to.
abbrev pub AreEventsOfSteps : (n size : ℕ) → Core → List Exchange → List RingEvent → Core → Type 0
AreEventsOfSteps n size before [] events after = (before ≡ after) × (events ≡ [])
AreEventsOfSteps n size before (x ∷ exchanges) events after =
    (between : Core) × Step n size before x.event x.answer between
    × (own : List RingEvent) × AreEventsOf n before own between
    × (rest : List RingEvent) × (events ≡ own ++ rest) × AreEventsOfSteps n size between exchanges rest after
