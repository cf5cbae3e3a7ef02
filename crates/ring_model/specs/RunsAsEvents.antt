-- A run of a ring, as events: which fills they take, and which they lose.
-- docs/formats/ring.md, "The ring".
use Rattle.std.specs.Prelude.{◌≡◌, ℕ, ◌+◌, List, [], ◌∷◌, map}
use Rattle.trace_model.specs.Window.{RingEvent, takes, loses, history_events_of, WindowRun}
use Rattle.trace_model.specs.Ring.{TakenFill, Core, window_of}

-- the fills that the events take, from this head on, in order
abbrev pub fills_taken : ℕ → List RingEvent → List ℕ
fills_taken head [] = []
fills_taken head (takes ∷ events) = head ∷ fills_taken (head + 1) events
fills_taken head (loses ∷ events) = fills_taken (head + 1) events
fills_taken head (_ ∷ events) = fills_taken head events

-- the fills that they lose
abbrev pub fills_lost : ℕ → List RingEvent → List ℕ
fills_lost head [] = []
fills_lost head (takes ∷ events) = fills_lost (head + 1) events
fills_lost head (loses ∷ events) = head ∷ fills_lost (head + 1) events
fills_lost head (_ ∷ events) = fills_lost head events

abbrev pub numbers_of : List TakenFill → List ℕ
numbers_of taken = map (λ t. t.fill) taken

-- These events of a ring from its start are what its frames did, in order, lead to its window, and take the
-- fills that its reader took.
pub record AreEventsOfRun (n start : ℕ) (c : Core) (events : List RingEvent) : Type 0 where
  pub history_events : history_events_of events ≡ c.history
  pub window : WindowRun n start events (window_of c)
  pub took : fills_taken start events ≡ numbers_of c.reader.taken
