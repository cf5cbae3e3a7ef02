-- Lists of events on a ring, and what holds after them.
use Rattle.std.specs.Prelude.{◌≡◌, ℕ, List, [], ◌∷◌}
use Rattle.trace_model.specs.Ring.{IsStart, Core}
use Rattle.trace_model.specs.Steps as model
use Rattle.ring_core.specs.declared.event.Event.{Event}
use Rattle.ring_frames.specs.declared.answer.Answer.{Answer}
use Rattle.ring_core.specs.Value.{CoreValue}
use Rattle.ring_core.specs.IsCore.{IsCore}
use Rattle.ring_frames.specs.Answers.{IsAnswerOf}
use Rattle.ring_core.specs.Answers.{event_of}
use Rattle.ring_core.specs.Steps.{MakesStep, IsNewRing}

-- What happens to a ring, with the ring after it: an event, with its answer; or a payload is written into its slot,
-- which is no event.
pub data Call : Type 0 where
  happens : (event : Event) (answer : Answer) (next : CoreValue) → Call
  writes : (next : CoreValue) → Call

-- the one ring is in each state that the other is in
abbrev pub Stays : CoreValue → CoreValue → Type 0
Stays old new = (n size start : ℕ) (c : Core) → IsCore n size start old c → IsCore n size start new c

-- these happen one after the other, each event by the clause of `step`
abbrev pub AreCalls : CoreValue → List Call → CoreValue → Type 0
AreCalls v [] after = after ≡ v
AreCalls v (happens event answer next ∷ more) after =
    MakesStep v (event_of v event) answer next × AreCalls next more after
AreCalls v (writes next ∷ more) after = Stays v next × AreCalls next more after

-- the exchanges of the model are these events, in order, with what is answered
abbrev pub AreAnsweredSo : (size : ℕ) → CoreValue → List Call → List model.Exchange → Type 0
AreAnsweredSo size v [] [] = Unit {0}
AreAnsweredSo size v [] (x ∷ exchanges) = ⊥
AreAnsweredSo size v (happens event answer next ∷ more) [] = ⊥
AreAnsweredSo size v (happens event answer next ∷ more) (x ∷ exchanges) =
    (x.event ≡ event_of v event) × IsAnswerOf size answer x.answer × AreAnsweredSo size next more exchanges
AreAnsweredSo size v (writes next ∷ more) exchanges = AreAnsweredSo size next more exchanges

-- From this state of the model on there is a run with these events and answers; and the ring after them is in the state
-- to which it leads, which steps from a new ring reach.
pub record IsRunOf (n size start : ℕ) (from : Core) (v : CoreValue) (happened : List Call) (after : CoreValue)
    : Type 0 where
  pub exchanges : List model.Exchange
  pub state : Core
  pub reported : AreAnsweredSo size v happened exchanges
  pub run : model.Run n size from exchanges state
  pub is_core : IsCore n size start after state

-- what happens to a ring, from any of its states on, is a run of the model from that state
abbrev pub CallsAreRuns : Type 0
CallsAreRuns = (n size start : ℕ) (from : Core) (v : CoreValue) (happened : List Call) (after : CoreValue)
    → IsCore n size start v from
    → AreCalls v happened after
    → IsRunOf n size start from v happened after

-- what happens to a new ring is one from the model's start, of which there is no other
abbrev pub CallsFromNewAreRuns : Type 0
CallsFromNewAreRuns = (n size start : ℕ) (v : CoreValue) (happened : List Call) (after : CoreValue)
    → IsNewRing n size start v
    → AreCalls v happened after
    → (from : Core)
    × IsStart n start from
    × ((other : Core) → IsStart n start other → other ≡ from)
    × IsRunOf n size start from v happened after
