-- From where on all that comes of a fleet is later, and what is listed before that.
use Rattle.std.specs.Prelude.{◌≡◌, ℕ, ◌⊎◌, ⊤, List, Option, Some, None}
use Rattle.trace_model.specs.declared.numbers.Moment.{Moment}
use Rattle.stream_collector.specs.Stream.{Stream}
use Rattle.stream_collector.specs.Frontier.{IsHeldAt, IsCpuThere, IsNotAfter, IsForgottenBefore}
use Rattle.fleet_collector.specs.Fleet.{stream_at}

-- some CPU of a stream, of which something is there, is held at it, if there is one
abbrev pub IsOfSome : List (ℕ × Stream) → Option Moment → Type 0
IsOfSome fleet None = ⊤
IsOfSome fleet (Some moment) = (id cpu : ℕ) × IsCpuThere (stream_at fleet id) cpu
    × IsHeldAt (stream_at fleet id) cpu moment.0

-- The least of the moments at which CPUs of streams are held, or none if all of which something is there are complete.
pub record IsFleetFrontier (fleet : List (ℕ × Stream)) (frontier : Option Moment) : Type 0 where
  pub of_some : IsOfSome fleet frontier
  pub least : (id cpu : ℕ) → IsCpuThere (stream_at fleet id) cpu → IsNotAfter (stream_at fleet id) frontier cpu

-- each stream has forgotten what is before the moment
abbrev pub AllForgottenBefore : (old new : List (ℕ × Stream)) (moment : ℕ) → Type 0
AllForgottenBefore old new moment = (id : ℕ) → IsForgottenBefore (stream_at old id) (stream_at new id) moment

-- each has, or is as it was
abbrev pub SomeForgottenBefore : (old new : List (ℕ × Stream)) (moment : ℕ) → Type 0
SomeForgottenBefore old new moment = (id : ℕ) → (stream_at new id ≡ stream_at old id)
    ⊎ IsForgottenBefore (stream_at old id) (stream_at new id) moment
