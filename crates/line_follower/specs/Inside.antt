-- How lines wait, and where the first of all that can still come stands.
use Rattle.std.specs.Prelude.{◌≡◌, true, ℕ, ◌<◌, ◌≤◌, ◌⊎◌, ◌-◌, ◌^◌, List, length, slice_index_or}
use Rattle.std.specs.declared.cmp.Ordering.{Ordering}
use Rattle.line_follower.specs.declared.lines.Line.{Line}
use Rattle.line_follower.specs.declared.bounds.Progress.{Progress}
use Rattle.line_follower.specs.declared.bounds.Front.{Front}
use Rattle.line_follower.specs.declared.follower.Waiting.{Waiting}
use Rattle.line_follower.specs.Order.{place_order}

-- the line that is first in the order is the greatest
abbrev pub waiting_order : {T : Type 0} → Waiting T → Waiting T → Ordering
waiting_order a b = place_order b.place.0 a.place.0

-- the line that waits so
abbrev pub line_of_waiting : {T : Type 0} → Waiting T → Line T
line_of_waiting waiting = record { place = waiting.place.0; content = waiting.content }

-- the line, as it waits
abbrev pub waiting_of : {T : Type 0} → Line T → Waiting T
waiting_of line = record { place = record { 0 = line.place }; content = line.content }

-- the front isn't after what can still come of a CPU that is this far
abbrev pub IsFrontUpTo : Front → (moment cpu : ℕ) → Type 0
IsFrontUpTo front moment cpu = (front.moment < moment) ⊎ ((front.moment ≡ moment) × (front.cpu ≤ cpu))

-- the front is at the bound of this CPU, which is open
pub record IsAt (front : Front) (progress : Progress) (cpu : ℕ) : Type 0 where
  pub is_open : progress.is_open ≡ true
  pub moment : front.moment ≡ progress.bound.0
  pub cpu_is : front.cpu ≡ cpu

-- the first of a front and that of a CPU
pub record IsNext (front : Front) (progress : Progress) (cpu : ℕ) (next : Front) : Type 0 where
  pub either : (next ≡ front) ⊎ IsAt next progress cpu
  pub up_to_front : IsFrontUpTo next front.moment front.cpu
  pub up_to_cpu : progress.is_open ≡ true → IsFrontUpTo next progress.bound.0 cpu

-- the front isn't after what can still come of the first `count` of these CPUs
abbrev pub IsNotAfter : List Progress → (count : ℕ) → Front → Type 0
IsNotAfter cpus count front = (cpu : ℕ)
    → cpu < count
    → (d : Progress)
    → (slice_index_or cpus cpu d).is_open ≡ true
    → IsFrontUpTo front (slice_index_or cpus cpu d).bound.0 cpu

-- the front is that of one of these CPUs, or the greatest there is
abbrev pub IsOfOne : List Progress → Front → Type 0
IsOfOne cpus front = ((front.moment ≡ 2 ^ 64 - 1) × (front.cpu ≡ 2 ^ 64 - 1))
    ⊎ ((cpu : ℕ) × (cpu < length cpus) × ((d : Progress) → IsAt front (slice_index_or cpus cpu d) cpu))

-- the first of what can still come of these CPUs, or the greatest front if none is open
pub record IsFront (cpus : List Progress) (front : Front) : Type 0 where
  pub least : IsNotAfter cpus (length cpus) front
  pub of_one : IsOfOne cpus front
