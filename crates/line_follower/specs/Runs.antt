-- All events of a reading, each with what was given after it, and at the end what was left.
use Rattle.std.specs.Prelude.{◌≡◌, true, false, ℕ, ◌<◌, ◌≤◌, List, [], ◌∷◌, ◌++◌, map, flat_map, replicate, length}
use Rattle.std.specs.Prelude.{slice_index_or, All, IsPermutation}
use Rattle.std.specs.List.{Contains}
use Rattle.line_follower.specs.declared.lines.Line.{Line}
use Rattle.line_follower.specs.declared.lines.Said.{Said}
use Rattle.line_follower.specs.declared.lines.Said.TheVariants.{InOrder, Late}
use Rattle.line_follower.specs.Order.{is_before, line_of, AreInOrder}
use Rattle.line_follower.specs.Known.{Known, Event, page, quiet, ended, known_after, unknown, IsFinal}
use Rattle.line_follower.specs.Following.{Following, nothing_read, lines_read, Takes, Gives, GivesFinal, NoneIsFinal}

-- ---- what is called

-- these are given, one after the other
abbrev pub GivesAll : {T : Type 0}
    → (Following T → Said T → Following T → Type 0)
    → Following T
    → List (Said T)
    → Following T
    → Type 0
GivesAll gives old [] new = old ≡ new
GivesAll {T} gives old (said ∷ others) new =
    (between : Following T) × gives old said between × GivesAll gives between others new

-- an event happened, and then these were given, until no line that waited was final
pub record Follows {T : Type 0} (old : Following T) (event : Event T) (given : List (Said T)) (new : Following T) :
    Type 0 where
  pub taken : Following T
  pub takes : Takes old event taken
  pub gives : GivesAll GivesFinal taken given new
  pub none : NoneIsFinal new

-- these events happened, one after the other, and after each of them this was given
abbrev pub IsRun : {T : Type 0} → Following T → List (Event T × List (Said T)) → Following T → Type 0
IsRun old [] new = old ≡ new
IsRun {T} old (step ∷ steps) new = (between : Following T) × Follows old step.0 step.1 between × IsRun between steps new

-- A reading of this many CPUs: these events with what was given after each, and what was left at the end.
pub record IsReading {T : Type 0} (count : ℕ) (steps : List (Event T × List (Said T))) (rest : List (Said T)) : Type 0
  where
    pub end : Following T
    pub run : IsRun (nothing_read count) steps end
    pub left : Following T
    pub gives : GivesAll Gives end rest left
    pub none : left.waiting ≡ []

-- ---- what it gives

-- all lines that were read
abbrev pub all_read : {T : Type 0} → List (Event T) → List (Line T)
all_read events = flat_map lines_read events

-- what is known after events, of which these are the first
abbrev pub known_from : {T : Type 0} → Known → List (Event T) → Known
known_from known [] = known
known_from known (event ∷ events) = known_from (known_after known event) events

-- what is known of this many CPUs after these events
abbrev pub known_of : {T : Type 0} → ℕ → List (Event T) → Known
known_of count events = known_from (record { cpus = replicate count unknown; greatest = 0 }) events

-- What was given after these events is each of the lines that are final by then, once, and nothing else.
pub record IsUpToDate {T : Type 0} (count : ℕ) (events : List (Event T)) (given : List (Said T)) : Type 0 where
  pub waiting : List (Line T)
  pub whole : IsPermutation (all_read events) (map line_of given ++ waiting)
  pub final : All (λ line. IsFinal (known_of count events).cpus line.place) (map line_of given)
  pub not_final : All (λ line. IsFinal (known_of count events).cpus line.place → ⊥) waiting

-- After each event all is given that is final, and what is given after an event is in order. The events `before` were
-- there, and `given` was given.
abbrev pub AreUpToDate : {T : Type 0}
    → ℕ
    → (before : List (Event T))
    → (given : List (Said T))
    → List (Event T × List (Said T))
    → Type 0
AreUpToDate count before given [] = Unit {0}
AreUpToDate count before given (step ∷ steps) =
    IsUpToDate count (before ++ step.0 ∷ []) (given ++ step.1)
    × AreInOrder (map line_of step.1)
    × AreUpToDate count (before ++ step.0 ∷ []) (given ++ step.1) steps

-- a line is late exactly if it is before one that was given before it
abbrev pub IsSaidRightly : {T : Type 0} → (before : List (Line T)) → Said T → Type 0
IsSaidRightly before (InOrder line) = All (λ earlier. is_before line.place earlier.place ≡ false) before
IsSaidRightly {T} before (Late line) =
    (earlier : Line T) × Contains before earlier × (is_before line.place earlier.place ≡ true)

abbrev pub AreSaidRightly : {T : Type 0} → (before : List (Line T)) → List (Said T) → Type 0
AreSaidRightly before [] = Unit {0}
AreSaidRightly before (said ∷ others) =
    IsSaidRightly before said × AreSaidRightly (before ++ line_of said ∷ []) others

-- the events of these steps
abbrev pub events_of : {T : Type 0} → List (Event T × List (Said T)) → List (Event T)
events_of steps = map (λ step. step.0) steps

-- what was given in these steps
abbrev pub given_in : {T : Type 0} → List (Event T × List (Said T)) → List (Said T)
given_in steps = flat_map (λ step. step.1) steps

-- Events, each with what was given after it, and what was left at the end, are those of a reading as it is meant.
pub record IsFollowed {T : Type 0} (count : ℕ) (steps : List (Event T × List (Said T))) (rest : List (Said T)) : Type
    0 where
  -- after each event exactly that is given which is final by then, in order
  pub up_to_date : AreUpToDate count [] [] steps
  -- in the end each line that was read is given once, and nothing else
  pub whole : IsPermutation (all_read (events_of steps)) (map line_of (given_in steps ++ rest))
  -- a line is late exactly if it is before one that was given before it
  pub said : AreSaidRightly [] (given_in steps ++ rest)
  -- what is left is in order
  pub rest_in_order : AreInOrder (map line_of rest)

-- the lines that aren't late
abbrev pub in_order_of : {T : Type 0} → List (Said T) → List (Line T)
in_order_of [] = []
in_order_of (InOrder line ∷ others) = line ∷ in_order_of others
in_order_of (Late line ∷ others) = in_order_of others

-- ---- when none is late

abbrev pub IsNotLate : {T : Type 0} → Said T → Type 0
IsNotLate (InOrder line) = Unit {0}
IsNotLate (Late line) = ⊥

-- A line of a CPU comes in time: not before the CPU's bound, nor before a line that was read of the CPU.
pub record ComesInTime {T : Type 0} (known : Known) (read : List (Line T)) (cpu : ℕ) (line : Line T) : Type 0 where
  pub of_cpu : line.place.cpu.0 ≡ cpu
  pub from_bound : (slice_index_or known.cpus cpu unknown).bound.0 ≤ line.place.moment.0
  pub from_read : (earlier : Line T)
      → Contains read earlier
      → earlier.place.cpu.0 ≡ cpu
      → is_before line.place earlier.place ≡ false

-- the lines of a page of a CPU that is open
pub record ComeInTime {T : Type 0} (known : Known) (read : List (Line T)) (cpu : ℕ) (lines : List (Line T)) : Type 0
  where
    pub there : cpu < length known.cpus
    pub is_open : (slice_index_or known.cpus cpu unknown).is_open ≡ true
    pub each : All (ComesInTime known read cpu) lines

-- the lines of an event come in time, if it has any
abbrev pub IsInTime : {T : Type 0} → Known → List (Line T) → Event T → Type 0
IsInTime known read (page cpu lines) = ComeInTime known read cpu lines
IsInTime known read (quiet cpu) = Unit {0}
IsInTime known read (ended cpu) = Unit {0}

-- the lines of all these events do, behind those events
abbrev pub AreInTime : {T : Type 0} → ℕ → (before : List (Event T)) → List (Event T) → Type 0
AreInTime count before [] = Unit {0}
AreInTime count before (event ∷ events) =
    IsInTime (known_of count before) (all_read before) event × AreInTime count (before ++ event ∷ []) events
