-- The state of one reading of several CPUs, and its steps.
use Rattle.std.specs.Prelude.{◌≡◌, ℕ, List, [], ◌∷◌, ◌++◌, replicate, All, IsPermutation}
use Rattle.line_follower.specs.declared.lines.Place.{Place}
use Rattle.line_follower.specs.declared.lines.Line.{Line}
use Rattle.line_follower.specs.declared.lines.Said.{Said}
use Rattle.line_follower.specs.Order.{NoneIsBefore, line_of, said_after, last_of}
use Rattle.line_follower.specs.Known.{Known, Event, page, quiet, ended, known_after, unknown, IsFinal}

-- What is known of the CPUs, the lines that wait, and the last place in the order of those that were given.
pub record Following (T : Type 0) : Type 0 where
  pub known : Known
  pub waiting : List (Line T)
  pub last : Place

-- the place that none is before
abbrev pub first_place : Place
first_place = record { moment = record { 0 = 0 }; cpu = record { 0 = 0 }; number = record { 0 = 0 } }

-- of this many CPUs, before the first event
abbrev pub nothing_read : {T : Type 0} → ℕ → Following T
nothing_read count = record {
  known = record { cpus = replicate count unknown; greatest = 0 };
  waiting = [];
  last = first_place;
}

-- the lines that were read by an event
abbrev pub lines_read : {T : Type 0} → Event T → List (Line T)
lines_read (page cpu lines) = lines
lines_read (quiet cpu) = []
lines_read (ended cpu) = []

-- an event happened: its lines wait too
pub record Takes {T : Type 0} (old : Following T) (event : Event T) (new : Following T) : Type 0 where
  pub known : new.known ≡ known_after old.known event
  pub waiting : IsPermutation (lines_read event ++ old.waiting) new.waiting
  pub last : new.last ≡ old.last

-- a line that waited is given, and none that still waits is before it
pub record Gives {T : Type 0} (old : Following T) (said : Said T) (new : Following T) : Type 0 where
  pub said_is : said ≡ said_after old.last (line_of said)
  pub known : new.known ≡ old.known
  pub waiting : IsPermutation old.waiting (line_of said ∷ new.waiting)
  pub first : NoneIsBefore new.waiting (line_of said).place
  pub last : new.last ≡ last_of old.last (line_of said).place

-- a final line that waited is given
pub record GivesFinal {T : Type 0} (old : Following T) (said : Said T) (new : Following T) : Type 0 where
  pub gives : Gives old said new
  pub is_final : IsFinal old.known.cpus (line_of said).place

-- no line that waits is final
abbrev pub NoneIsFinal : {T : Type 0} → Following T → Type 0
NoneIsFinal state = All (λ line. IsFinal state.known.cpus line.place → ⊥) state.waiting
