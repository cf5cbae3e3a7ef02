-- One listing of all CPUs, and its steps.
use Rattle.std.specs.Prelude.{◌≡◌, ℕ, List, [], ◌∷◌, ◌++◌, ◌<◌, replicate, slice_index_or, slice_set, length}
use Rattle.trace_model.specs.declared.limits.TheConstants.{MAX_CPUS}
use Rattle.line_follower.specs.declared.lines.Line.{Line}
use Rattle.line_follower.specs.declared.lines.Said.{Said}
use Rattle.line_follower.specs.Known.{Event, page, quiet, ended}
use Rattle.line_follower.specs.Following.{Following, nothing_read, Gives}
use Rattle.line_follower.specs.Runs.{Follows, GivesAll}
use Rattle.capture.specs.Pages.{Page, IsPageOf}
use Rattle.live_listing.specs.declared.pages.Content.{Content}
use Rattle.live_listing.specs.declared.pages.CpuPages.{CpuPages}
use Rattle.live_listing.specs.Pages.{Reached, nothing_reached, records_read, reached_with, AreLinesOf}

-- the lines that wait, and how far each CPU is read
pub record Live : Type 0 where
  pub following : Following Content
  pub cpus : List Reached

-- before the first page of any CPU
abbrev pub nothing_live : Live
nothing_live = record { following = nothing_read MAX_CPUS; cpus = replicate MAX_CPUS nothing_reached }

-- each CPU is at the place that is its number
abbrev pub AreInOrder : List CpuPages → Type 0
AreInOrder cpus = (k : ℕ) → k < length cpus → (d : CpuPages) → (slice_index_or cpus k d).cpu.0 ≡ k

-- how far a CPU is read
abbrev pub reached_of : List Reached → (cpu : ℕ) → Reached
reached_of cpus cpu = slice_index_or cpus cpu nothing_reached

-- an event happens, in which no page is read, and this is given, which is final then
pub record Happens (event : Event Content) (old : Live) (said : List (Said Content)) (new : Live) : Type 0 where
  pub follows : Follows old.following event said new.following
  pub same : new.cpus ≡ old.cpus

-- a page of a CPU with these bytes is read, and this is given, which is final then
pub record ReadsPage (cpu : ℕ) (bytes : List ℕ) (old : Live) (said : List (Said Content)) (new : Live) : Type 0 where
  pub there : cpu < length old.cpus
  pub value : Page
  pub is_page : IsPageOf bytes value
  pub lines : List (Line Content)
  pub are_lines : AreLinesOf cpu lines (records_read (reached_of old.cpus cpu) value)
  pub follows : Follows old.following (page cpu lines) said new.following
  pub reached_is : new.cpus ≡ slice_set old.cpus cpu (reached_with (reached_of old.cpus cpu) value)

-- this is given, which was left
pub record GivesRest (old : Live) (said : List (Said Content)) (new : Live) : Type 0 where
  pub gives : GivesAll Gives old.following said new.following
  pub none : new.following.waiting ≡ []
  pub same : new.cpus ≡ old.cpus

-- it does, and what is given is put behind what was given
abbrev pub Adds : (List (Said Content) → Type 0) → (before after : List (Said Content)) → Type 0
Adds does before after = (said : List (Said Content)) × (after ≡ before ++ said) × does said

-- What happens with the input of a CPU: a page is read, nothing came for a round, or it ended.
pub data Happening : Type 0 where
  page_read : (cpu : ℕ) → (bytes : List ℕ) → Happening
  was_quiet : (cpu : ℕ) → Happening
  has_ended : (cpu : ℕ) → Happening

-- it happens, and this is given, which is final then
abbrev pub Step : Happening → Live → List (Said Content) → Live → Type 0
Step (page_read cpu bytes) old said new = ReadsPage cpu bytes old said new
Step (was_quiet cpu) old said new = Happens (quiet cpu) old said new
Step (has_ended cpu) old said new = Happens (ended cpu) old said new

-- all of this happens, one after the other, and this is given
abbrev pub Run : Live → List Happening → (given : List (Said Content)) → Live → Type 0
Run old [] given new = (old ≡ new) × (given ≡ [])
Run old (happening ∷ others) given new =
    (between : Live) × (said rest : List (Said Content)) × Step happening old said between × Run between others rest new
    × (given ≡ said ++ rest)
