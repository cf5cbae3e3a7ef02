-- A listing of inputs that are read while they are written.
use Rattle.std.specs.Prelude.{◌≡◌, ◌⊎◌, ◌==◌, ℕ, suc, ◌-◌, ◌^◌, min, Bool, true, false, List, [], ◌∷◌}
use Rattle.std.specs.Prelude.{◌++◌, map, count_by, Option, Some, None}
use Rattle.std.specs.List.{list_all, list_any}
use Rattle.std.specs.Io.KnownBytes.{Appends}
use Rattle.trace_model.specs.declared.numbers.CpuId.{CpuId}
use Rattle.trace_model.specs.Listing.{Line as ModelLine}
use Rattle.command_io.specs.CommandRun.{AppendsPrefix}
use Rattle.line_follower.specs.declared.lines.Said.{Said}
use Rattle.line_follower.specs.Known.{is_any_open}
use Rattle.capture_text.specs.declared.form.Form.{Form}
use Rattle.capture_text.specs.declared.printer.Printer.{Printer}
use Rattle.capture_text.specs.Printing.{Detail}
use Rattle.capture_text.specs.Selection.{Selected}
use Rattle.capture_text.specs.Window.{KnownBound}
use Rattle.live_listing.specs.declared.pages.Content.{Content}
use Rattle.live_listing.specs.declared.following.Followed.{Followed}
use Rattle.live_listing.specs.declared.following.Happening.{Happening as Happens}
use Rattle.live_listing.specs.declared.following.Happening.TheVariants.{Page, Quiet, Ended, NotRead}
use Rattle.live_listing.specs.Pages.{Reached}
use Rattle.live_listing.specs.Live.{Live, Happening, Step, page_read, was_quiet, has_ended, nothing_live, Run}
use Rattle.live_listing.specs.Live.{GivesRest}
use Rattle.live_listing.specs.Printing.{said_texts, listed_all, is_late, bound_after, gap_text, HasPrinted}

-- what happens, and to which CPU
abbrev pub happening_seen : Happens → Happening
happening_seen (Page cpu bytes) = page_read cpu.0 bytes.items
happening_seen (Quiet cpu) = was_quiet cpu.0
happening_seen (Ended cpu) = has_ended cpu.0
happening_seen (NotRead cpu) = has_ended cpu.0

abbrev pub cpu_of : Happens → ℕ
cpu_of (Page cpu bytes) = cpu.0
cpu_of (Quiet cpu) = cpu.0
cpu_of (Ended cpu) = cpu.0
cpu_of (NotRead cpu) = cpu.0

-- whether a CPU is one of these
abbrev pub has_cpu : List CpuId → (cpu : ℕ) → Bool
has_cpu cpus cpu = list_any (λ c. c.0 == cpu) cpus

-- the end of a CPU that isn't one of these
abbrev pub IsOther : (cpus : List CpuId) → Happens → Type 0
IsOther cpus (Ended cpu) = has_cpu cpus cpu.0 ≡ false
IsOther cpus (Page cpu bytes) = ⊥
IsOther cpus (Quiet cpu) = ⊥
IsOther cpus (NotRead cpu) = ⊥

-- This happens, one after the other: each came from the source, or is the end of a CPU that has no input there.
abbrev pub Happened : {S : Type 0} → (S → Happens → S → Type 0) → (cpus : List CpuId) → S → List Happens → S → Type 0
Happened gives cpus old [] new = old ≡ new
Happened {S} gives cpus old (happening ∷ others) new =
    (between : S) × (gives old happening between ⊎ (IsOther cpus happening × (between ≡ old)))
    × Happened gives cpus between others new

-- the first CPU of which a read failed, if there is one
abbrev pub first_not_read : List Happens → Option CpuId
first_not_read [] = None
first_not_read (NotRead cpu ∷ others) = Some cpu
first_not_read (Page cpu bytes ∷ others) = first_not_read others
first_not_read (Quiet cpu ∷ others) = first_not_read others
first_not_read (Ended cpu ∷ others) = first_not_read others

-- what was lost of each CPU, from this one on, behind its last record
abbrev pub last_gaps : Form → (bounds : ℕ → Option KnownBound) → (size cpu : ℕ) → List Reached → List ℕ
last_gaps form bounds size cpu [] = []
last_gaps form bounds size cpu (reached ∷ others) =
    gap_text form (bounds cpu) size cpu reached.lost ++ last_gaps form bounds size (suc cpu) others

-- each page could be read
abbrev pub are_intact : List Reached → Bool
are_intact cpus = list_all (λ reached. reached.is_intact) cpus

-- The text is written as far as writes went.
pub record IsWritten (contents after : Option (List ℕ)) (failed : Bool) (text : List ℕ) : Type 0 where
  pub all : failed ≡ false → Appends contents after text
  pub cut_off : failed ≡ true → AppendsPrefix contents after text

-- These lines are printed behind those that were, and written as far as writes went.
abbrev pub PrintsAll : (size : ℕ) → List (Said Content) → Printer → (contents : Option (List ℕ)) → Printer
    → (after : Option (List ℕ)) → (failed : Bool) → Type 0
PrintsAll size said old contents new after failed =
    (form : Form) (detail : Detail) (selected : Selected) (before : List ModelLine)
    → HasPrinted form detail selected before old
    → HasPrinted form detail selected (before ++ listed_all said) new
    × IsWritten contents after failed (said_texts form detail selected size before said)

-- a count, up to the greatest number
abbrev pub counted : ℕ → ℕ
counted n = min n (2 ^ 64 - 1)

-- nothing is printed or written
pub record PrintsNothing (printer : Printer) (contents : Option (List ℕ)) (printer_now : Printer)
    (after : Option (List ℕ)) (failed : Bool) : Type 0 where
  pub printer_is : printer_now ≡ printer
  pub contents_are : after ≡ contents
  pub sound : failed ≡ false

-- it happens, and a write fails: of the text of what is given then a beginning is written, and not all
pub record CutsText (size : ℕ) (happening : Happens) (old : Live) (printer : Printer) (contents : Option (List ℕ))
    (printer_now : Printer) (after : Option (List ℕ)) (failed : Bool) : Type 0 where
  pub said : List (Said Content)
  pub new : Live
  pub step : Step (happening_seen happening) old said new
  pub prints : PrintsAll size said printer contents printer_now after failed
  pub cut : failed ≡ true

-- Why there is no answer to something that is to happen: it didn't happen, and nothing is printed of it; or it did, and
-- a write failed.
abbrev pub CutsOne : (size : ℕ) → Happens → Live → Printer → (contents : Option (List ℕ)) → Printer
    → (after : Option (List ℕ)) → (failed : Bool) → Type 0
CutsOne size happening old printer contents printer_now after failed =
    PrintsNothing printer contents printer_now after failed
    ⊎ CutsText size happening old printer contents printer_now after failed

-- What has happened so far, what was given of it, that this is printed, how many lines were late, and of which CPU a
-- read failed first.
pub record Follows {S : Type 0} (gives : S → Happens → S → Type 0) (cpus : List CpuId) (size : ℕ) (source : S)
    (printer : Printer) (contents : Option (List ℕ)) (source_now : S) (live : Live) (printer_now : Printer)
    (after : Option (List ℕ)) (failed : Bool) (late : ℕ) (not_read : Option CpuId) : Type 0 where
  pub happened : List Happens
  pub happens : Happened gives cpus source happened source_now
  pub given : List (Said Content)
  pub run : Run nothing_live (map happening_seen happened) given live
  pub prints : PrintsAll size given printer contents printer_now after failed
  pub late_is : late ≡ counted (count_by is_late given)
  pub not_read_is : not_read ≡ first_not_read happened

-- all that was given, and behind it what was lost of each CPU behind its last record
abbrev pub whole_text : Form → Detail → Selected → (size : ℕ) → (before : List ModelLine) → List (Said Content)
    → List Reached → List ℕ
whole_text form detail selected size before given cpus =
    said_texts form detail selected size before given
    ++ last_gaps form (bound_after selected (before ++ listed_all given)) size 0 cpus

-- All inputs had ended, and then a write failed: a beginning of the whole text is written, and not all.
pub record CutsEnd (size : ℕ) (printer : Printer) (contents after : Option (List ℕ)) (failed : Bool)
    (given : List (Said Content)) (live : Live) : Type 0 where
  pub ended : is_any_open live.following.known.cpus ≡ false
  pub rest : List (Said Content)
  pub last : Live
  pub gives_rest : GivesRest live rest last
  pub cut : failed ≡ true
  pub begins : (form : Form) (detail : Detail) (selected : Selected) (before : List ModelLine)
      → HasPrinted form detail selected before printer
      → AppendsPrefix contents after (whole_text form detail selected size before (given ++ rest) last.cpus)

-- A listing that was stopped: what has happened until then, and what was given of it. The text of this is printed, and
-- written as far as writes went; or all inputs had ended, and a write failed then. The source was at `between` after
-- what happened; what came of it since isn't listed.
pub record FollowsPart {S : Type 0} (gives : S → Happens → S → Type 0) (cpus : List CpuId) (size : ℕ) (source : S)
    (printer : Printer) (contents : Option (List ℕ)) (printer_now : Printer) (after : Option (List ℕ)) (failed : Bool)
    : Type 0 where
  pub happened : List Happens
  pub between : S
  pub happens : Happened gives cpus source happened between
  pub given : List (Said Content)
  pub live : Live
  pub run : Run nothing_live (map happening_seen happened) given live
  pub written : PrintsAll size given printer contents printer_now after failed
      ⊎ CutsEnd size printer contents after failed given live

-- All inputs have ended, and all that happened is listed: what was given as it happened, then what was left, and then
-- what was lost behind the last record of each CPU.
pub record FollowsAll {S : Type 0} (gives : S → Happens → S → Type 0) (cpus : List CpuId) (size : ℕ) (source : S)
    (printer : Printer) (contents : Option (List ℕ)) (source_now : S) (printer_now : Printer)
    (after : Option (List ℕ)) (followed : Followed) : Type 0 where
  pub happened : List Happens
  pub happens : Happened gives cpus source happened source_now
  pub given : List (Said Content)
  pub live : Live
  pub run : Run nothing_live (map happening_seen happened) given live
  pub ended : is_any_open live.following.known.cpus ≡ false
  pub rest : List (Said Content)
  pub last : Live
  pub gives_rest : GivesRest live rest last
  pub prints : (form : Form) (detail : Detail) (selected : Selected) (before : List ModelLine)
      → HasPrinted form detail selected before printer
      → HasPrinted form detail selected (before ++ listed_all (given ++ rest)) printer_now
      × Appends contents after (whole_text form detail selected size before (given ++ rest) last.cpus)
  pub late_is : followed.late ≡ counted (count_by is_late (given ++ rest))
  pub intact_is : followed.is_intact ≡ are_intact last.cpus
  pub not_read_is : followed.not_read ≡ first_not_read happened
