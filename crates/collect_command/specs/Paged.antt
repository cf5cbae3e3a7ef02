-- Raw files whose pages are read one after the other.
use Rattle.std.specs.Prelude.{◌≡◌, ◌<◌, ◌≤◌, ◌^◌, ◌⊎◌, ℕ, suc, Bool, true, false, List, [], ◌∷◌, ◌++◌, flat_map, map}
use Rattle.std.specs.Prelude.{length, slice_set}
use Rattle.std.specs.Prelude.{Option, Some, None, ⊤}
use Rattle.std.specs.Io.KnownBytes.{IsAtEnd as IsEnd}
use Rattle.std.specs.List.{list_all, AllByRecursion}
use Rattle.capture.specs.declared.files.captured.Input.{Input}
use Rattle.trace_model.specs.declared.limits.TheConstants.{MAX_CPUS}
use Rattle.capture.specs.Pages.{Page, AreCut, Fit, unknown_from, damages_from}
use Rattle.capture.specs.Smaller.{smaller_pages}
use Rattle.capture.specs.files.Files.{File, ModelPart, is_dat}
use Rattle.capture.specs.files.Inputs.{AreRead}
use Rattle.capture.specs.files.Captures.{measured}
use Rattle.capture.specs.files.Losses.{are_intact}
use Rattle.capture_text.specs.declared.form.Form.{Form}
use Rattle.capture_text.specs.Printing.{Detail as LineDetail}
use Rattle.capture_text.specs.Selection.{Selected, selection_seen}
use Rattle.collect_command.specs.declared.collect.Collecting.{Collecting}
use Rattle.collect_command.specs.Following.{formats_given}
use Rattle.collect_command.specs.Runs.{CollectsAll, lines_for, marks_for, text_in}
use Rattle.collect_command.specs.Listings.{IsListed, detail_by, is_unnamed, with_marks}
use Rattle.collect_command.specs.declared.ending.Collected.{Collected}
use Rattle.collect_command.specs.declared.ending.Listed.{Listed}
use Rattle.collect_command.specs.declared.ending.Ending.{Ending}
use Rattle.collect_command.specs.declared.ending.Ending.TheVariants.{Done, Damaged, Hidden, MalformedFile, Malformed}
use Rattle.collect_command.specs.declared.ending.Ending.TheVariants.{Numbers, NoMemory, NotRead, Changed, TooLong}
use Rattle.collect_command.specs.declared.ending.Ending.TheVariants.{NotWritten}
use Rattle.capture_text.specs.Window.{KnownBound}
use Rattle.capture_text.specs.Listed.{listed_line, listed_run, listed_losses, listed_damages}
use Rattle.command_io.specs.Written.{IsTextWritten}
use Rattle.command_io.specs.declared.command.TheConstants.{MEMORY_LINE}
use Rattle.page_lines.specs.Spread.{OwnPages, NoneFalls, RiseBelow, own_lines, spread}
use Rattle.page_lines.specs.Tallies.{IsTally, runs_from}
use Rattle.page_image.specs.declared.image.Missed.TheVariants.{Unknown}
use Rattle.time_merge.specs.Heads.{AllBegin, first_in}
use Rattle.time_merge.specs.Merging.{merged_lists}
use Rattle.time_merge.specs.SourceWalks.{AllPass, each_joined}
use Rattle.page_lines.specs.declared.source.Halt.{Halt}
use Rattle.page_lines.specs.declared.source.Halt.TheVariants as halts
use Rattle.page_lines.specs.Sources.{Reading, IsFresh, IsHalted, Passes, PassesLine}
use Rattle.trace_model.specs.Listing.{Line as ModelLine}

-- a raw file that was read: the CPU whose pages it has, its bytes, and the pages that they are
pub record RawFile : Type 0 where
  pub cpu : ℕ
  pub bytes : List ℕ
  pub pages : List Page

abbrev pub own_of : RawFile → OwnPages
own_of raw = record { cpu = raw.cpu; pages = raw.pages }

abbrev pub file_of : RawFile → File
file_of raw = record { cpu = raw.cpu; bytes = raw.bytes }

abbrev pub part_of : (size : ℕ) → RawFile → ModelPart
part_of size raw = record { cpu = raw.cpu; size = size; bytes = raw.bytes }

-- the pages of each CPU
abbrev pub captures_of : List RawFile → List (List Page)
captures_of raws = spread 0 MAX_CPUS (map own_of raws)

-- the runs of missing numbers of each of them, then the losses of unknown number, then the damaged pages
abbrev pub raw_runs : Form → (bounds : ℕ → Option KnownBound) → List RawFile → List ℕ
raw_runs form bounds raws =
    flat_map (λ raw. flat_map (listed_run form (bounds raw.cpu) raw.cpu) (runs_from 0 0 raw.pages)) raws

abbrev pub raw_unknown : Form → (bounds : ℕ → Option KnownBound) → List RawFile → List ℕ
raw_unknown form bounds raws =
    flat_map (λ raw. listed_losses form (bounds raw.cpu) raw.cpu (unknown_from 0 raw.pages)) raws

abbrev pub raw_damaged : Form → (bounds : ℕ → Option KnownBound) → (size : ℕ) → List RawFile → List ℕ
raw_damaged form bounds size raws =
    flat_map (λ raw. listed_damages form (bounds raw.cpu) (measured (part_of size raw) ∷ []) raw.cpu
    (damages_from 0 0 raw.pages)) raws

-- what was lost of each of them
abbrev pub raw_losses : Form → (bounds : ℕ → Option KnownBound) → (size : ℕ) → List RawFile → List ℕ
raw_losses form bounds size raws =
    (raw_runs form bounds raws ++ raw_unknown form bounds raws) ++ raw_damaged form bounds size raws

-- each page of each of them can be read
abbrev pub raw_intact : List RawFile → Bool
raw_intact raws = list_all (λ raw. are_intact raw.pages) raws

-- ---- what is read from

-- this source was opened for the pages of an input, if it can go on; losses of unknown number stay unknown
abbrev pub IsOpened : {R : Type 0} → (remaining : R → Option (List ℕ)) → (size : ℕ) → Input R → Reading R → Type 0
IsOpened {R} remaining size input source = source.halt ≡ None → (fresh : Reading R)
    × IsFresh input.cpu input.reader size Unknown fresh × Passes remaining fresh [] source

-- one source is opened for each input
abbrev pub AreOpened : {R : Type 0} → (remaining : R → Option (List ℕ)) → (size : ℕ) → List (Input R)
    → List (Reading R) → Type 0
AreOpened remaining size [] [] = ⊤
AreOpened remaining size (input ∷ inputs) (source ∷ sources) =
    IsOpened remaining size input source × AreOpened remaining size inputs sources
AreOpened remaining size [] (source ∷ sources) = ⊥
AreOpened remaining size (input ∷ inputs) [] = ⊥

-- the inputs that the sources read from
abbrev pub input_of : {R : Type 0} → Reading R → Input R
input_of source = record { cpu = source.tally.cpu; reader = source.reader }

-- the CPUs of sources rise, from this one on
abbrev pub CpusRise : {R : Type 0} → (low : ℕ) → List (Reading R) → Type 0
CpusRise low [] = ⊤
CpusRise low (source ∷ sources) =
    (low ≤ source.tally.cpu.0) × (source.tally.cpu.0 < MAX_CPUS) × CpusRise (suc source.tally.cpu.0) sources

-- A source has read its reader to the end.
pub record HasEnded {R : Type 0} (remaining : R → Option (List ℕ)) (failed : R → Bool) (source : Reading R) : Type 0
  where
    pub last : source.is_last ≡ true
    pub end : IsEnd (remaining source.reader)
    pub sound : failed source.reader ≡ false
    pub fits : source.taken < 2 ^ 64

-- what a source has read is this file
pub record IsRawOf {R : Type 0} (source : Reading R) (raw : RawFile) : Type 0 where
  pub cpu_is : source.tally.cpu.0 ≡ raw.cpu
  pub tally_is : IsTally source.tally raw.pages
  pub count_is : source.taken ≡ length raw.bytes

-- what sources have read are these files
abbrev pub AreRawOf : {R : Type 0} → List (Reading R) → List RawFile → Type 0
AreRawOf [] [] = ⊤
AreRawOf (source ∷ sources) (raw ∷ raws) = IsRawOf source raw × AreRawOf sources raws
AreRawOf [] (raw ∷ raws) = ⊥
AreRawOf (source ∷ sources) [] = ⊥

-- the pages are those of the bytes, and their numbers and bytes fit 64 bits
pub record IsRaw (size : ℕ) (raw : RawFile) : Type 0 where
  pub cut : AreCut size raw.bytes raw.pages
  pub fit : Fit raw.pages
  pub bytes_fit : length raw.bytes < 2 ^ 64

-- it is read as raw pages, and none of them shows smaller ones
pub record IsPlain (size : ℕ) (raw : RawFile) : Type 0 where
  pub is_raw : is_dat [] raw.bytes ≡ false
  pub none_smaller : smaller_pages size raw.bytes ≡ None

module _ {R : Type 0} (remaining : R → Option (List ℕ)) (failed : R → Bool) (size : ℕ) where
  -- What inputs have that were read by sources to their ends, and these lines.
  pub record AreWhole (inputs : List (Input R)) (lists : List (List ModelLine)) (news : List (Reading R)) : Type 0
    where
      pub raws : List RawFile
      pub lists_are : lists ≡ map own_lines (map own_of raws)
      pub none_falls : NoneFalls (map own_of raws)
      pub raw_of : AreRawOf news raws
      pub read : AreRead remaining failed inputs (map input_of news) (map file_of raws)
      pub are_raw : AllByRecursion (IsRaw size) raws
      pub are_plain : AllByRecursion (IsPlain size) raws

-- ---- a listing

-- all inputs are listed to their ends
abbrev pub IsToTheEnd : Ending → Type 0
IsToTheEnd Done = ⊤
IsToTheEnd Damaged = ⊤
IsToTheEnd (Changed input) = ⊥
IsToTheEnd Hidden = ⊥
IsToTheEnd (MalformedFile input fault) = ⊥
IsToTheEnd (Malformed input) = ⊥
IsToTheEnd Numbers = ⊥
IsToTheEnd NoMemory = ⊥
IsToTheEnd (NotRead input) = ⊥
IsToTheEnd (TooLong input) = ⊥
IsToTheEnd NotWritten = ⊥

-- Inputs were read to their ends, each is a raw file of a later CPU than the one before, and the captures that they are
-- were listed.
pub record ListsRaw {R : Type 0} (remaining : R → Option (List ℕ)) (has_failed : R → Bool) (form : Form)
    (detail : LineDetail) (selected : Selected) (size : ℕ) (inputs : List (Input R)) (contents after : Option (List ℕ))
    (failed : Bool) (listed : Listed) : Type 0 where
  pub new : List (Input R)
  pub raws : List RawFile
  pub read : AreRead remaining has_failed inputs new (map file_of raws)
  pub rise : RiseBelow 0 MAX_CPUS (map own_of raws)
  pub are_raw : AllByRecursion (IsRaw size) raws
  pub are_plain : AllByRecursion (IsPlain size) raws
  pub is_listed : IsListed form detail selected (λ cpu. None) (map (part_of size) raws) (captures_of raws) contents
      after failed listed

-- These lines go first in the listing of what sources have, whatever comes behind the lines that they gave.
pub record GoFirst {R : Type 0} (remaining : R → Option (List ℕ)) (sources : List (Reading R))
    (front : List ModelLine) : Type 0 where
  pub lists : List (List ModelLine)
  pub between : List (Reading R)
  pub pass : AllPass (PassesLine remaining) sources lists between
  pub first : (others : List (List ModelLine)) → AllBegin (λ source. first_in source.left) between others
      → (behind : List ModelLine) × (merged_lists (each_joined lists others) ≡ front ++ behind)

-- what is written behind the lines of a listing that ends before its files do: the line for refused memory, if that is
-- why
abbrev pub said_behind : Ending → List ℕ
said_behind NoMemory = MEMORY_LINE
said_behind Done = []
said_behind Damaged = []
said_behind Hidden = []
said_behind (MalformedFile input fault) = []
said_behind (Malformed input) = []
said_behind Numbers = []
said_behind (NotRead input) = []
said_behind (Changed input) = []
said_behind (TooLong input) = []
said_behind NotWritten = []

-- the first of sources that can't go on, and why; this is the index of the first of them
abbrev pub halted_at : (index : ℕ) → Option Halt → Option (ℕ × Halt) → Option (ℕ × Halt)
halted_at index None others = others
halted_at index (Some halt) others = Some (index, halt)

abbrev pub first_halt : {R : Type 0} → (index : ℕ) → List (Reading R) → Option (ℕ × Halt)
first_halt index [] = None
first_halt index (source ∷ sources) = halted_at index source.halt (first_halt (suc index) sources)

-- how a listing ends for that reason
abbrev pub ending_for : (index : ℕ) → Halt → Ending
ending_for index halts.NoMemory = NoMemory
ending_for index halts.NotRead = NotRead index
ending_for index halts.NotRaw = Changed index
ending_for index halts.SmallerPages = Changed index
ending_for index halts.Falls = Changed index
ending_for index halts.Numbers = Changed index

abbrev pub halt_ending : Option (ℕ × Halt) → Ending
halt_ending None = Changed 0
halt_ending (Some (index, halt)) = ending_for index halt

-- The sources were left like this: one more of them may have turned out not to go on.
abbrev pub AreLeft : {R : Type 0} → (between ended : List (Reading R)) → Type 0
AreLeft {R} between ended =
    (ended ≡ between)
    ⊎ ((index : ℕ) × (source : Reading R) × IsHalted source × (ended ≡ slice_set between index source))

-- A listing ended before its files did: the lines of records that go first were written, as far as they are selected,
-- and the line for refused memory, if that is why.
pub record ListsPart {R : Type 0} (remaining : R → Option (List ℕ)) (form : Form) (detail : LineDetail)
    (selected : Selected) (sources : List (Reading R)) (contents after : Option (List ℕ)) (failed : Bool)
    (listed : Listed) : Type 0 where
  pub early : IsToTheEnd listed.ending → ⊥
  pub front : List ModelLine
  pub goes_first : GoFirst remaining sources front
  pub ended : List (Reading R)
  pub are_left : AreLeft goes_first.between ended
  pub wanted : Ending
  pub why : (wanted ≡ halt_ending (first_halt 0 ended)) ⊎ (wanted ≡ NoMemory)
  pub written : IsTextWritten NotWritten contents after failed
      (flat_map (listed_line form detail selected) front ++ said_behind wanted) wanted listed.ending

-- What sources have is listed: the files that they were opened for, as a whole, or up to where one can't go on.
abbrev pub ListsPages : {R : Type 0} → (remaining : R → Option (List ℕ)) → (has_failed : R → Bool) → Form → LineDetail
    → Selected → (size : ℕ) → List (Reading R) → (contents after : Option (List ℕ)) → (failed : Bool) → Listed → Type 0
ListsPages {R} remaining has_failed form detail selected size sources contents after failed listed =
    ((inputs : List (Input R)) → AreOpened remaining size inputs sources
    → ListsRaw remaining has_failed form detail selected size inputs contents after failed listed)
    ⊎ ListsPart remaining form detail selected sources contents after failed listed

-- ---- a listing, as it is asked for, with what is given beside the files

-- what a line says of its record
abbrev pub detail_given : Collecting → LineDetail
detail_given collecting =
    detail_by collecting.detail (formats_given collecting) (lines_for (text_in collecting.tasks) [])
    (lines_for (text_in collecting.symbols) [])

-- which records are listed
abbrev pub selected_given : Collecting → Selected
selected_given collecting =
    with_marks (marks_for collecting (formats_given collecting)) (selection_seen collecting.selection)

-- Raw files are listed to their ends, and it is said whether the pattern names none of the events.
pub record ListsRawSo {R : Type 0} (remaining : R → Option (List ℕ)) (has_failed : R → Bool) (collecting : Collecting)
    (inputs : List (Input R)) (contents after : Option (List ℕ)) (failed : Bool) (listed : Listed) : Type 0 where
  pub lists : ListsRaw remaining has_failed collecting.form (detail_given collecting) (selected_given collecting)
      collecting.page inputs contents after failed listed
  pub unnamed_is : listed.is_unnamed ≡ is_unnamed (marks_for collecting (formats_given collecting))

-- the listing, as it is asked for, ended before its files did
abbrev pub ListsPartSo : {R : Type 0} → (remaining : R → Option (List ℕ)) → Collecting → List (Reading R)
    → (contents after : Option (List ℕ)) → (failed : Bool) → Listed → Type 0
ListsPartSo remaining collecting sources contents after failed listed =
    ListsPart remaining collecting.form (detail_given collecting) (selected_given collecting) sources contents after
    failed listed

-- What sources have is listed, as it is asked for: the files that they were opened for, as a whole, or a part.
abbrev pub ListsPagesSo : {R : Type 0} → (remaining : R → Option (List ℕ)) → (has_failed : R → Bool) → Collecting
    → List (Reading R) → (contents after : Option (List ℕ)) → (failed : Bool) → Listed → Type 0
ListsPagesSo {R} remaining has_failed collecting sources contents after failed listed =
    ((inputs : List (Input R)) → AreOpened remaining collecting.page inputs sources
    → ListsRawSo remaining has_failed collecting inputs contents after failed listed)
    ⊎ ListsPartSo remaining collecting sources contents after failed listed

-- What a run of `collect` over such sources does: what it does with the files that they were opened for, or a part of
-- that.
abbrev pub CollectsPages : {R : Type 0} → (remaining : R → Option (List ℕ)) → (has_failed : R → Bool) → Collecting
    → List (Reading R) → (contents after : Option (List ℕ)) → (failed : Bool) → Collected → Type 0
CollectsPages {R} remaining has_failed collecting sources contents after failed collected =
    ((inputs : List (Input R)) → AreOpened remaining collecting.page inputs sources
    → (new : List (Input R)) × CollectsAll remaining has_failed collecting inputs new contents after failed collected)
    ⊎ ListsPartSo remaining collecting sources contents after failed collected.listed
