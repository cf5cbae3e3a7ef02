-- A source of the lines of a CPU's pages.
use Rattle.std.specs.Prelude.{◌≡◌, ◌*◌, ◌<◌, ◌≤◌, ◌+◌, ℕ, Bool, true, false, List, [], ◌∷◌}
use Rattle.std.specs.Prelude.{◌++◌, length, map, take, drop}
use Rattle.std.specs.Prelude.{Option, Some, None, ⊤, slice_range}
use Rattle.std.specs.Io.KnownBytes.{Consumes}
use Rattle.trace_model.specs.Listing.{Line as ModelLine}
use Rattle.time_merge.specs.Heads.{first_in}
use Rattle.time_merge.specs.LineOrder.{line_of}
use Rattle.capture.specs.Pages.{Page, IsPageOf, behind, end_from}
use Rattle.trace_model.specs.declared.numbers.CpuId.{CpuId}
use Rattle.page_image.specs.declared.image.Missed.{Missed}
use Rattle.trace_dat.specs.Versions.{resembles}
use Rattle.capture.specs.files.Losses.{counted_losses, unknown_losses}
use Rattle.capture.specs.Smaller.{smaller_in}
use Rattle.page_lines.specs.declared.at_hand.Place.{Place}
use Rattle.page_lines.specs.declared.source.Halt.{Halt}
use Rattle.page_lines.specs.declared.tally.Tally.{Tally}
use Rattle.page_lines.specs.Stating.{StatesMore, told_by}
use Rattle.page_lines.specs.Tallies.{IsTally, HasNothing, KeepsRing, entries_from}

-- ---- the lines of the page at hand

-- the line of a record that stands here among these bytes
abbrev pub line_at : (cpu : ℕ) → (bytes : List ℕ) → Place → ModelLine
line_at cpu bytes place = record {
  moment = place.moment.0;
  cpu = cpu;
  number = place.number.0;
  bytes = slice_range bytes place.start place.end;
}

-- it stands among so many bytes
pub record IsWithin (count : ℕ) (place : Place) : Type 0 where
  pub forward : place.start ≤ place.end
  pub inside : place.end ≤ count

-- the lines of records of a CPU, the first of which has this number
abbrev pub lines_from : (cpu next : ℕ) → List Page → List ModelLine
lines_from cpu next pages = map (line_of cpu) (entries_from next pages)

-- ---- the source

-- What is seen of a source: what it reads from, the size of its pages, whether the last one is read, how many bytes are
-- read, what the pages say besides their records, the lines that are left of the page at hand, why it can't go on, and
-- how many lines are passed at most.
pub record Reading (R : Type 0) : Type 0 where
  pub reader : R
  pub size : ℕ
  pub is_last : Bool
  pub taken : ℕ
  pub tally : Tally
  pub left : List ModelLine
  pub halt : Option Halt
  pub turns : ℕ

-- These bytes are these pages, each of `size` bytes, but for the last one, which may be shorter. None resembles a file
-- of trace-cmd or shows smaller pages.
abbrev pub ArePlain : (size : ℕ) → List ℕ → List Page → Type 0
ArePlain size bytes [] = bytes ≡ []
ArePlain size bytes (page ∷ pages) =
    (0 < length bytes) × (resembles (take size bytes) ≡ false) × (smaller_in (take size bytes) ≡ None)
    × IsPageOf (take size bytes) page × ArePlain size (drop size bytes) pages

-- One page more was read, which has these bytes: it is plain, and these are its lines.
pub record AddsImage (bytes : List ℕ) (old new : Tally) (lines : List ModelLine) : Type 0 where
  pub ring : KeepsRing old new
  pub page : Page
  pub raw : resembles bytes ≡ false
  pub plain : smaller_in bytes ≡ None
  pub page_is : IsPageOf bytes page
  pub tally_is : (pages : List Page) → IsTally old pages → IsTally new (pages ++ told_by old.known page ∷ [])
  pub next_is : new.next.0 ≡ behind old.next.0 (told_by old.known page)
  pub stated_is : StatesMore old.stated (page ∷ []) new.stated
  pub lines_are : lines ≡ lines_from old.cpu.0 old.next.0 (told_by old.known page ∷ [])

-- So many bytes more were read, one page or none, and these are its lines.
pub record ReadsNext (size : ℕ) (unread left : Option (List ℕ)) (old : Tally) (count : ℕ) (new : Tally)
    (lines : List ModelLine) : Type 0 where
  pub ring : KeepsRing old new
  pub bytes : List ℕ
  pub consumed : Consumes unread left bytes
  pub long : length bytes ≡ count
  pub pages : List Page
  pub plain : ArePlain size bytes pages
  pub whole : count ≡ size → length pages ≡ 1
  pub tally_is : (before : List Page) → IsTally old before → IsTally new (before ++ map (told_by old.known) pages)
  pub next_is : new.next.0 ≡ end_from old.next.0 (map (told_by old.known) pages)
  pub stated_is : StatesMore old.stated pages new.stated
  pub lines_are : lines ≡ lines_from old.cpu.0 old.next.0 (map (told_by old.known) pages)

-- nothing is read yet of the pages of this CPU and size that a reader has; a loss of unknown number is taken as this
pub record IsFresh {R : Type 0} (cpu : CpuId) (reader : R) (size : ℕ) (known : Missed) (reading : Reading R) : Type 0
  where
    pub reader_is : reading.reader ≡ reader
    pub size_is : reading.size ≡ size
    pub begins : reading.is_last ≡ false
    pub no_bytes : reading.taken ≡ 0
    pub nothing : HasNothing cpu known reading.tally
    pub none_left : reading.left ≡ []

module _ {R : Type 0} (remaining : R → Option (List ℕ)) where
  -- Some pages more were read, and these lines were passed.
  pub record Passes (old : Reading R) (lines : List ModelLine) (new : Reading R) : Type 0 where
    pub size_is : new.size ≡ old.size
    pub ring : KeepsRing old.tally new.tally
    pub bytes : List ℕ
    pub consumed : Consumes (remaining old.reader) (remaining new.reader) bytes
    pub pages : List Page
    pub plain : ArePlain old.size bytes pages
    pub whole : new.is_last ≡ false → length bytes ≡ old.size * length pages
    pub no_more : old.is_last ≡ true → (bytes ≡ []) × (new.is_last ≡ true)
    pub tally_is : (before : List Page) → IsTally old.tally before
        → IsTally new.tally (before ++ map (told_by old.tally.known) pages)
    pub next_is : new.tally.next.0 ≡ end_from old.tally.next.0 (map (told_by old.tally.known) pages)
    pub stated_is : StatesMore old.tally.stated pages new.tally.stated
    pub count_is : new.taken ≡ old.taken + length bytes
    pub lines_are : old.left ++ lines_from old.tally.cpu.0 old.tally.next.0 (map (told_by old.tally.known) pages)
        ≡ lines ++ new.left

-- no line is at hand that is earlier than this moment
abbrev pub IsNotAfter : (moment : ℕ) → Option ModelLine → Type 0
IsNotAfter moment None = ⊤
IsNotAfter moment (Some line) = moment ≤ line.moment

-- the line at hand was passed, and the next one isn't earlier
pub record PassesLine {R : Type 0} (remaining : R → Option (List ℕ)) (old : Reading R) (line : ModelLine)
    (new : Reading R) : Type 0 where
  pub head_is : first_in old.left ≡ Some line
  pub passes : Passes remaining old (line ∷ []) new
  pub not_earlier : IsNotAfter line.moment (first_in new.left)

-- it couldn't go on
abbrev pub IsHalted : {R : Type 0} → Reading R → Type 0
IsHalted reading = reading.halt ≡ None → ⊥

-- the moments of lines don't fall, the first of them isn't before this one
abbrev pub NeverFall : (low : ℕ) → List ModelLine → Type 0
NeverFall low [] = ⊤
NeverFall low (line ∷ lines) = (low ≤ line.moment) × NeverFall line.moment lines

-- All pages of this CPU and size that a reader has were read, and these are their lines, if this is known of a loss of
-- unknown number.
pub record ReadsAll {R : Type 0} (remaining : R → Option (List ℕ)) (cpu : CpuId) (reader : R) (size : ℕ)
    (known : Missed) (lines : List ModelLine) (ended : Reading R) : Type 0 where
  pub bytes : List ℕ
  pub consumed : Consumes (remaining reader) (remaining ended.reader) bytes
  pub pages : List Page
  pub plain : ArePlain size bytes pages
  pub tally_is : IsTally ended.tally (map (told_by known) pages)
  pub cpu_is : ended.tally.cpu ≡ cpu
  pub known_is : ended.tally.known ≡ known
  pub unknown_is : ended.tally.stated.unknown ≡ unknown_losses pages
  pub counted_is : ended.tally.stated.counted ≡ counted_losses pages
  pub count_is : ended.taken ≡ length bytes
  pub lines_are : lines ≡ lines_from cpu.0 0 (map (told_by known) pages)
  pub never_fall : NeverFall 0 lines
