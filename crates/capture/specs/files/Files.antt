-- What a file has of the kernel's trace: raw pages of a CPU, or what trace-cmd puts into a file.
use Rattle.std.specs.Prelude.{◌≡◌, ℕ, ◌+◌, ◌||◌, ◌&&◌, ◌==◌, Bool, true, false, List, [], ◌∷◌, ◌++◌, length, Result, Ok}
use Rattle.std.specs.Prelude.{Err, nat_lt, bytes_eq, if◌then◌else◌, Option, Some, None, suc}
use Rattle.std.specs.List.{filter, flat_map}
use Rattle.std.specs.Option.{option_map, option_or}
use Rattle.event_fields.specs.Texts.{parts_of as parts_between}
use Rattle.trace_model.specs.declared.limits.TheConstants.{MAX_CPUS}
use Rattle.trace_dat.specs.Contents.{EventFormat, Recorded, TraceBuffer, Contents}
use Rattle.trace_dat.specs.declared.fault.Fault.{Fault}
use Rattle.trace_dat.specs.Fields.{Reading}
use Rattle.trace_dat.specs.Versions.{resembles, reading_of}
use Rattle.trace_dat.specs.kernel_texts.Counters.{texts_of}
use Rattle.capture.specs.declared.files.captured.CutFile.{CutFile}
use Rattle.capture.specs.declared.files.fault.FileFault.{FileFault}
use Rattle.capture.specs.declared.files.fault.FileFault.TheVariants.{Format, BadCpu, BadPage, Overlap}
use Rattle.capture.specs.declared.files.fault.FileFault.TheVariants.{SmallerPages, OtherHost}
use Rattle.capture.specs.Smaller.{smaller_pages}

-- a file: its bytes, and the CPU whose pages they are if they are raw
pub record File : Type 0 where
  pub cpu : ℕ
  pub bytes : List ℕ

-- a part: what a file has of a CPU, which is pages of this size, one after the other; the last one may be shorter
pub record ModelPart : Type 0 where
  pub cpu : ℕ
  pub size : ℕ
  pub bytes : List ℕ

-- In what follows `name` is the name of the trace buffer that is listed: of an instance, or empty for the main one.

-- A file is read as one of trace-cmd, and may have a fault as such: if an instance is listed, since raw pages aren't
-- known to be of one; and if it resembles these files.
abbrev pub is_dat : (name bytes : List ℕ) → Bool
is_dat name bytes = if length name == 0 then resembles bytes else true

-- what is read, or a fault
abbrev pub Checked : Type 0 → Type 0
Checked A = Result A FileFault

-- one reading after the other
infixl 10 ◌>>=◌
abbrev pub ◌>>=◌ : {A B : Type 0} → Checked A → (A → Checked B) → Checked B
(Ok x) >>= f = f x
(Err e) >>= f = Err e

-- what a file of trace-cmd holds, or the first fault of its format
abbrev pub formatted : Reading Contents → Checked Contents
formatted (Ok contents) = Ok contents
formatted (Err fault) = Err (Format fault)

-- ---- the parts of a file of trace-cmd

-- the main buffer has no name, and instances have one
abbrev pub is_main : TraceBuffer → Bool
is_main buffer = length buffer.name == 0

-- the buffer has this name
abbrev pub is_named : (name : List ℕ) → TraceBuffer → Bool
is_named name buffer = bytes_eq buffer.name name

-- it is an instance, and isn't listed
abbrev pub is_other : (name : List ℕ) → TraceBuffer → Bool
is_other name buffer = if is_main buffer || is_named name buffer then false else true

-- for each of some things a list, joined
unfoldable pub each_of : {X A : Type 0} → (X → Checked (List A)) → List X → Checked (List A)
each_of of [] = Ok []
each_of of (x ∷ xs) = of x >>= λ first. each_of of xs >>= λ others. Ok (first ++ others)

-- what there is of a CPU, in pages of this size
abbrev pub part_of : (size : ℕ) → Recorded → Checked (List ModelPart)
part_of size recorded =
    if nat_lt recorded.cpu MAX_CPUS
    then Ok (record { cpu = recorded.cpu; size = size; bytes = recorded.pages } ∷ []) else Err (BadCpu recorded.cpu)

-- the parts of a buffer that is listed, if pages can have its size
abbrev pub parts_of_listed : TraceBuffer → Checked (List ModelPart)
parts_of_listed buffer =
    if nat_lt buffer.page_size 4096 || nat_lt 65536 buffer.page_size then Err (BadPage buffer.page_size)
    else each_of (part_of buffer.page_size) buffer.cpus

-- the parts of a buffer, if it is listed
abbrev pub parts_of_buffer : (name : List ℕ) → TraceBuffer → Checked (List ModelPart)
parts_of_buffer name buffer = if is_named name buffer then parts_of_listed buffer else Ok []

-- how many bytes parts have
abbrev pub bytes_in : List ModelPart → ℕ
bytes_in [] = 0
bytes_in (part ∷ parts) = length part.bytes + bytes_in parts

-- the parts have together no more bytes than a file of this length
abbrev pub within : (len : ℕ) → List ModelPart → Checked (List ModelPart)
within len parts = if nat_lt len (bytes_in parts) then Err Overlap else Ok parts

-- the parts of what a file of this length holds
abbrev pub parts_in : (name : List ℕ) → (len : ℕ) → Contents → Checked (List ModelPart)
parts_in name len contents = each_of (parts_of_buffer name) contents.buffers >>= within len

-- ---- a file that was cut short

-- the first fault of the ranges of these CPUs, if the file ends before one of them does
abbrev pub cut_among : List Recorded → Option Fault
cut_among [] = None
cut_among (recorded ∷ cpus) = option_or recorded.fault (cut_among cpus)

-- the first such fault of the buffers that are listed
abbrev pub cut_in : (name : List ℕ) → List TraceBuffer → Option Fault
cut_in name [] = None
cut_in name (buffer ∷ buffers) =
    if is_named name buffer then option_or (cut_among buffer.cpus) (cut_in name buffers) else cut_in name buffers

-- The texts of the kernel's counters that are of the buffer that is listed. Those of a file that was cut short say
-- nothing: they also count what was lost behind the pages that it still has.
abbrev pub texts_unless : (cut : Option Fault) → (name : List ℕ) → List (List ℕ) → List (List ℕ)
texts_unless None name texts = texts_of name texts
texts_unless (Some fault) name texts = []

-- ---- a raw file

-- unless the pages are smaller than was said
abbrev pub unless_smaller : Option ℕ → List ModelPart → Checked (List ModelPart)
unless_smaller (Some size) parts = Err (SmallerPages size)
unless_smaller None parts = Ok parts

-- a raw file has one part, in pages of the size that is said
abbrev pub raw_parts : (page : ℕ) → File → Checked (List ModelPart)
raw_parts page file =
    unless_smaller (smaller_pages page file.bytes) (record { cpu = file.cpu; size = page; bytes = file.bytes } ∷ [])

-- ---- a file

-- the parts of a file, or its first fault
abbrev pub parts_of : (page : ℕ) → (name : List ℕ) → File → Checked (List ModelPart)
parts_of page name file =
    if is_dat name file.bytes then (formatted (reading_of file.bytes) >>= parts_in name (length file.bytes))
    else raw_parts page file

-- of what a file holds, if it reads
abbrev pub held : {A : Type 0} → (Contents → A) → A → Reading Contents → A
held of otherwise (Ok contents) = of contents
held of otherwise (Err fault) = otherwise

-- of what a file of trace-cmd holds; raw pages hold nothing else
abbrev pub held_by : {A : Type 0} → (Contents → A) → A → File → A
held_by of otherwise file = held of otherwise (reading_of file.bytes)

-- the formats of events that a file has
abbrev pub formats_of : File → List EventFormat
formats_of file = held_by (λ contents. contents.formats) [] file

-- the names of those of buffers that are instances and aren't listed
abbrev pub names_of_others : (name : List ℕ) → List TraceBuffer → List (List ℕ)
names_of_others name [] = []
names_of_others name (buffer ∷ buffers) =
    if is_other name buffer then buffer.name ∷ names_of_others name buffers else names_of_others name buffers

-- the names of the instances of a file that aren't listed
abbrev pub others_of : (name : List ℕ) → File → List (List ℕ)
others_of name file = held_by (λ contents. names_of_others name contents.buffers) [] file

-- one of buffers has this name
abbrev pub has_named : (name : List ℕ) → List TraceBuffer → Bool
has_named name [] = false
has_named name (buffer ∷ buffers) = is_named name buffer || has_named name buffers

-- a file of trace-cmd has the buffer that is listed
abbrev pub has_listed : (name : List ℕ) → File → Bool
has_listed name file = held_by (λ contents. has_named name contents.buffers) false file

-- the kernel's lists of processes, and of its symbols, that a file has
abbrev pub tasks_of : File → List (List ℕ)
tasks_of file = held_by (λ contents. contents.tasks) [] file

abbrev pub symbols_of : File → List (List ℕ)
symbols_of file = held_by (λ contents. contents.symbols) [] file

-- what a file says that the traced machine is, if it does
abbrev pub machine_of : File → Option (List ℕ)
machine_of file = held_by (λ contents. contents.machine) None file

-- why the file was cut short within the pages that are listed, if it was
abbrev pub cut_of : (name : List ℕ) → File → Option Fault
cut_of name file = held_by (λ contents. cut_in name contents.buffers) None file

-- the texts of the kernel's counters that a file has of the buffer that is listed
abbrev pub counters_of : (name : List ℕ) → File → List (List ℕ)
counters_of name file =
    held_by (λ contents. texts_unless (cut_in name contents.buffers) name contents.counters) [] file

-- ---- all files

-- These are the parts of all files, in their order: no file has a fault.
abbrev pub ArePartsOf : (page : ℕ) → (name : List ℕ) → List File → List ModelPart → Type 0
ArePartsOf page name [] parts = parts ≡ []
ArePartsOf page name (file ∷ files) parts =
    (own : List ModelPart) × (others : List ModelPart) × (parts ≡ own ++ others) × (parts_of page name file ≡ Ok own)
    × ArePartsOf page name files others

-- the lines of texts, one after the other
abbrev pub lines_of : (texts : List (List ℕ)) → List (List ℕ)
lines_of texts = flat_map (parts_between 10) texts

-- the lines of the lists of all files
abbrev pub all_lines : (File → List (List ℕ)) → List File → List (List ℕ)
all_lines lists [] = []
all_lines lists (file ∷ files) = lines_of (lists file) ++ all_lines lists files

-- lines, if they are wanted
abbrev pub if_wanted : Bool → List (List ℕ) → List (List ℕ)
if_wanted is_wanted lines = if is_wanted then lines else []

-- what the traced machine is, by the first file that says it, if this is what was said before
abbrev pub machine_from : Option (List ℕ) → List File → Option (List ℕ)
machine_from known [] = known
machine_from known (file ∷ files) = machine_from (option_or known (machine_of file)) files

abbrev pub machine_in : List File → Option (List ℕ)
machine_in files = machine_from None files

-- what is said of a machine is no other than what was said before
abbrev pub is_same_machine : (known said : Option (List ℕ)) → Bool
is_same_machine None said = true
is_same_machine (Some known) None = true
is_same_machine (Some known) (Some said) = bytes_eq known said

-- all files that say what the traced machine is say the same, which is this if it was said before
abbrev pub are_of_one : Option (List ℕ) → List File → Bool
are_of_one known [] = true
are_of_one known (file ∷ files) =
    is_same_machine known (machine_of file) && are_of_one (option_or known (machine_of file)) files

-- the parts of a file that was read after these, or its first fault: last of all it may be of another machine
abbrev pub on_machine : (known said : Option (List ℕ)) → List ModelPart → Checked (List ModelPart)
on_machine known said parts = if is_same_machine known said then Ok parts else Err OtherHost

abbrev pub parts_after : (page : ℕ) → (name : List ℕ) → List File → File → Checked (List ModelPart)
parts_after page name files file = parts_of page name file >>= on_machine (machine_in files) (machine_of file)

-- the formats of all files
abbrev pub all_formats : List File → List EventFormat
all_formats [] = []
all_formats (file ∷ files) = formats_of file ++ all_formats files

-- the names of the instances of all files that aren't listed, one for each instance
abbrev pub all_others : (name : List ℕ) → List File → List (List ℕ)
all_others name [] = []
all_others name (file ∷ files) = others_of name file ++ all_others name files

-- one of the files is one of trace-cmd and has the buffer that is listed
abbrev pub is_in_any : (name : List ℕ) → List File → Bool
is_in_any name [] = false
is_in_any name (file ∷ files) = has_listed name file || is_in_any name files

-- the file of this index was cut short, with this fault
abbrev pub cut_at : (index : ℕ) → Fault → CutFile
cut_at index fault = record { input = index; fault = fault }

-- the first of files that was cut short, if this is the index of the first one
abbrev pub first_cut : (name : List ℕ) → (index : ℕ) → List File → Option CutFile
first_cut name index [] = None
first_cut name index (file ∷ files) =
    option_or (option_map (cut_at index) (cut_of name file)) (first_cut name (suc index) files)

-- the parts of a CPU
abbrev pub parts_of_cpu : (cpu : ℕ) → List ModelPart → List ModelPart
parts_of_cpu cpu parts = filter (λ part. part.cpu == cpu) parts
