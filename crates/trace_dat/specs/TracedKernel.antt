-- What a file has of the traced kernel: its symbols, the names of processes, and what its machine is.
use Rattle.std.specs.Prelude.{ℕ, List, [], ◌∷◌, take, Option, Some, None, Ok, ◌==◌, if◌then◌else◌}
use Rattle.std.specs.List.{position}
use Rattle.std.specs.Int.{Width, w32, w64}
use Rattle.trace_dat.specs.declared.entries.TheConstants.{MACHINE, SYMBOLS, TASKS}
use Rattle.trace_dat.specs.declared.traced_kernel.NameList.{NameList}
use Rattle.trace_dat.specs.declared.traced_kernel.NameList.TheVariants.{Symbols, Tasks}
use Rattle.trace_dat.specs.Parts.{FilePart}
use Rattle.trace_dat.specs.Fields.{Reading, ◌>>=◌, block_at, pointed_at}
use Rattle.trace_dat.specs.Entries.{FileOption}
use Rattle.trace_dat.specs.Sections.{section_at}

-- ---- version 6

-- the kernel's symbols, its texts for printing, which aren't kept, and the names of processes
unfoldable pub lists_at : FilePart → Reading ((List ℕ × List ℕ) × FilePart)
lists_at part = do
  symbols ← block_at w32 part
  texts ← block_at w32 symbols.1
  tasks ← block_at w64 texts.1
  Ok ((symbols.0.bytes, tasks.0.bytes), tasks.1)

-- ---- version 7

-- the identifier of the section that has a text, and of the option that points to this
abbrev pub section_of : NameList → ℕ
section_of Symbols = SYMBOLS
section_of Tasks = TASKS

-- the width of the length before the text, which is the same as in version 6
abbrev pub width_of : NameList → Width
width_of Symbols = w32
width_of Tasks = w64

-- the text of a section: a pointer to it
unfoldable pub list_at : NameList → List ℕ → FilePart → Reading (List (List ℕ))
list_at list file part = do
  section ← pointed_at file part
  body ← section_at (section_of list) section.0
  text ← block_at (width_of list) body
  Ok (text.0.bytes ∷ [])

-- the text to which an option points, if it does so
unfoldable pub list_of : NameList → List ℕ → FileOption → Reading (List (List ℕ))
list_of list file option = if option.id == section_of list then list_at list file option.body else Ok []

-- ---- both

-- the bytes up to a place, or all of them
abbrev pub front_to : Option ℕ → List ℕ → List ℕ
front_to None bytes = bytes
front_to (Some len) bytes = take len bytes

-- the bytes up to the first zero byte, or all of them if none is zero
abbrev pub before_zero : List ℕ → List ℕ
before_zero bytes = front_to (position (λ b. b == 0) bytes) bytes

-- what an option says of the traced machine, if it does so
abbrev pub machine_of : FileOption → Option (List ℕ)
machine_of option = if option.id == MACHINE then Some (before_zero option.body.bytes) else None

-- the later of two, if it is there
abbrev pub later_of : {A : Type 0} → (earlier later : Option A) → Option A
later_of earlier None = earlier
later_of earlier (Some x) = Some x

-- What the traced machine is, by the last option that says it.
abbrev pub machine_among : List FileOption → Option (List ℕ)
machine_among [] = None
machine_among (option ∷ options) = later_of (machine_of option) (machine_among options)
