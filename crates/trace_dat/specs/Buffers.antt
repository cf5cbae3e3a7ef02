-- The pages of trace buffers, CPU by CPU, in either version's form.
use Rattle.std.specs.Prelude.{ℕ, List, [], ◌∷◌, ◌++◌, Ok, codes, ◌==◌, if◌then◌else◌}
use Rattle.std.specs.Int.{w32}
use Rattle.trace_dat.specs.declared.fault.Cause.TheVariants.{Misplaced}
use Rattle.trace_dat.specs.declared.entries.TheConstants.{BUFFER, COUNTERS}
use Rattle.trace_dat.specs.Parts.{FilePart}
use Rattle.trace_dat.specs.Fields.{Reading, ◌>>=◌, number_at, text_at, expected_at, pointed_at, range_at, all_at}
use Rattle.trace_dat.specs.Contents.{Recorded, TraceBuffer}
use Rattle.trace_dat.specs.Entries.{FileOption}

-- the pages of the CPU with this number, in version 6: a range
unfoldable pub pages_at : List ℕ → ℕ → FilePart → Reading (List Recorded × FilePart)
pages_at file cpu part = do
  range ← range_at file part
  Ok (record { cpu = cpu; pages = range.0.bytes; fault = range.0.fault } ∷ [], range.1)

-- the pages of a CPU, in version 7: its number and a range
unfoldable pub numbered_pages_at : List ℕ → FilePart → Reading (List Recorded × FilePart)
numbered_pages_at file part = do
  cpu ← number_at w32 part
  pages_at file cpu.0 cpu.1

-- the word before the ranges, in version 6
abbrev pub ranges_word : List ℕ
ranges_word = codes "flyrecord" ++ 0 ∷ []

-- a buffer of this count of CPUs, in version 6: the word and the pages of each CPU, numbered from 0
unfoldable pub buffer_at : List ℕ → ℕ → ℕ → List ℕ → FilePart → Reading (List TraceBuffer)
buffer_at file page_size count name part = do
  ranges ← expected_at ranges_word Misplaced part
  cpus ← all_at (pages_at file) 0 count ranges
  Ok (record { name = name; page_size = page_size; cpus = cpus.0 } ∷ [])

-- an instance, in version 6: a pointer to its buffer, and its name
unfoldable pub instance_at : List ℕ → ℕ → ℕ → FilePart → Reading (List TraceBuffer)
instance_at file page_size count part = do
  buffer ← pointed_at file part
  name ← text_at buffer.1
  buffer_at file page_size count name.0 buffer.0

-- the instance that an option of version 6 names, if it does so
unfoldable pub instance_of : List ℕ → ℕ → ℕ → FileOption → Reading (List TraceBuffer)
instance_of file page_size count option =
    if option.id == BUFFER then instance_at file page_size count option.body else Ok []

-- a buffer, in version 7: a pointer, which isn't followed, its name, its clock, the size of its pages, the number
-- of its CPUs, and the pages of each
unfoldable pub stated_buffer_at : List ℕ → FilePart → Reading (List TraceBuffer)
stated_buffer_at file part = do
  section ← pointed_at file part
  name ← text_at section.1
  clock ← text_at name.1
  page_size ← number_at w32 clock.1
  count ← number_at w32 page_size.1
  cpus ← all_at (λ _. numbered_pages_at file) 0 count.0 count.1
  Ok (record { name = name.0; page_size = page_size.0; cpus = cpus.0 } ∷ [])

-- the buffer that an option of version 7 states, if it does so
unfoldable pub buffer_of : List ℕ → FileOption → Reading (List TraceBuffer)
buffer_of file option = if option.id == BUFFER then stated_buffer_at file option.body else Ok []

-- the counters that an option holds, if it does so
abbrev pub counters_of : FileOption → List (List ℕ)
counters_of option = if option.id == COUNTERS then option.body.bytes ∷ [] else []
