-- A whole file, in either version.
use Rattle.std.specs.Prelude.{ℕ, suc, Bool, List, [], ◌∷◌, ◌++◌, length, flat_map, Ok, codes, ◌==◌, nat_eq, nat_lt}
use Rattle.std.specs.Prelude.{if◌then◌else◌}
use Rattle.std.specs.List.{starts_with}
use Rattle.std.specs.Int.{w32, w64}
use Rattle.trace_dat.specs.declared.fault.Cause.TheVariants.{NotTraceDat, BadVersion, OtherMachine, Compressed}
use Rattle.trace_dat.specs.declared.fault.Cause.TheVariants.{Misplaced}
use Rattle.trace_dat.specs.declared.read.Version.{Version}
use Rattle.trace_dat.specs.declared.read.Version.TheVariants.{Six, Seven}
use Rattle.trace_dat.specs.Parts.{FilePart}
use Rattle.trace_dat.specs.Fields.{Reading, ◌>>=◌, fault_at, behind, number_at, block_at, text_at, expected_at, each_of}
use Rattle.trace_dat.specs.Contents.{EventFormat, Contents}
use Rattle.trace_dat.specs.Formats.{ring_system, formats_at, systems_at}
use Rattle.trace_dat.specs.Entries.{FileOption, options_at}
use Rattle.trace_dat.specs.Buffers.{buffer_at, instance_of, buffer_of, counters_of}
use Rattle.trace_dat.specs.Sections.{chained_options_at, formats_of}
use Rattle.trace_dat.specs.declared.traced_kernel.NameList.TheVariants.{Symbols, Tasks}
use Rattle.trace_dat.specs.TracedKernel.{lists_at, list_of, machine_among}

-- a word and the zero byte that ends it
abbrev pub ended : List ℕ → List ℕ
ended word = word ++ 0 ∷ []

-- ---- version 6

-- a title, and a block that isn't read
unfoldable pub titled_at : List ℕ → FilePart → Reading FilePart
titled_at title part = do
  text ← expected_at title Misplaced part
  block ← block_at w64 text
  Ok block.1

-- the titles of the layouts of a page and of a record
abbrev pub page_title : List ℕ
page_title = ended (codes "header_page")

abbrev pub record_title : List ℕ
record_title = ended (codes "header_event")

-- the layouts of a page and of a record, which aren't read, and the formats of the events
unfoldable pub all_formats_at : FilePart → Reading (List EventFormat × FilePart)
all_formats_at part = do
  page ← titled_at page_title part
  word ← titled_at record_title page
  ring ← formats_at ring_system word
  systems ← systems_at ring.1
  Ok (ring.0 ++ systems.0, systems.1)

-- the word before the options
abbrev pub options_word : List ℕ
options_word = ended (codes "options  ")

-- the options, if their word is here
unfoldable pub stated_options_at : FilePart → Reading (List FileOption × FilePart)
stated_options_at part =
    if starts_with nat_eq part.bytes options_word then options_at (behind (length options_word) part) else Ok ([], part)

-- what a file of version 6 holds, from after the size of its pages on
unfoldable pub version_six : List ℕ → ℕ → FilePart → Reading Contents
version_six file page_size part = do
  formats ← all_formats_at part
  name_lists ← lists_at formats.1
  count ← number_at w32 name_lists.1
  options ← stated_options_at count.1
  main ← buffer_at file page_size count.0 [] options.1
  instances ← each_of (instance_of file page_size count.0) options.0
  Ok (record {
    formats = formats.0;
    buffers = main ++ instances;
    counters = flat_map counters_of options.0;
    symbols = name_lists.0.0 ∷ [];
    tasks = name_lists.0.1 ∷ [];
    machine = machine_among options.0;
  })

-- ---- version 7

-- how a file says that it isn't compressed
abbrev pub plain_word : List ℕ
plain_word = ended (codes "none")

-- what a file of version 7 holds, from after the size of its pages on: how it is compressed, in two texts, and the
-- options, which say where all else is
unfoldable pub version_seven : List ℕ → FilePart → Reading Contents
version_seven file part = do
  plain ← expected_at plain_word Compressed part
  release ← text_at plain
  options ← chained_options_at file release.1
  formats ← each_of (formats_of file) options
  buffers ← each_of (buffer_of file) options
  symbols ← each_of (list_of Symbols file) options
  tasks ← each_of (list_of Tasks file) options
  Ok (record {
    formats = formats;
    buffers = buffers;
    counters = flat_map counters_of options;
    symbols = symbols;
    tasks = tasks;
    machine = machine_among options;
  })

-- ---- both

-- how a file begins
abbrev pub magic : List ℕ
magic = 23 ∷ 8 ∷ 68 ∷ codes "tracing"

-- at how many places of a word the first bytes of a file differ from it, those included that the file lacks
abbrev pub places_differing : (file word : List ℕ) → ℕ
places_differing file [] = 0
places_differing [] (c ∷ word) = suc (places_differing [] word)
places_differing (b ∷ file) (c ∷ word) =
    if b == c then places_differing file word else suc (places_differing file word)

-- A file resembles those of trace-cmd: at most one of its first ten bytes isn't theirs. In raw pages these bytes are
-- the time of the first page and the low 16 bits of its size. Two of them differ, the highest of the time (which would
-- be 240 years in nanoseconds) and the second of the size (26,368 bytes or more): so no page of up to 16 KiB resembles.
abbrev pub resembles : List ℕ → Bool
resembles file = nat_lt (places_differing file magic) 2

-- the version
unfoldable pub version_at : FilePart → Reading (Version × FilePart)
version_at part =
    if starts_with nat_eq part.bytes (ended (codes "6")) then Ok (Six, behind 2 part)
    else (if starts_with nat_eq part.bytes (ended (codes "7")) then Ok (Seven, behind 2 part)
    else fault_at BadVersion part)

-- a little-endian machine, and words of eight bytes
abbrev pub machine : List ℕ
machine = 0 ∷ 8 ∷ []

-- what a file of this version holds
abbrev pub contents_of : Version → List ℕ → ℕ → FilePart → Reading Contents
contents_of Six file page_size part = version_six file page_size part
contents_of Seven file page_size part = version_seven file part

-- What a file holds, or its first fault.
unfoldable pub reading_of : List ℕ → Reading Contents
reading_of file = do
  version ← expected_at magic NotTraceDat (record { at = 0; bytes = file })
  number ← version_at version
  words ← expected_at machine OtherMachine number.1
  page_size ← number_at w32 words
  contents_of number.0 file page_size.0 page_size.1
