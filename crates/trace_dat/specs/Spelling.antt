-- How a file is spelled: the bytes of each part. In version 6 they are one after the other, in version 7 most of them
-- in sections, to which pointers lead.
use Rattle.std.specs.Prelude.{◌≡◌, ◌≢◌, ⊤, ℕ, ◌+◌, ◌-◌, ◌*◌, ◌^◌, ◌%◌, ◌<◌, ◌≤◌, Option, Some, None, Ok, unwrap_or}
use Rattle.std.specs.Prelude.{List, [], ◌∷◌, ◌++◌, length, drop, map, flat_map, codes, slice_index, EachIndex}
use Rattle.std.specs.List.{AllByRecursion}
use Rattle.std.specs.Int.{Width, w16, w32, w64, byte_len, to_le_bytes}
use Rattle.trace_dat.specs.declared.entries.TheConstants.{DONE, OPTIONS}
use Rattle.trace_dat.specs.Fields.{extent_of, each_of}
use Rattle.trace_dat.specs.Contents.{EventFormat, Recorded, TraceBuffer, Contents}
use Rattle.trace_dat.specs.Formats.{ring_system}
use Rattle.trace_dat.specs.Entries.{FileOption}
use Rattle.trace_dat.specs.Buffers.{ranges_word, instance_of, buffer_of, counters_of}
use Rattle.trace_dat.specs.Sections.{formats_of}
use Rattle.trace_dat.specs.declared.traced_kernel.NameList.TheVariants.{Symbols, Tasks}
use Rattle.trace_dat.specs.TracedKernel.{list_of, machine_among}
use Rattle.trace_dat.specs.Versions.{ended, page_title, record_title, options_word, plain_word, magic, machine}

-- each of these numbers is a byte
abbrev pub IsBytes : List ℕ → Type 0
IsBytes bytes = (i : ℕ) → slice_index bytes i < 256

-- A number fits a width if as many bytes can hold it. A number that doesn't would be read as another one.
abbrev pub Fits : Width → ℕ → Type 0
Fits w n = n < 2 ^ (8 * byte_len w)

-- A text in a file has no zero byte, since the first zero byte ends it.
abbrev pub IsText : List ℕ → Type 0
IsText text = EachIndex text (λ i. slice_index text i ≢ 0)

-- a number of some width, and as many bytes
abbrev pub block : Width → List ℕ → List ℕ
block w body = to_le_bytes w (length body) ++ body

-- the number before a block's bytes, their count, fits its width
abbrev pub FitsBlock : Width → List ℕ → Type 0
FitsBlock w body = Fits w (length body)

-- the texts of formats: their number, and a block for each
abbrev pub formats_bytes : List (List ℕ) → List ℕ
formats_bytes texts = to_le_bytes w32 (length texts) ++ flat_map (block w64) texts

-- their number and the length of each fit their widths
abbrev pub FormatsFit : List (List ℕ) → Type 0
FormatsFit texts = Fits w32 (length texts) × AllByRecursion (FitsBlock w64) texts

-- a system of events, and the texts of their formats
pub record System : Type 0 where
  pub name : List ℕ
  pub texts : List (List ℕ)

abbrev pub system_bytes : System → List ℕ
system_bytes system = ended system.name ++ formats_bytes system.texts

-- no zero byte ends its name early, and the numbers of its formats fit
abbrev pub SystemFits : System → Type 0
SystemFits system = IsText system.name × FormatsFit system.texts

-- systems: their number and each of them
abbrev pub systems_bytes : List System → List ℕ
systems_bytes systems = to_le_bytes w32 (length systems) ++ flat_map system_bytes systems

-- their number and those of each of them fit their widths
abbrev pub SystemsFit : List System → Type 0
SystemsFit systems = Fits w32 (length systems) × AllByRecursion SystemFits systems

-- what is between the size of the pages and the number of the CPUs
pub record SixTexts : Type 0 where
  pub page_layout : List ℕ
  pub record_layout : List ℕ
  pub ring : List (List ℕ)
  pub systems : List System
  pub symbols : List ℕ
  pub prints : List ℕ
  pub tasks : List ℕ

-- its bytes
abbrev pub six_bytes : SixTexts → List ℕ
six_bytes texts =
    (page_title ++ block w64 texts.page_layout)
    ++ ((record_title ++ block w64 texts.record_layout)
    ++ (formats_bytes texts.ring ++ (systems_bytes texts.systems
    ++ (block w32 texts.symbols ++ (block w32 texts.prints ++ block w64 texts.tasks)))))

-- each number in these bytes fits its width, and no text ends early
pub record SixTextsFit (texts : SixTexts) : Type 0 where
  pub page_layout : FitsBlock w64 texts.page_layout
  pub record_layout : FitsBlock w64 texts.record_layout
  pub ring : FormatsFit texts.ring
  pub systems : SystemsFit texts.systems
  pub symbols : FitsBlock w32 texts.symbols
  pub prints : FitsBlock w32 texts.prints
  pub tasks : FitsBlock w64 texts.tasks

-- the formats that these texts are
abbrev pub named_formats : List ℕ → List (List ℕ) → List EventFormat
named_formats system texts = map (λ text. record { system = system; text = text }) texts

-- the formats of the systems
abbrev pub systems_formats : List System → List EventFormat
systems_formats systems = flat_map (λ system. named_formats system.name system.texts) systems

-- all of them, those of the ring's own events first
abbrev pub six_formats : SixTexts → List EventFormat
six_formats texts = named_formats ring_system texts.ring ++ systems_formats texts.systems

-- ---- options

-- an option: its identifier and its body
abbrev pub option_bytes : FileOption → List ℕ
option_bytes option = to_le_bytes w16 option.id ++ block w32 option.body.bytes

-- The identifier and the length of the body fit their widths, and the identifier isn't the one that ends the options.
abbrev pub OptionFits : FileOption → Type 0
OptionFits option = Fits w16 option.id × (option.id ≢ DONE) × FitsBlock w32 option.body.bytes

-- options, and the identifier that ends them
abbrev pub options_bytes : List FileOption → List ℕ
options_bytes options = flat_map option_bytes options ++ to_le_bytes w16 DONE

-- the word and the options, if there are any
abbrev pub stated_bytes : Option (List FileOption) → List ℕ
stated_bytes None = []
stated_bytes (Some options) = options_word ++ options_bytes options

-- ---- pages

-- an offset in the file, and how many bytes there are meant
pub record Range : Type 0 where
  pub offset : ℕ
  pub size : ℕ

abbrev pub range_bytes : Range → List ℕ
range_bytes range = to_le_bytes w64 range.offset ++ to_le_bytes w64 range.size

-- its two numbers fit their width
abbrev pub RangeFits : Range → Type 0
RangeFits range = Fits w64 range.offset × Fits w64 range.size

-- the pages of a CPU: what the file has of a range, which is stated at this offset
abbrev pub recorded_of : List ℕ → (at cpu : ℕ) → Range → Recorded
recorded_of file at cpu range =
    let extent = extent_of file at range.offset range.size in
    record { cpu = cpu; pages = extent.bytes; fault = extent.fault }

-- The pages of CPUs, numbered from this one on. Their ranges are stated from this offset on, each in 16 bytes.
abbrev pub numbered_pages : List ℕ → (at cpu : ℕ) → List Range → List Recorded
numbered_pages file at cpu [] = []
numbered_pages file at cpu (range ∷ ranges) =
    recorded_of file at cpu range ∷ numbered_pages file (at + 16) (cpu + 1) ranges

-- ---- the whole

-- what a file of version 6 is made of
pub record SixParts : Type 0 where
  pub page_size : ℕ
  pub texts : SixTexts
  pub options : Option (List FileOption)
  pub ranges : List Range

-- its bytes, before those that the ranges mean
abbrev pub six_file_bytes : SixParts → List ℕ
six_file_bytes parts =
    magic ++ (ended (codes "6") ++ (machine ++ (to_le_bytes w32 parts.page_size
    ++ (six_bytes parts.texts ++ (to_le_bytes w32 (length parts.ranges)
    ++ (stated_bytes parts.options ++ (ranges_word ++ flat_map range_bytes parts.ranges)))))))

-- the offset of the first range: they are the last of its bytes
abbrev pub ranges_from : SixParts → ℕ
ranges_from parts = length (six_file_bytes parts) - 16 * length parts.ranges

-- Each number in these bytes fits its width, no text ends early, and no option ends the options early.
pub record SixPartsFit (parts : SixParts) : Type 0 where
  pub page_size : Fits w32 parts.page_size
  pub texts : SixTextsFit parts.texts
  pub cpus : Fits w32 (length parts.ranges)
  pub options : AllByRecursion OptionFits (unwrap_or parts.options [])
  pub ranges : AllByRecursion RangeFits parts.ranges

-- The file is made of these parts, and holds this: the formats, the pages of the CPUs as the main buffer, the counters,
-- the kernel's symbols, the names of processes, and what the machine is. The other buffers are those that its options
-- name.
pub record IsSix (file : List ℕ) (contents : Contents) : Type 0 where
  pub parts : SixParts
  pub rest : List ℕ
  pub fits : SixPartsFit parts
  pub whole : file ≡ six_file_bytes parts ++ rest
  pub formats : contents.formats ≡ six_formats parts.texts
  pub instances : List TraceBuffer
  pub named : each_of (instance_of file parts.page_size (length parts.ranges)) (unwrap_or parts.options [])
      ≡ Ok instances
  pub buffers : contents.buffers
      ≡ record {
        name = [];
        page_size = parts.page_size;
        cpus = numbered_pages file (ranges_from parts) 0 parts.ranges;
      } ∷ instances
  pub counters : contents.counters ≡ flat_map counters_of (unwrap_or parts.options [])
  pub symbols : contents.symbols ≡ parts.texts.symbols ∷ []
  pub tasks : contents.tasks ≡ parts.texts.tasks ∷ []
  pub machine : contents.machine ≡ machine_among (unwrap_or parts.options [])

-- ---- version 7

-- At this offset in the file is a section with this identifier and this body. After the identifier are its flags, which
-- aren't odd, the number of its description, and the body. Each number fits its width.
pub record HasSection (file : List ℕ) (offset id : ℕ) (body : List ℕ) : Type 0 where
  pub flags : ℕ
  pub description : ℕ
  pub rest : List ℕ
  pub inside : offset ≤ length file
  pub plain : flags % 2 ≢ 1
  pub flags_fit : Fits w16 flags
  pub description_fits : Fits w32 description
  pub body_fits : FitsBlock w64 body
  pub whole : drop offset file
      ≡ (to_le_bytes w16 id ++ (to_le_bytes w16 flags ++ (to_le_bytes w32 description ++ block w64 body))) ++ rest

-- Options that are one after the other from this offset on: before the body of each are 6 bytes, its identifier and the
-- body's length.
abbrev pub AreFrom : ℕ → List FileOption → Type 0
AreFrom at [] = ⊤
AreFrom at (option ∷ options) =
    (option.body.at ≡ at + 6) × AreFrom (at + 6 + length option.body.bytes) options

-- At this offset is a section of these options, and these are the bytes in which the next section is pointed to. The
-- options begin after the 16 bytes before the section's body. None of them has the identifier that ends them, and each
-- number fits its width.
pub record HasOptions (file : List ℕ) (offset : ℕ) (options : List FileOption) (next : List ℕ) : Type 0 where
  pub body : List ℕ
  pub rest : List ℕ
  pub section : HasSection file offset OPTIONS body
  pub placed : AreFrom (offset + 16) options
  pub options_fit : AllByRecursion OptionFits options
  pub next_fits : FitsBlock w32 next
  pub whole : body ≡ (options_bytes options ++ block w32 next) ++ rest

-- a section of options: its offset, the options, and the bytes in which the next section is pointed to
pub record Linked : Type 0 where
  pub offset : ℕ
  pub options : List FileOption
  pub next : List ℕ

-- These bytes point to the first of the sections, which is no earlier than this offset, and each section to the one
-- after it, which begins later; the last one points nowhere, by an offset of 0. Each offset fits its width.
abbrev pub IsChain : List ℕ → ℕ → List ℕ → List Linked → Type 0
IsChain file least bytes [] = (rest : List ℕ) × (bytes ≡ to_le_bytes w64 0 ++ rest)
IsChain file least bytes (link ∷ links) =
    (rest : List ℕ) × (bytes ≡ to_le_bytes w64 link.offset ++ rest) × (link.offset ≢ 0) × (least ≤ link.offset)
    × HasOptions file link.offset link.options link.next × IsChain file (link.offset + 1) link.next links
    × Fits w64 link.offset

-- The file begins as version 7 does, without compression, and its options are those of a chain of sections. By them it
-- holds this: the formats, the buffers, the counters, the kernel's symbols, the names of processes, and what the
-- machine is. The size of the pages fits its width, and the text before the pointer, the release of the compression's
-- library, has no zero byte.
pub record IsSeven (file : List ℕ) (contents : Contents) : Type 0 where
  pub page_size : ℕ
  pub release : List ℕ
  pub pointer : List ℕ
  pub links : List Linked
  pub page_size_fits : Fits w32 page_size
  pub release_ends : IsText release
  pub whole : file
      ≡ magic
      ++ (ended (codes "7")
      ++ (machine ++ (to_le_bytes w32 page_size ++ (plain_word ++ (ended release ++ pointer)))))
  pub chain : IsChain file 0 pointer links
  pub formats : each_of (formats_of file) (flat_map (λ link. link.options) links) ≡ Ok contents.formats
  pub buffers : each_of (buffer_of file) (flat_map (λ link. link.options) links) ≡ Ok contents.buffers
  pub counters : contents.counters ≡ flat_map counters_of (flat_map (λ link. link.options) links)
  pub symbols : each_of (list_of Symbols file) (flat_map (λ link. link.options) links) ≡ Ok contents.symbols
  pub tasks : each_of (list_of Tasks file) (flat_map (λ link. link.options) links) ≡ Ok contents.tasks
  pub machine : contents.machine ≡ machine_among (flat_map (λ link. link.options) links)
