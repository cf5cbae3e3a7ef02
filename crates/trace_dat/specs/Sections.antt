-- The sections of version 7, and the chain of those that hold the options.
use Rattle.std.specs.Prelude.{ℕ, zero, suc, ◌+◌, ◌%◌, List, [], ◌++◌, length, Option, Some, None, Ok, nat_lt, ◌==◌}
use Rattle.std.specs.Prelude.{if◌then◌else◌}
use Rattle.std.specs.Int.{w16, w32, w64, to_le_bytes}
use Rattle.trace_dat.specs.declared.fault.Cause.TheVariants.{Misplaced, Compressed, Backward}
use Rattle.trace_dat.specs.declared.entries.TheConstants.{OPTIONS, RING_FORMATS, FORMATS}
use Rattle.trace_dat.specs.declared.sections.Next.{Next}
use Rattle.trace_dat.specs.Parts.{FilePart, seen}
use Rattle.trace_dat.specs.Fields.{Reading, ◌>>=◌, fault_at, number_at, block_at, expected_at, pointed_at}
use Rattle.trace_dat.specs.Contents.{EventFormat}
use Rattle.trace_dat.specs.Formats.{ring_system, formats_at, systems_at}
use Rattle.trace_dat.specs.Entries.{FileOption, options_at}

-- what follows a section's flags: the number of a string that describes it, and its body
unfoldable pub section_body_at : FilePart → Reading FilePart
section_body_at part = do
  description ← number_at w32 part
  body ← block_at w64 description.1
  Ok body.0

-- the body of the section with this identifier: the identifier and the flags are before it; odd flags say that the
-- body is compressed
unfoldable pub section_at : ℕ → FilePart → Reading FilePart
section_at id part = do
  named ← expected_at (to_le_bytes w16 id) Misplaced part
  flags ← number_at w16 named
  if flags.0 % 2 == 1 then fault_at Compressed named else section_body_at flags.1

-- where the pointer to the next section of options is, and the least offset that it may have
pub record Place : Type 0 where
  pub least : ℕ
  pub pointer : FilePart

-- a place without its address in memory
abbrev pub place_seen : Next → Place
place_seen next = record { least = next.least; pointer = seen next.pointer }

-- a section of options; after the identifier that ends them, a block has the next pointer
unfoldable pub linked_at : FilePart → Reading (List FileOption × Option Place)
linked_at part = do
  body ← section_at OPTIONS part
  options ← options_at body
  next ← block_at w32 options.1
  Ok (options.0, Some (record { least = part.at + 1; pointer = next.0 }))

-- the section of options to which a pointer points, if its offset is large enough
unfoldable pub link_from : List ℕ → Place → Reading (List FileOption × Option Place)
link_from file place = do
  section ← pointed_at file place.pointer
  if nat_lt section.0.at place.least then fault_at Backward place.pointer else linked_at section.0

-- the section of options to which a pointer points; a pointer of 0 points to none
unfoldable pub link_at : List ℕ → Place → Reading (List FileOption × Option Place)
link_at file place = do
  offset ← number_at w64 place.pointer
  if offset.0 == 0 then Ok ([], None) else link_from file place

-- the options of the sections from a place on, if there is one
abbrev pub chain_from : Option Place → (Place → Reading (List FileOption)) → Reading (List FileOption)
chain_from None others = Ok []
chain_from (Some place) others = others place

-- the options of a chain of fewer sections than this count
unfoldable pub options_of_chain : List ℕ → ℕ → Place → Reading (List FileOption)
options_of_chain file zero place = fault_at Backward place.pointer
options_of_chain file (suc count) place = do
  first ← link_at file place
  others ← chain_from first.1 (λ next. options_of_chain file count next)
  Ok (first.0 ++ others)

-- The options of the chain of sections that begins at a pointer. Each section begins later in the file than the one
-- before it, so there are no more of them than offsets.
abbrev pub chained_options_at : List ℕ → FilePart → Reading (List FileOption)
chained_options_at file pointer = options_of_chain file (length file + 2) (record { least = 0; pointer = pointer })

-- the formats of the ring's own events: a pointer to their section
unfoldable pub ring_formats_at : List ℕ → FilePart → Reading (List EventFormat)
ring_formats_at file part = do
  section ← pointed_at file part
  body ← section_at RING_FORMATS section.0
  formats ← formats_at ring_system body
  Ok formats.0

-- the formats of the systems' events: a pointer to their section
unfoldable pub event_formats_at : List ℕ → FilePart → Reading (List EventFormat)
event_formats_at file part = do
  section ← pointed_at file part
  body ← section_at FORMATS section.0
  formats ← systems_at body
  Ok formats.0

-- the formats to which an option points, if it does so
unfoldable pub formats_of : List ℕ → FileOption → Reading (List EventFormat)
formats_of file option =
    if option.id == RING_FORMATS then ring_formats_at file option.body
    else (if option.id == FORMATS then event_formats_at file option.body else Ok [])
