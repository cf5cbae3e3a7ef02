-- The formats of events, as both versions of the file have them.
use Rattle.std.specs.Prelude.{ℕ, List, [], ◌∷◌, Ok, codes}
use Rattle.std.specs.Int.{w32, w64}
use Rattle.trace_dat.specs.Parts.{FilePart}
use Rattle.trace_dat.specs.Fields.{Reading, ◌>>=◌, number_at, block_at, text_at, all_at}
use Rattle.trace_dat.specs.Contents.{EventFormat}

-- the system of the ring's own events
abbrev pub ring_system : List ℕ
ring_system = codes "ftrace"

-- the format of an event of some system: a block
unfoldable pub format_at : List ℕ → FilePart → Reading (List EventFormat × FilePart)
format_at system part = do
  text ← block_at w64 part
  Ok (record { system = system; text = text.0.bytes } ∷ [], text.1)

-- the formats of one system: their number and each of them
unfoldable pub formats_at : List ℕ → FilePart → Reading (List EventFormat × FilePart)
formats_at system part = do
  count ← number_at w32 part
  all_at (λ _. format_at system) 0 count.0 count.1

-- a system: its name, and its formats
unfoldable pub system_at : FilePart → Reading (List EventFormat × FilePart)
system_at part = do
  name ← text_at part
  formats_at name.0 name.1

-- the systems: their number and each of them
unfoldable pub systems_at : FilePart → Reading (List EventFormat × FilePart)
systems_at part = do
  count ← number_at w32 part
  all_at (λ _. system_at) 0 count.0 count.1
