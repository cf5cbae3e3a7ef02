-- Options: what a file has beside its texts and pages, each an identifier and a body.
use Rattle.std.specs.Prelude.{ℕ, zero, suc, ◌+◌, List, [], ◌∷◌, length, Option, Some, None, Ok, ◌==◌, if◌then◌else◌}
use Rattle.std.specs.Int.{w16, w32}
use Rattle.trace_dat.specs.declared.fault.Cause.TheVariants.{Cut}
use Rattle.trace_dat.specs.declared.entries.TheConstants.{DONE}
use Rattle.trace_dat.specs.declared.entries.Entry.{Entry}
use Rattle.trace_dat.specs.Parts.{FilePart, seen}
use Rattle.trace_dat.specs.Fields.{Reading, ◌>>=◌, fault_at, number_at, block_at}

-- an option: what it is, and the bytes that belong to it
pub record FileOption : Type 0 where
  pub id : ℕ
  pub body : FilePart

-- an option without its place in memory
abbrev pub option_seen : Entry → FileOption
option_seen entry = record { id = entry.id; body = seen entry.body }

-- an option with this identifier: its body is a block
unfoldable pub body_at : ℕ → FilePart → Reading (Option FileOption × FilePart)
body_at id part = do
  body ← block_at w32 part
  Ok (Some (record { id = id; body = body.0 }), body.1)

-- an option, or only the identifier that ends the options
unfoldable pub option_at : FilePart → Reading (Option FileOption × FilePart)
option_at part = do
  id ← number_at w16 part
  if id.0 == DONE then Ok (None, id.1) else body_at id.0 id.1

-- an option and those after it, if it isn't the end
abbrev pub option_then : Option FileOption → Reading (List FileOption × FilePart) → FilePart
    → Reading (List FileOption × FilePart)
option_then None others part = Ok ([], part)
option_then (Some option) others part = others >>= λ rest. Ok (option ∷ rest.0, rest.1)

-- the options up to their end, if there are fewer than this count
unfoldable pub options_among : ℕ → FilePart → Reading (List FileOption × FilePart)
options_among zero part = fault_at Cut part
options_among (suc count) part = do
  first ← option_at part
  option_then first.0 (options_among count first.1) first.1

-- the options up to their end: no part has more of them than bytes
abbrev pub options_at : FilePart → Reading (List FileOption × FilePart)
options_at part = options_among (length part.bytes + 1) part
