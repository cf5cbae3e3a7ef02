-- What new pieces are written to, as contracts see it.
use Rattle.std.specs.Prelude.{ℕ, Bool, false, List, Option, None}
use Rattle.host_commands.specs.declared.keep.Keep.{Keep}
use Rattle.host_commands.specs.declared.keep.Keep.TheVariants.{Nowhere, File}

-- the bytes that it has taken, if they are known
abbrev pub contents_in : {F : Type 0} → (F → Option (List ℕ)) → Keep F → Option (List ℕ)
contents_in in_file Nowhere = None
contents_in in_file (File file) = in_file file

-- whether a write has failed
abbrev pub has_failed_in : {F : Type 0} → (F → Bool) → Keep F → Bool
has_failed_in in_file Nowhere = false
has_failed_in in_file (File file) = in_file file
