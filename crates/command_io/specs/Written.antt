-- How the writing of a text ends.
use Rattle.std.specs.Prelude.{◌≡◌, ℕ, Bool, true, false, List, Option}
use Rattle.std.specs.Io.KnownBytes.{Appends}
use Rattle.command_io.specs.CommandRun.{AppendsPrefix}

-- The text was written, and the ending is the one that is wanted; or a beginning of it was, and not all, and the ending
-- is the one that says so. `failed` is whether a write failed.
pub record IsTextWritten {Ending : Type 0} (not_written : Ending) (contents after : Option (List ℕ)) (failed : Bool)
    (text : List ℕ) (wanted ending : Ending) : Type 0 where
  pub all : failed ≡ false → Appends contents after text × (ending ≡ wanted)
  pub cut_off : failed ≡ true → AppendsPrefix contents after text × (ending ≡ not_written)
