-- What holds of the reading of every file.
use Rattle.std.specs.Prelude.{◌≡◌, ◌⊎◌, List, ℕ, Ok}
use Rattle.trace_dat.specs.Contents.{Contents}
use Rattle.trace_dat.specs.Versions.{reading_of}
use Rattle.trace_dat.specs.Spelling.{IsBytes, IsSix, IsSeven}

-- A file that is read is spelled as version 6 or as version 7 is, and holds exactly what is read of it.
abbrev pub ReadIsSpelled : Type 0
ReadIsSpelled = (file : List ℕ) (contents : Contents) → IsBytes file → reading_of file ≡ Ok contents
    → IsSix file contents ⊎ IsSeven file contents

-- A file that is spelled as version 6 or as version 7 is, is read, and holds exactly what it is said to hold.
abbrev pub SpelledIsRead : Type 0
SpelledIsRead = (file : List ℕ) (contents : Contents) → IsSix file contents ⊎ IsSeven file contents
    → reading_of file ≡ Ok contents
