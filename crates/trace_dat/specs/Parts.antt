-- Parts of a file, as contracts see them.
use Rattle.std.specs.Prelude.{ℕ, List, Option}
use Rattle.trace_dat.specs.declared.fault.Fault.{Fault}
use Rattle.trace_dat.specs.declared.part.Extent.{Extent}
use Rattle.trace_dat.specs.declared.part.Part.{Part}

-- bytes of a file, and the offset at which they begin
pub record FilePart : Type 0 where
  pub at : ℕ
  pub bytes : List ℕ

-- a part without its place in memory
abbrev pub seen : Part → FilePart
seen part = record { at = part.at; bytes = part.bytes.now }

-- those bytes of a range that the file has, and the fault if the file ends before the range does
pub record FileExtent : Type 0 where
  pub bytes : List ℕ
  pub fault : Option Fault

-- an extent without its place in memory
abbrev pub extent_seen : Extent → FileExtent
extent_seen extent = record { bytes = extent.bytes.now; fault = extent.fault }
