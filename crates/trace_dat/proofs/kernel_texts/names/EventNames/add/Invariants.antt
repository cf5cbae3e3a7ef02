use Rattle.std.proofs.Common.{List, ◌++◌, take, map}
use Rattle.trace_dat.specs.Contents.{EventFormat, format_seen}
use Rattle.trace_dat.specs.kernel_texts.Names.{HasEvents}
use Rattle.trace_dat.proofs.kernel_texts.names.EventNames.add.Given as goal

abbrev pub invariant-loop-format : goal.invariant-loop-format
invariant-loop-format l =
    (known : List EventFormat) → HasEvents l.fn.self known
    → HasEvents l.self (known ++ map format_seen (take l.format-index l.formats))
