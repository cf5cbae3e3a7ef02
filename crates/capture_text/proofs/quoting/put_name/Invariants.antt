use Rattle.std.proofs.Common.{take}
use Rattle.capture_text.specs.Quoting.{shown_name}
use Rattle.text_values.specs.Putting.{Puts}
use Rattle.capture_text.proofs.quoting.put_name.Given as goal

abbrev pub invariant-loop-byte : goal.invariant-loop-byte
invariant-loop-byte g l =
    Puts (shown_name (take l.byte-index l.name)) l.fn.out l.out
