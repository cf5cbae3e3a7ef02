use Rattle.std.proofs.Common.{take}
use Rattle.std.specs.Option.{option_map}
use Rattle.capture.specs.Captures.{numbers_of}
use Rattle.capture_text.specs.Window.{bound_seen}
use Rattle.capture_text.specs.Listed.{listed_losses}
use Rattle.text_values.specs.Putting.{Puts}
use Rattle.capture_text.proofs.losses.put_losses.Given as goal

abbrev pub invariant-loop-number : goal.invariant-loop-number
invariant-loop-number g l =
    Puts (listed_losses l.form (option_map bound_seen l.bound) l.cpu.0 (numbers_of (take l.number-index l.numbers)))
    l.fn.out l.out
