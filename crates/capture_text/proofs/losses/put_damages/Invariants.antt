use Rattle.std.proofs.Common.{take, flat_map}
use Rattle.std.specs.Option.{option_map}
use Rattle.capture_text.specs.Window.{bound_seen}
use Rattle.capture_text.specs.Listed.{listed_page}
use Rattle.text_values.specs.Putting.{Puts}
use Rattle.capture_text.proofs.losses.put_damages.Given as goal

abbrev pub invariant-loop-damaged : goal.invariant-loop-damaged
invariant-loop-damaged g l =
    Puts (flat_map (listed_page l.form (option_map bound_seen l.bound) l.parts l.cpu.0) (take l.damaged-index l.pages))
    l.fn.out l.out
