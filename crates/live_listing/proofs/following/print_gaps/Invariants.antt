use Rattle.std.proofs.Common.{take, map}
use Rattle.capture_text.specs.Printed.{bounds_of}
use Rattle.text_values.specs.Putting.{Puts}
use Rattle.live_listing.specs.Pages.{reached}
use Rattle.live_listing.specs.Following.{last_gaps}
use Rattle.live_listing.proofs.following.print_gaps.Given as goal

abbrev pub invariant-loop-found : goal.invariant-loop-found
invariant-loop-found g l =
    Puts (last_gaps l.printer.form (bounds_of l.printer) l.size 0 (map reached (take l.found-index l.cpus)))
    l.initial.out l.out
