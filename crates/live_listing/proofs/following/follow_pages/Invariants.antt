use Rattle.std.proofs.Common.{◌≡◌, false, None}
use Rattle.capture_text.specs.Printed.{IsSound}
use Rattle.live_listing.specs.Printing.{HasPrintedSome}
use Rattle.live_listing.specs.Following.{Follows}
use Rattle.live_listing.proofs.following.follow_pages.Given as goal

abbrev pub invariant-loop-cpu : goal.invariant-loop-cpu
invariant-loop-cpu g l =
    IsSound l.printer.naming × HasPrintedSome l.printer × (g.W.Sink.failed l.writer ≡ false)
    × (l.happenings ≡ l.fn.happenings)
    × Follows g.S.Happenings.gives l.cpus l.size l.fn.happenings l.fn.printer (g.W.Sink.contents l.fn.writer)
    l.happenings l.live l.printer (g.W.Sink.contents l.writer) (g.W.Sink.failed l.writer) l.late None

abbrev pub invariant-loop : goal.invariant-loop
invariant-loop g l =
    IsSound l.printer.naming × HasPrintedSome l.printer × (g.W.Sink.failed l.writer ≡ false)
    × Follows g.S.Happenings.gives l.cpus l.size l.fn.happenings l.fn.printer (g.W.Sink.contents l.fn.writer)
    l.happenings l.live l.printer (g.W.Sink.contents l.writer) (g.W.Sink.failed l.writer) l.late l.not_read
