use Rattle.std.proofs.Common.{length}
use Rattle.page_image.specs.Images.{missed_of}
use Rattle.capture.proofs.Adding.{AddsWhole}
use Rattle.capture.proofs.pages.Capture.add_bytes.Given as goal

abbrev pub invariant-loop-rest : goal.invariant-loop-rest
invariant-loop-rest l = AddsWhole l.fn.size (missed_of l.fn.unknown) l.fn.bytes l.rest l.fn.self l.self

abbrev pub decreases-loop-rest : goal.decreases-loop-rest
decreases-loop-rest l = length l.rest
