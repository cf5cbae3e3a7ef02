use Rattle.std.proofs.Common.{[]}
use Rattle.trace_model.specs.Window.{first_window}
use Rattle.trace_model.specs.Ring.{window_of}
use Rattle.ring_model.proofs.histories.WindowRuns.{passed_by, not_both, taken_closed, lost_closed}
use Rattle.ring_model.proofs.laws.windows.passed_fills_are_taken_or_lost.Goals as goal

pub returns : goal.returns
returns c = record {
  passed =
      λ n start core events f reported low high.
      passed_by n [] (first_window start) (window_of core) events f reported.window low high;
  apart = λ n start core events f reported taken lost. not_both start events f taken lost;
  taken =
      λ n start core events f reported has.
      taken_closed n [] (first_window start) (window_of core) events f reported.window has;
  lost =
      λ n start core events f reported has.
      lost_closed n [] (first_window start) (window_of core) events f reported.window has;
}
