use Rattle.std.proofs.Common.{◌≡◌, ◌≤◌, length}
use Rattle.text_model.specs.HeaderReading.{significant_lines_after, end_line_after}
use Rattle.trace_script.proofs.lines.Lines.next_significant.Given as goal

abbrev pub invariant-loop-line : goal.invariant-loop-line
invariant-loop-line l = record {
  same_left : significant_lines_after l.self.passed l.self.rest.now
      ≡ significant_lines_after l.initial.self.passed l.initial.self.rest.now;
  same_end : end_line_after l.self.passed l.self.rest.now
      ≡ end_line_after l.initial.self.passed l.initial.self.rest.now;
  later : l.initial.self.passed ≤ l.self.passed;
  shorter : length l.self.rest.now ≤ length l.initial.self.rest.now;
}

abbrev pub decreases-loop-line : goal.decreases-loop-line
decreases-loop-line l = length l.self.rest.now
