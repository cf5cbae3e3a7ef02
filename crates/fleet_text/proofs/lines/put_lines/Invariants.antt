use Rattle.std.proofs.Common.{take, map, flat_map}
use Rattle.fleet_collector.specs.Lines.{line_seen}
use Rattle.fleet_text.specs.Printing.{record_line}
use Rattle.text_values.specs.Putting.{Puts}
use Rattle.fleet_text.proofs.lines.put_lines.Given as goal

abbrev pub invariant-loop-line : goal.invariant-loop-line
invariant-loop-line g l =
    Puts (flat_map (record_line l.form) (map line_seen (take l.line-index l.lines))) l.fn.out l.out
