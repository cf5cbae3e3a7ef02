use Rattle.std.proofs.Common.{◌≡◌, ◌++◌, ℕ, List, Option, OnOk, map, sym, subst}
use Rattle.trace_model.specs.Record.{Record}
use Rattle.trace_model.specs.declared.numbers.Moment.{Moment}
use Rattle.collector.specs.Listed.{AreListed}
use Rattle.fleet_collector.specs.Lines.{line_seen, line_of, IsShown}
use Rattle.fleet_collector.proofs.listing.put_cpu.Goals as goal

pub returns-in-Some : goal.returns-in-Some
returns-in-Some c =
    subst (λ (before : Option Moment). OnOk c.put_before_cut.result ((list : List (ℕ × Record))
    × AreListed (IsShown before c.args.known.now c.args.cpu.0) list
    × (map line_seen c.put_before_cut.new.lines.items ≡ map line_seen c.args.lines.now.items ++ map
    (line_of c.args.stream.0 c.args.cpu.0) list))) (sym c.in-Some.is) c.put_before_cut.ensures
