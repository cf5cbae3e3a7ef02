use Rattle.std.proofs.Common.{◌≡◌, [], None}
use Rattle.page_lines.specs.Sources.{Passes}
use Rattle.page_lines.proofs.source.PageLines.go_on.Given as goal

abbrev pub invariant-loop : goal.invariant-loop
invariant-loop g l =
    Passes g.R.Source.remaining l.initial.self [] l.self × (l.self.halt ≡ None) × (l.self.turns ≡ l.initial.self.turns)
