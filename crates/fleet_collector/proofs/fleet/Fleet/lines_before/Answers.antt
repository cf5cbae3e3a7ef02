use Rattle.std.proofs.Common.{map}
use Rattle.std.proofs.lemmas.Result.{IfOk-weaker}
use Rattle.fleet_collector.specs.Lines.{line_seen}
use Rattle.fleet_collector.proofs.BeforeCut.{before_shown}
use Rattle.fleet_collector.proofs.fleet.Fleet.lines_before.Goals as goal

pub returns : goal.returns
returns c = IfOk-weaker c.listed.result _ _
    (λ lines shown. before_shown c.args.self.now c.args.moment (map line_seen lines.items) shown) c.listed.ensures
