use Rattle.std.proofs.Common.{arith}
use Rattle.std.proofs.lemmas.Result.{on_ok_weaker}
use Rattle.script_replay.proofs.FrameRuns.{finished}
use Rattle.script_replay.proofs.lane.Lane.finish.Goals as goal

pub returns : goal.returns
returns g c =
    on_ok_weaker c.step.result
    (λ has n size start lane is knows.
    finished n size start c.args.at.cpu.0 c.args.at.line 8192 c.args.self.now c.step.new.self lane
    c.args.reports.now c.step.new.reports is (omega arith) (has n size start lane is knows))
    c.step.ensures
