use Rattle.std.proofs.Common.{arith}
use Rattle.std.proofs.lemmas.Result.{IfOk-weaker}
use Rattle.script_replay.proofs.TakesRuns.{take_is_answered}
use Rattle.script_replay.proofs.lane.Lane.take.Goals as goal

pub returns : goal.returns
returns g c = IfOk-weaker c.step_reader.result _ _
    (λ _ has.
    take_is_answered c.args.at.line c.args.at.cpu.0 _ c.args.self.now c.step_reader.new.self c.args.reports.now
    c.step_reader.new.reports (omega arith) has)
    c.step_reader.ensures
