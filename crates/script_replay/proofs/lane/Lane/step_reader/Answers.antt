use Rattle.std.proofs.Common.{Bool, subst, arith}
use Rattle.script_replay.specs.Lanes.{MakesExchanges}
use Rattle.script_replay.specs.Takes.{ReadsSteps}
use Rattle.script_replay.proofs.TakesRuns.{lane_of, read_none, read_more, all_read, answer_read}
use Rattle.script_replay.proofs.lane.Lane.step_reader.Goals as goal

pub loop-steps-init : goal.loop-steps-init
loop-steps-init g c = record {
  few = omega arith;
  so_far = read_none c.args.at.line c.args.at.cpu.0 c.args.self.now c.args.reports.now;
}

pub read_once-requires : goal.read_once-requires
read_once-requires g c =
    lane_of c.args.at.line c.args.at.cpu.0 c.args.self.now c.loop-steps.self c.args.reports.now
    c.loop-steps.reports c.requires c.loop-steps.invariant.so_far

pub loop-steps-preserved : goal.loop-steps-preserved
loop-steps-preserved g c = record {
  few = let low = c.loop-steps-test.true in omega arith;
  so_far =
      read_more c.args.at.line c.args.at.cpu.0 c.loop-steps.steps c.in_ok-goes_on.goes_on c.args.self.now
      c.loop-steps.self c.read_once.new.self c.args.reports.now c.loop-steps.reports c.read_once.new.reports
      (subst
      (λ (b : Bool). MakesExchanges (ReadsSteps c.loop-steps.steps b) c.args.at.line c.args.at.cpu.0 c.args.self.now
      c.args.reports.now c.loop-steps.self c.loop-steps.reports) c.if-goes_on.true c.loop-steps.invariant.so_far)
      c.in_ok-goes_on.ensures;
}

pub returns-else-goes_on : goal.returns-else-goes_on
returns-else-goes_on g c =
    answer_read c.args.at.line c.args.at.cpu.0 c.loop-steps.steps c.args.count c.args.self.now c.loop-steps.self
    c.args.reports.now c.loop-steps.reports c.loop-steps.invariant.few
    (subst
    (λ (b : Bool). MakesExchanges (ReadsSteps c.loop-steps.steps b) c.args.at.line c.args.at.cpu.0 c.args.self.now
    c.args.reports.now c.loop-steps.self c.loop-steps.reports) c.if-goes_on.false c.loop-steps.invariant.so_far)

pub returns-after-loop-steps : goal.returns-after-loop-steps
returns-after-loop-steps g c =
    all_read c.args.at.line c.args.at.cpu.0 c.loop-steps.steps c.args.count c.loop-steps.goes_on c.args.self.now
    c.loop-steps.self c.args.reports.now c.loop-steps.reports
    (let few = c.loop-steps.invariant.few in let past = c.loop-steps-test.false in omega arith)
    c.loop-steps.invariant.so_far
