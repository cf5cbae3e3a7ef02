use Rattle.std.proofs.Common.{refl, ap, subst}
use Rattle.std.proofs.lemmas.Result.{IfOk-weaker}
use Rattle.trace_model.specs.Steps.{wishes}
use Rattle.ring_core.specs.Steps.{MakesStep}
use Rattle.script_replay.specs.declared.asked.Asked.TheVariants.{Wish}
use Rattle.script_replay.specs.Value.{LaneValue}
use Rattle.script_replay.proofs.Reporting.{may_report}
use Rattle.script_replay.proofs.TakesLanes.{wishes_of}
use Rattle.script_replay.proofs.lane.Lane.wish.Goals as goal

pub report-requires : goal.report-requires
report-requires g c =
    let (n, size, start, lane, is, knows) = c.requires in
    let makes = subst (λ (w : LaneValue). MakesStep w.core wishes c.step-answer.result c.step-answer.new.self)
    c.self.view_is c.step-answer.ensures.obeys.step in
    let s = makes n size start lane.core is.is_core in
    may_report c.args.at.line c.args.at.cpu.0 Wish c.step-answer.result c.step-answer.new.self n size start lane.core
    s.after wishes s.answer
    record {
      reached = is.is_core.reached;
      asked_is = refl;
      step = s.step;
      reports = s.reports;
      is_core = s.is_core;
    }
    c.args.reports.now knows

pub returns : goal.returns
returns g c = IfOk-weaker c.report.result _ _
    (λ _ reported. wishes_of c.args.at.line c.args.at.cpu.0 c.args.self.now Wish c.step-answer.result _
    c.args.reports.now c.report.new.self
    (λ core. refl)
    (subst (λ (w : LaneValue). MakesStep w.core wishes c.step-answer.result c.step-answer.new.self) c.self.view_is
    c.step-answer.ensures.obeys.step)
    (ap (λ (w : LaneValue). record w { core = c.step-answer.new.self }) c.self.view_is)
    reported)
    c.report.ensures
