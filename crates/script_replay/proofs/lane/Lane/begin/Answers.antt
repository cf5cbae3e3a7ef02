use Rattle.std.proofs.Common.{length, refl, sym, subst}
use Rattle.std.proofs.lemmas.Result.{on_ok_weaker}
use Rattle.trace_model.specs.Steps.{pushes}
use Rattle.script_replay.specs.declared.asked.Asked.TheVariants.{Push}
use Rattle.script_replay.specs.Value.{LaneValue}
use Rattle.script_replay.specs.Reports.{MayReport, IsReported}
use Rattle.script_replay.proofs.Reporting.{may_report}
use Rattle.script_replay.proofs.PushedLanes.{begun, pushed_step}
use Rattle.script_replay.proofs.lane.Lane.begin.Goals as goal

pub report-requires : goal.report-requires
report-requires g c =
    let (n, size, start, lane, is, knows) = c.requires in
    let p = c.in_ok-answer.ensures n size start c.args.at.cpu.0 lane is in
    subst (λ (v : LaneValue). MayReport c.args.at.cpu.0 Push c.in_ok-answer.answer v.core c.args.reports.now)
    (sym c.self.view_is)
    (may_report c.args.at.line c.args.at.cpu.0 Push c.in_ok-answer.answer c.push.new.self.core n size start lane.core
    p.core (pushes c.args.moment (length c.args.payload.now)) p.reported
    (pushed_step n size start c.args.at.cpu.0 c.args.self.now lane Push
    (pushes c.args.moment (length c.args.payload.now))
    c.args.payload.now c.in_ok-answer.answer c.push.new.self is (c.args.moment, length c.args.payload.now, refl) p)
    c.args.reports.now knows)

pub returns : goal.returns
returns g c =
    on_ok_weaker c.report.result
    (λ reported n size start lane is knows.
    begun n size start c.args.at.cpu.0 c.args.at.line c.args.moment c.args.self.now lane Push c.args.payload.now
    c.in_ok-answer.answer c.push.new.self c.args.reports.now c.report.new.self is knows
    (c.args.moment, length c.args.payload.now, refl)
    (c.in_ok-answer.ensures n size start c.args.at.cpu.0 lane is)
    (subst
    (λ (v : LaneValue). IsReported c.args.at.line c.args.at.cpu.0 Push c.in_ok-answer.answer v.core c.args.reports.now
    c.report.new.self)
    c.self.view_is reported))
    c.report.ensures
