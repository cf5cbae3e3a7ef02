use Rattle.std.proofs.Common.{sym, subst}
use Rattle.std.proofs.lemmas.Result.{on_ok_weaker}
use Rattle.world_model.specs.Lanes.{lane_with}
use Rattle.ring_frames.specs.declared.answer.Answer.{Answer}
use Rattle.ring_frames.specs.declared.answer.Answer.TheVariants.{Pushed}
use Rattle.script_replay.specs.Value.{LaneValue}
use Rattle.script_replay.specs.Frames.{push_event}
use Rattle.script_replay.specs.Reports.{MayReport, IsReported}
use Rattle.script_replay.proofs.Reporting.{may_report, knows_after}
use Rattle.script_replay.proofs.PushedLanes.{pushed_step, push_reported, written, not_written}
use Rattle.script_replay.proofs.lane.Lane.push_and_finish.Goals as goal

pub report-requires : goal.report-requires
report-requires g c =
    let (n, size, start, lane, is, knows) = c.requires.lane in
    let p = c.in_ok-answer.ensures n size start c.args.at.cpu.0 lane is in
    subst (λ (a : Answer). MayReport c.args.at.cpu.0 c.args.asked a c.self.inside.core c.args.reports.now)
    c.in-Pushed.is
    (subst (λ (v : LaneValue). MayReport c.args.at.cpu.0 c.args.asked c.in_ok-answer.answer v.core c.args.reports.now)
    (sym c.self.view_is)
    (may_report c.args.at.line c.args.at.cpu.0 c.args.asked c.in_ok-answer.answer c.push.new.self.core n size start
    lane.core p.core (push_event c.args.event) p.reported
    (pushed_step n size start c.args.at.cpu.0 c.args.self.now lane c.args.asked (push_event c.args.event)
    c.args.payload.now c.in_ok-answer.answer c.push.new.self is (c.requires.asked lane.core) p)
    c.args.reports.now knows))

pub report-requires-in_default : goal.report-requires-in_default
report-requires-in_default g c =
    let (n, size, start, lane, is, knows) = c.requires.lane in
    let p = c.in_ok-answer.ensures n size start c.args.at.cpu.0 lane is in
    subst (λ (v : LaneValue). MayReport c.args.at.cpu.0 c.args.asked c.in_ok-answer.answer v.core c.args.reports.now)
    (sym c.self-in_default.view_is)
    (may_report c.args.at.line c.args.at.cpu.0 c.args.asked c.in_ok-answer.answer c.push.new.self.core n size start
    lane.core p.core (push_event c.args.event) p.reported
    (pushed_step n size start c.args.at.cpu.0 c.args.self.now lane c.args.asked (push_event c.args.event)
    c.args.payload.now c.in_ok-answer.answer c.push.new.self is (c.requires.asked lane.core) p)
    c.args.reports.now knows)

pub finish-requires : goal.finish-requires
finish-requires g c =
    let (n, size, start, lane, is, knows) = c.requires.lane in
    let p = c.in_ok-answer.ensures n size start c.args.at.cpu.0 lane is in
    let reported = push_reported n size start c.args.at.cpu.0 c.args.at.line c.args.self.now lane c.args.asked
    (push_event c.args.event) c.args.payload.now c.in_ok-answer.answer c.push.new.self c.args.reports.now
    c.report.new.self is knows (c.requires.asked lane.core) p
    (subst (λ (a : Answer). IsReported c.args.at.line c.args.at.cpu.0 c.args.asked a c.push.new.self.core
    c.args.reports.now c.report.new.self) (sym c.in-Pushed.is)
    (subst (λ (v : LaneValue). IsReported c.args.at.line c.args.at.cpu.0 c.args.asked Pushed v.core c.args.reports.now
    c.report.new.self) c.self.view_is c.in_ok-report-in-Pushed.ensures)) in (
      n,
      size,
      start,
      lane_with lane c.args.payload.now p.reported p.core,
      p.is_lane,
      knows_after n size c.args.at.line c.args.at.cpu.0 lane.core p.core _ c.args.reports.now c.report.new.self
          reported,
    )

pub returns-in_ok-report-in-Pushed : goal.returns-in_ok-report-in-Pushed
returns-in_ok-report-in-Pushed g c =
    on_ok_weaker c.finish.result
    (λ has n size start lane is knows.
    let p = c.in_ok-answer.ensures n size start c.args.at.cpu.0 lane is in
    let reported = push_reported n size start c.args.at.cpu.0 c.args.at.line c.args.self.now lane c.args.asked
    (push_event c.args.event) c.args.payload.now c.in_ok-answer.answer c.push.new.self c.args.reports.now
    c.report.new.self is knows (c.requires.asked lane.core) p
    (subst (λ (a : Answer). IsReported c.args.at.line c.args.at.cpu.0 c.args.asked a c.push.new.self.core
    c.args.reports.now c.report.new.self) (sym c.in-Pushed.is)
    (subst (λ (v : LaneValue). IsReported c.args.at.line c.args.at.cpu.0 c.args.asked Pushed v.core c.args.reports.now
    c.report.new.self) c.self.view_is c.in_ok-report-in-Pushed.ensures)) in
    written n size start c.args.at.cpu.0 c.args.at.line lane (push_event c.args.event) c.args.payload.now
    c.in_ok-answer.answer c.push.new.self c.finish.new.self c.args.reports.now c.report.new.self
    c.finish.new.reports p c.in-Pushed.is reported
    (has n size start (lane_with lane c.args.payload.now p.reported p.core) p.is_lane
    (knows_after n size c.args.at.line c.args.at.cpu.0 lane.core p.core _ c.args.reports.now
    c.report.new.self reported)))
    c.finish.ensures

pub returns-in_default : goal.returns-in_default
returns-in_default g c =
    on_ok_weaker c.report-in_default.result
    (λ told n size start lane is knows.
    let p = c.in_ok-answer.ensures n size start c.args.at.cpu.0 lane is in
    not_written n size start c.args.at.cpu.0 c.args.at.line lane c.args.event c.args.payload.now
    c.in_ok-answer.answer c.push.new.self c.args.reports.now c.report-in_default.new.self c.requires.push p
    c.in_default.not-Pushed
    (push_reported n size start c.args.at.cpu.0 c.args.at.line c.args.self.now lane c.args.asked
    (push_event c.args.event) c.args.payload.now c.in_ok-answer.answer c.push.new.self c.args.reports.now
    c.report-in_default.new.self is knows (c.requires.asked lane.core) p
    (subst (λ (v : LaneValue). IsReported c.args.at.line c.args.at.cpu.0 c.args.asked c.in_ok-answer.answer v.core
    c.args.reports.now c.report-in_default.new.self) c.self-in_default.view_is told)))
    c.report-in_default.ensures
