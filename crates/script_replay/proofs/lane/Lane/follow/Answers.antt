use Rattle.std.proofs.Common.{inl, inr, sym, ◌∙◌, subst, arith}
use Rattle.script_replay.specs.declared.asked.Asked.TheVariants.{Top}
use Rattle.script_replay.specs.Value.{LaneValue}
use Rattle.script_replay.specs.Reports.{MayReport, IsReported}
use Rattle.script_replay.proofs.LaneValues.{depth_is, kept_many}
use Rattle.script_replay.proofs.Reporting.{may_report, knows_after}
use Rattle.script_replay.proofs.FrameRuns.{part_way_none, part_way_turn, top_step, first_payload, asks_top, followed}
use Rattle.script_replay.proofs.lane.Lane.follow.Goals as goal

pub loop-steps-init : goal.loop-steps-init
loop-steps-init g c = record {
  few = omega arith;
  part_way = λ n size start lane is knows.
      part_way_none n size start c.args.at.cpu.0 c.args.at.line c.len-depth.result c.args.self.now lane
      c.args.reports.now is knows
      (kept_many n size start c.args.at.cpu.0 c.args.self.now lane c.self.inside c.len-depth.result is c.self.view_is
      (c.len-depth.ensures ∙ c.self.inside.payloads.ok.0));
}

-- the lane is one in the loop too
pub step_once-answer-requires : goal.step_once-answer-requires
step_once-answer-requires g c =
    let (n, size, start, lane, is, knows) = c.requires.lane in
    let h = c.loop-steps.invariant.part_way n size start lane is knows in
    (c.args.at.cpu.0, (n, size, start, h.after, h.is_lane))

pub report-requires : goal.report-requires
report-requires g c =
    let (n, size, start, lane, is, knows) = c.requires.lane in
    let h = c.loop-steps.invariant.part_way n size start lane is knows in
    let s = c.step_once-answer.ensures n size start c.args.at.cpu.0 h.after h.is_lane in
    let many = kept_many n size start c.args.at.cpu.0 c.loop-steps.self h.after c.self-in-loop-steps.inside c.len.result
    h.is_lane c.self-in-loop-steps.view_is (c.len.ensures ∙ c.self-in-loop-steps.inside.payloads.ok.0) in
    let (rest, payloads) =
    first_payload n size start c.args.at.cpu.0 c.len-depth.result c.self.inside c.args.self.now lane
    c.index-payload.result.now c.self.view_is is c.requires.stands
    (c.len-depth.ensures ∙ c.self.inside.payloads.ok.0) c.index-payload.ensures in
    subst
    (λ (v : LaneValue). MayReport c.args.at.cpu.0 (Top c.index-payload.result.now) c.step_once-answer.result v.core
    c.loop-steps.reports)
    (sym c.self-in-loop-steps-2.view_is)
    (may_report c.args.at.line c.args.at.cpu.0 (Top c.index-payload.result.now) c.step_once-answer.result
    c.step_once-answer.new.self.core n size start h.after.core s.core _ s.reported
    (top_step n size start c.args.at.cpu.0 c.args.at.line c.len-depth.result c.loop-steps.steps lane c.loop-steps.self
    c.step_once-answer.new.self _ c.step_once-answer.result c.args.reports.now c.loop-steps.reports h
    (sym many ∙ c.if-len-depth.true) s
    (λ same. asks_top h.after.core.frames h.after.payloads c.index-payload.result.now.now rest (same ∙ payloads)))
    c.loop-steps.reports
    (knows_after n size c.args.at.line c.args.at.cpu.0 lane.core h.after.core h.exchanges c.args.reports.now
    c.loop-steps.reports h.reported))

pub loop-steps-preserved : goal.loop-steps-preserved
loop-steps-preserved g c =
    let (n, size, start, lane, is, knows) = c.requires.lane in
    let h = c.loop-steps.invariant.part_way n size start lane is knows in
    let many = kept_many n size start c.args.at.cpu.0 c.loop-steps.self h.after c.self-in-loop-steps.inside c.len.result
    h.is_lane c.self-in-loop-steps.view_is (c.len.ensures ∙ c.self-in-loop-steps.inside.payloads.ok.0) in
    record {
      few = omega arith;
      part_way = part_way_turn c.args.at.line c.args.at.cpu.0 c.len-depth.result c.loop-steps.steps c.args.self.now
          c.loop-steps.self c.step_once-answer.new.self (Top c.index-payload.result.now) c.step_once-answer.result
          c.args.reports.now
          c.loop-steps.reports c.report.new.self
          c.loop-steps.invariant.part_way
          (sym many ∙ c.if-len-depth.true)
          c.step_once-answer.ensures
          (λ pages bytes first before now before_is now_is same.
          let (rest, payloads) =
          first_payload pages bytes first c.args.at.cpu.0 c.len-depth.result c.self.inside c.args.self.now before
          c.index-payload.result.now c.self.view_is before_is c.requires.stands
          (c.len-depth.ensures ∙ c.self.inside.payloads.ok.0) c.index-payload.ensures in
          asks_top now.core.frames now.payloads c.index-payload.result.now.now rest (same ∙ payloads))
          (subst
          (λ (v : LaneValue). IsReported c.args.at.line c.args.at.cpu.0 (Top c.index-payload.result.now)
          c.step_once-answer.result v.core c.loop-steps.reports c.report.new.self)
          c.self-in-loop-steps-2.view_is c.in_ok-report.ensures);
    }

pub returns-else-len-depth : goal.returns-else-len-depth
returns-else-len-depth g c = λ n size start lane is knows.
    let h = c.loop-steps.invariant.part_way n size start lane is knows in
    let many = kept_many n size start c.args.at.cpu.0 c.loop-steps.self h.after c.self-in-loop-steps.inside c.len.result
    h.is_lane c.self-in-loop-steps.view_is (c.len.ensures ∙ c.self-in-loop-steps.inside.payloads.ok.0) in
    followed n size start c.args.at.cpu.0 c.args.at.line c.len-depth.result c.loop-steps.steps c.args.count lane
    c.loop-steps.self c.args.reports.now c.loop-steps.reports h
    (kept_many n size start c.args.at.cpu.0 c.args.self.now lane c.self.inside c.len-depth.result is c.self.view_is
    (c.len-depth.ensures ∙ c.self.inside.payloads.ok.0)
    ∙ depth_is n size start c.args.at.cpu.0 c.args.self.now lane is)
    c.loop-steps.invariant.few
    (inr (λ same. c.if-len-depth.false (many ∙ same)))

pub returns-after-loop-steps : goal.returns-after-loop-steps
returns-after-loop-steps g c = λ n size start lane is knows.
    followed n size start c.args.at.cpu.0 c.args.at.line c.len-depth.result c.loop-steps.steps c.args.count lane
    c.loop-steps.self c.args.reports.now c.loop-steps.reports
    (c.loop-steps.invariant.part_way n size start lane is knows)
    (kept_many n size start c.args.at.cpu.0 c.args.self.now lane c.self.inside c.len-depth.result is c.self.view_is
    (c.len-depth.ensures ∙ c.self.inside.payloads.ok.0)
    ∙ depth_is n size start c.args.at.cpu.0 c.args.self.now lane is)
    c.loop-steps.invariant.few
    (inl c.loop-steps-test.false)
