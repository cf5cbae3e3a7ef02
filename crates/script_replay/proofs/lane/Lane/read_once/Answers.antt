use Rattle.std.proofs.Common.{refl, ap, ◌∙◌, subst}
use Rattle.std.proofs.lemmas.Result.{IfOk-weaker}
use Rattle.trace_model.specs.Steps.{reads}
use Rattle.ring_core.specs.Steps.{MakesStep}
use Rattle.script_replay.specs.declared.asked.Asked.TheVariants.{Read}
use Rattle.script_replay.specs.Value.{LaneValue}
use Rattle.script_replay.proofs.Reporting.{may_report}
use Rattle.script_replay.proofs.TakesLanes.{may_keep, reads_once}
use Rattle.script_replay.proofs.lane.Lane.read_once.Goals as goal

pub report_any-requires : goal.report_any-requires
report_any-requires g c =
    let (n, size, start, lane, is, knows) = c.requires in
    let makes = subst (λ (w : LaneValue). MakesStep w.core reads c.step-answer.result c.step-answer.new.self)
    (c.self.view_is ∙ c.in_ok-body.ensures.rest) c.step-answer.ensures.obeys.step in
    let s = makes n size start lane.core is.is_core in
    may_report c.args.at.line c.args.at.cpu.0 Read c.step-answer.result c.step-answer.new.self n size start lane.core
    s.after reads s.answer
    record {
      reached = is.is_core.reached;
      asked_is = refl;
      step = s.step;
      reports = s.reports;
      is_core = s.is_core;
    }
    c.args.reports.now knows

pub keep-requires : goal.keep-requires
keep-requires g c =
    let (n, size, start, lane, is, knows) = c.requires in
    may_keep c.args.at.cpu.0 c.args.self.now c.step-answer.result c.step-answer.new.self c.in_ok-body.body
    (n, size, start, lane, is)
    (subst (λ (w : LaneValue). MakesStep w.core reads c.step-answer.result c.step-answer.new.self)
    (c.self.view_is ∙ c.in_ok-body.ensures.rest) c.step-answer.ensures.obeys.step)
    c.step-answer.ensures.obeys.given_back

pub returns : goal.returns
returns g c =
    let same = c.self.view_is ∙ c.in_ok-body.ensures.rest in
    IfOk-weaker c.keep.result _ _
    (λ goes_on keeps. reads_once c.args.at.line c.args.at.cpu.0 c.args.self.now _ c.keep.new.self c.in_ok-body.body
    Read c.step-answer.result goes_on c.args.reports.now c.report_any.new.self
    (λ core. refl)
    c.in_ok-body.ensures.size
    (subst (λ (w : LaneValue). MakesStep w.core reads c.step-answer.result c.step-answer.new.self) same
    c.step-answer.ensures.obeys.step)
    (ap (λ (w : LaneValue). record w { core = c.step-answer.new.self }) same)
    c.step-answer.ensures.obeys.given_back
    c.in_ok-report_any.ensures
    keeps)
    c.keep.ensures
