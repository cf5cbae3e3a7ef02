use Rattle.std.proofs.Common.{List, ◌++◌, ◌∙◌, sym, ap, subst}
use Rattle.std.proofs.lemmas.Result.{on_ok_weaker}
use Rattle.world_model.specs.Log.{logged}
use Rattle.script_replay.specs.declared.log.line.LogLine.{LogLine}
use Rattle.script_replay.specs.log.LogTypes.{shown_log}
use Rattle.script_replay.specs.Tells.{IsStepTold}
use Rattle.script_replay.specs.Reports.{ReportsValue}
use Rattle.script_replay.proofs.Reporting.{step_reported}
use Rattle.script_replay.proofs.reports.Reports.report.Goals as goal

pub returns : goal.returns
returns g c =
    let line = c.args.at.line in
    let cpu = c.args.at.cpu.0 in
    let old = c.args.self.now in
    let told = subst (λ (v : ReportsValue).
    IsStepTold line cpu c.args.asked c.args.answer c.args.ring.now old.steps v.steps)
    (sym c.self.view_is) c.in_ok-tell.ensures.steps in
    let same = (λ i. (c.self.view_is i).log) ∙ c.in_ok-tell.ensures.log in
    on_ok_weaker c.report.result
    (λ says. step_reported line cpu c.args.asked c.args.answer c.args.ring.now old
    record { log = c.report.new.log.items; steps = g.T.Teller.told c.self.inside.steps } told
    (λ size reported means. says size reported means
    ∙ ap (λ (l : List LogLine). shown_log l ++ logged line cpu reported) same))
    c.report.ensures
