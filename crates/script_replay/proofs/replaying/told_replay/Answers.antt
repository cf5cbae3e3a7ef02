use Rattle.std.proofs.Common.{Option, Some, None, sym, subst}
use Rattle.std.specs.Prelude.{IfSome}
use Rattle.text_model.specs.Script.{Script}
use Rattle.world_model.specs.World.{World}
use Rattle.step_model.specs.RunTexts.{IsStepText}
use Rattle.script_replay.specs.Known.{StepTextValue}
use Rattle.script_replay.specs.Reports.{ReportsValue}
use Rattle.script_replay.specs.Replay.{IsToldSoFar}
use Rattle.script_replay.proofs.replaying.told_replay.Goals as goal

-- the text so far is, after the last line, the text of all
whole_text : (script : Script) (w : World) (steps : Option StepTextValue)
    → IfSome steps (λ s. IsToldSoFar script script.commands w s)
    → IfSome steps (λ s. (world : World) × IsStepText script world s.text)
whole_text script w None so_far = so_far
whole_text script w (Some s) so_far = (
  w,
  record {
    new = so_far.new;
    is_new = so_far.is_new;
    rest = so_far.text;
    tells = so_far.tells;
    text_is = so_far.text_is;
  },
)

pub returns-clause-told : goal.returns-clause-told
returns-clause-told g c =
    let script = c.args.script.now in
    let part_way = c.in_ok-lanes.ensures.part_way in
    subst (λ (v : ReportsValue). IfSome v.steps (λ s. (world : World) × IsStepText script world s.text))
    (sym c.reports.view_is) (whole_text script part_way.world c.in_ok-lanes.field-0.reports.steps part_way.steps_are)
