use Rattle.fleet_text.specs.declared.run.RunKind.TheVariants.{Missing, Unknown, Undelivered}
use Rattle.fleet_text.proofs.RunsInOrder.{put_of_kind}
use Rattle.fleet_text.proofs.runs.put_kind.Goals as goal

pub returns-in-Missing : goal.returns-in-Missing
returns-in-Missing c =
    put_of_kind c.args.kind Missing c.args.at.now c.put_all.result c.missing.result _ _ c.in-Missing.is
    c.missing.ensures
    c.put_all.ensures

pub returns-in-Unknown : goal.returns-in-Unknown
returns-in-Unknown c =
    put_of_kind c.args.kind Unknown c.args.at.now c.put_all-in-Unknown.result c.unknown.result _ _ c.in-Unknown.is
    c.unknown.ensures
    c.put_all-in-Unknown.ensures

pub returns-in-Undelivered : goal.returns-in-Undelivered
returns-in-Undelivered c =
    put_of_kind c.args.kind Undelivered c.args.at.now c.put_all-in-Undelivered.result c.undelivered.result _ _
    c.in-Undelivered.is c.undelivered.ensures
    c.put_all-in-Undelivered.ensures
