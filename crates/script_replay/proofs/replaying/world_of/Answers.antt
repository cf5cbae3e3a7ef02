use Rattle.std.proofs.Common.{sym, subst}
use Rattle.script_replay.specs.Reports.{ReportsValue}
use Rattle.script_replay.specs.Replay.{IsHeadline}
use Rattle.script_replay.proofs.Answered.{is_replay, headline}
use Rattle.script_replay.proofs.replaying.world_of.Goals as goal

pub returns : goal.returns
returns c =
    let state = c.in_ok-lanes.field-0 in
    let part_way = c.in_ok-lanes.ensures.part_way in
    subst (λ (v : ReportsValue). IsHeadline c.args.script.now state.collectors.items v.log) (sym c.reports.view_is)
    (headline c.args.script.now state.collectors.items state.reports.log part_way.world c.in_ok-lanes.ensures.limits
    (is_replay c.args.script.now state part_way))
