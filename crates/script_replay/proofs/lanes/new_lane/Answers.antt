use Rattle.script_replay.proofs.LanesByCpu.{new_in_box}
use Rattle.script_replay.proofs.lanes.new_lane.Goals as goal

pub returns : goal.returns
returns c =
    new_in_box c.args.script.now c.pages.result c.size.result c.start.result.0 c.in_ok-lane.lane
    c.in_ok-new.field-0.value c.pages.ensures.pages c.size.ensures.size c.start.ensures.start c.in_ok-new.ensures.ok
    c.in_ok-lane.ensures
