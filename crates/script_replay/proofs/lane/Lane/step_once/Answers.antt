use Rattle.std.proofs.Common.{◌≡◌, sym, ap, ◌∙◌, subst}
use Rattle.world_model.specs.Lanes.{lane_behind}
use Rattle.script_replay.specs.Value.{LaneValue}
use Rattle.script_replay.specs.Lanes.{IsLane}
use Rattle.script_replay.proofs.LaneValues.{value_behind, top_behind}
use Rattle.script_replay.proofs.lane.Lane.step_once.Goals as goal

-- the payloads of frames that are gone are dropped from the value that the step leaves
pub returns : goal.returns
returns g c = λ n size start cpu lane is.
    let s = c.ask_top-answer.ensures.step n size start cpu lane is in
    let left : value_behind c.args.self.now c.ask_top-answer.new.self.core
    ≡ c.forget_gone.new.self = sym (c.forget_gone.ensures
    ∙ ap (λ (v : LaneValue). value_behind v v.core) c.ask_top-answer.ensures.ring) in record {
      reported = s.answer;
      core = s.after;
      step = s.step;
      reports = s.reports;
      is_lane = subst (λ (v : LaneValue). IsLane n size start cpu v (lane_behind lane s.after)) left
          (top_behind n size start cpu c.args.self.now lane s.answer s.after c.ask_top-answer.new.self.core is s.step
          s.is_core);
    }
