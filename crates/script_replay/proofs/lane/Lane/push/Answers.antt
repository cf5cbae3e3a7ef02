use Rattle.std.proofs.Common.{ℕ, List, map, reverse, sym, ap, ◌∙◌, subst, Bor}
use Rattle.script_replay.specs.Value.{LaneValue, lane_of}
use Rattle.script_replay.specs.Frames.{push_event, Pushes}
use Rattle.script_replay.proofs.FramePayloads.{pushed_first}
use Rattle.script_replay.proofs.PushedLanes.{stands_pushed, fails_pushed}
use Rattle.script_replay.proofs.lane.Lane.push.Goals as goal
use Rattle.script_replay.proofs.lane.Lane.push.Goals.{in-Pushed+in_ok-push, in_default}

pub returns : goal.returns
returns c = subst (λ (v : LaneValue).
    Pushes (push_event c.args.event) c.args.payload.now v c.step-answer.result c.match-answer.self) c.self.view_is
    (elim c.match-answer.branch [
      | in-Pushed+in_ok-push w
          ↦ subst (λ (v : LaneValue).
          Pushes (push_event c.args.event) c.args.payload.now (lane_of c.self.inside) c.step-answer.result v)
          (sym w.self-is)
          (stands_pushed (lane_of c.self.inside) c.args.event c.args.payload.now c.step-answer.result
          c.step-answer.new.self (reverse (map (λ (b : Bor (List ℕ)). b.now) w.push.new.self.items)) c.requires.push
          c.step-answer.ensures.obeys.step w.in-Pushed.is
          (ap (λ (l : List (Bor (List ℕ))). reverse (map (λ b. b.now) l)) w.in_ok-push.ensures.items
          ∙ pushed_first (λ b. b.now) c.self.inside.payloads.items c.args.payload))
      | in_default w ↦ subst (λ (v : LaneValue).
          Pushes (push_event c.args.event) c.args.payload.now (lane_of c.self.inside) c.step-answer.result v)
          (sym w.self-is)
          (fails_pushed (lane_of c.self.inside) c.args.event c.args.payload.now c.step-answer.result
          c.step-answer.new.self c.requires.push c.step-answer.ensures.obeys.step w.in_default.not-Pushed)
    ])
