use Rattle.std.proofs.Common.{◌≡◌, ◌-◌, List, ℕ, length, drop, map, reverse, ap, ◌∙◌, Bor}
use Rattle.script_replay.specs.Value.{LaneValue, lane_of}
use Rattle.script_replay.proofs.LaneValues.{value_behind}
use Rattle.ring_frames.proofs.FramePayloads.{left_first}
use Rattle.script_replay.proofs.lane.Lane.forget_gone.Goals as goal

pub returns : goal.returns
returns c =
    let v : LaneValue = lane_of c.self.inside in
    let left : reverse (map (λ (b : Bor (List ℕ)). b.now) c.truncate.new.self.items)
    ≡ drop (length v.payloads - length v.core.stack.frames) v.payloads =
    ap (λ (l : List (Bor (List ℕ))). reverse (map (λ b. b.now) l)) c.truncate.ensures.items
    ∙ left_first (λ b. b.now) c.self.inside.payloads.items c.depth.result
    ∙ ap (λ (k : ℕ). drop (length v.payloads - k) v.payloads) c.depth.ensures in
    (λ i. record v { payloads = left i })
    ∙ ap (λ (w : LaneValue). value_behind w w.core) c.self.view_is
