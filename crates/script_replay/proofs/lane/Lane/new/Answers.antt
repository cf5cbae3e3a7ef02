use Rattle.std.proofs.Common.{ℕ, List, map, reverse, refl, ap, Bor}
use Rattle.script_replay.proofs.NewLanes.{new_lane}
use Rattle.script_replay.proofs.lane.Lane.new.Goals as goal

pub returns : goal.returns
returns c =
    let limits = c.requires.limits in
    new_lane c.args.pages c.args.size c.args.start _ limits.most_pages limits.small limits.large limits.words
    c.in_ok-new_at.ensures.fresh
    (ap (λ (l : List (Bor (List ℕ))). reverse (map (λ payload. payload.now) l)) c.in_ok-with_capacity.ensures.items)
    refl c.new.ensures.items
