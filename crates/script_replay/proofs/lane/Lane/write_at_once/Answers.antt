use Rattle.std.proofs.Common.{inl, inr, refl, subst}
use Rattle.script_replay.specs.Value.{LaneValue, lane_of}
use Rattle.script_replay.specs.Frames.{HasWrittenAtOnce}
use Rattle.script_replay.proofs.lane.Lane.write_at_once.Goals as goal

pub returns-then-depth-eq0-clause-wrote : goal.returns-then-depth-eq0-clause-wrote
returns-then-depth-eq0-clause-wrote g c = λ is.
    let new = lane_of record c.self.inside { core = c.write.new.self } in
    subst (λ (v : LaneValue). HasWrittenAtOnce c.args.moment c.args.payload.now v new) c.self.view_is
    (record { core = refl; writes = inl (c.write.ensures.wrote is) })

pub returns-clause-wrote : goal.returns-clause-wrote
returns-clause-wrote g c = λ is.
    let new = lane_of record c.self.inside { core = c.write_above.new.self } in
    subst (λ (v : LaneValue). HasWrittenAtOnce c.args.moment c.args.payload.now v new) c.self.view_is
    (record { core = refl; writes = inr (c.write_above.ensures.wrote is) })
