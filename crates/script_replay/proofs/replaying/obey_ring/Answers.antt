use Rattle.std.proofs.Common.{ℕ, ◌<◌, ◌∙◌, sym, subst, refl}
use Rattle.std.specs.Box.{with_value}
use Rattle.std.proofs.lemmas.Result.{on_ok_weaker}
use Rattle.trace_script.specs.ScriptTypes.{shown_command}
use Rattle.script_replay.specs.Value.{LaneValue}
use Rattle.script_replay.specs.Lanes.{IsReportedLane, HasLine}
use Rattle.script_replay.specs.LanesByCpu.{lane_at, IsLaneFrom}
use Rattle.script_replay.proofs.LanesByCpu.{lent_from, put_there, others_stay}
use Rattle.script_replay.proofs.Placed.{ring_within}
use Rattle.script_replay.proofs.LinesObeyed.{is_reported_lane, ring_leads}
use Rattle.script_replay.proofs.replaying.obey_ring.Goals as goal

pub obey-requires-clause-lane : goal.obey-requires-clause-lane
obey-requires-clause-lane g c =
    let script = c.args.script.now in
    let ready = c.requires.ready in
    let cpu = c.args.cpu.0 in
    let low : cpu < script.cpus =
    subst (λ (k : ℕ). k < script.cpus) c.requires.cpu
    (ring_within script.cpus script.collectors (shown_command c.args.command) ready.within) in
    let from =
    lent_from script c.make_lane.new.lanes.items cpu (lane_at c.args.state.now.lanes.items cpu)
    c.index_mut.result.now c.in-Some.lane
    c.in_ok-make_lane.ensures.room c.index_mut.ensures.value c.in-Some.is c.in_ok-make_lane.ensures.lane in
    subst (λ (k : ℕ). IsReportedLane k c.deref_mut.result.now c.args.state.now.reports) (sym c.requires.cpu)
    (subst (λ (v : LaneValue). IsReportedLane cpu v c.args.state.now.reports) (sym c.deref_mut.ensures.value)
    (is_reported_lane script ready.lines c.args.state.now ready.limits ready.part_way cpu
    c.in-Some.lane.value low from))

pub returns : goal.returns
returns g c =
    let script = c.args.script.now in
    let ready = c.requires.ready in
    let cpu = c.args.cpu.0 in
    let command = shown_command c.args.command in
    let lanes = c.make_lane.new.lanes.items in
    let low : cpu < script.cpus =
    subst (λ (k : ℕ). k < script.cpus) c.requires.cpu
    (ring_within script.cpus script.collectors command ready.within) in
    let from =
    subst (λ (v : LaneValue). IsLaneFrom script (lane_at c.args.state.now.lanes.items cpu) v)
    (sym c.deref_mut.ensures.value)
    (lent_from script lanes cpu (lane_at c.args.state.now.lanes.items cpu) c.index_mut.result.now c.in-Some.lane
    c.in_ok-make_lane.ensures.room c.index_mut.ensures.value c.in-Some.is c.in_ok-make_lane.ensures.lane) in
    on_ok_weaker c.obey.result
    (λ has. ring_leads script c.args.line cpu command c.args.state.now _ c.deref_mut.result.now c.obey.new.self
    c.requires.ring c.requires.cpu ready.limits low from
    (subst
    (λ (k : ℕ).
    HasLine command c.args.line k c.deref_mut.result.now c.args.state.now.reports c.obey.new.self
    c.obey.new.reports) c.requires.cpu has)
    (put_there lanes cpu (with_value c.in-Some.lane c.obey.new.self) c.in_ok-make_lane.ensures.room)
    (λ other apart.
    others_stay lanes cpu (with_value c.in-Some.lane c.obey.new.self) other apart
    ∙ c.in_ok-make_lane.ensures.rest other apart) refl)
    c.obey.ensures
