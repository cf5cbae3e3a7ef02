use Rattle.std.proofs.Common.{◌≡◌, ◌≢◌, List, [], ◌∷◌, length, refl, sym, ap, ◌∙◌}
use Rattle.std.proofs.lemmas.Result.{on_ok_weaker}
use Rattle.trace_model.specs.Frames as model
use Rattle.world_model.specs.Lanes.{event_on_top}
use Rattle.nested_writer.specs.declared.frame.Frame.{Frame}
use Rattle.script_replay.specs.Value.{LaneValue}
use Rattle.nested_writer.specs.declared.fault.WriteFault.TheVariants.{NoFrame}
use Rattle.ring_frames.specs.declared.answer.Answer.TheVariants.{Refused}
use Rattle.script_replay.proofs.FrameRuns.{stepped_on, lacks_step}
use Rattle.script_replay.proofs.lane.Lane.step.Goals as goal

pub returns-then-depth-eq0 : goal.returns-then-depth-eq0
returns-then-depth-eq0 g c =
    let none : length c.args.self.now.core.stack.frames
    ≡ 0 = ap (λ (v : LaneValue). length v.core.stack.frames) (sym c.self.view_is) ∙ sym c.depth.ensures
    ∙ c.if-depth-eq0.true in
    on_ok_weaker c.report.result
    (λ reported n size start lane is knows.
    lacks_step n size start c.args.at.cpu.0 c.args.at.line c.args.count c.args.self.now lane _ (Refused NoFrame)
    c.args.reports.now c.report.new.self is knows none
    (λ core empty. sym (ap (λ (fs : List model.Frame). event_on_top fs ([] ∷ [])) empty)) refl
    c.self.inside.core (ap (λ (v : LaneValue). v.core) c.self.view_is) reported)
    c.report.ensures

pub returns : goal.returns
returns g c =
    let some : c.args.self.now.core.stack.frames ≢ [] =
    λ none. c.if-depth-eq0.false
    (c.depth.ensures ∙ ap (λ (v : LaneValue). length v.core.stack.frames) c.self.view_is
    ∙ ap (λ (l : List Frame). length l) none) in
    on_ok_weaker c.follow.result
    (λ has n size start lane is knows.
    stepped_on n size start c.args.at.cpu.0 c.args.at.line c.args.count c.args.self.now c.follow.new.self lane
    c.args.reports.now c.follow.new.reports is some (has n size start lane is knows))
    c.follow.ensures
