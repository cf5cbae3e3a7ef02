use Rattle.std.proofs.Common.{◌≡◌, false, true, length, refl, sym, ◌∙◌}
use Rattle.trace_model.specs.Steps.{pushes}
use Rattle.trace_run.specs.declared.writers.writer.LineWriter.{LineWriter}
use Rattle.trace_run.proofs.PushedFrames.{record_answered, refused_push, pushed_push}
use Rattle.trace_run.proofs.writers.writer.LineWriter.push.Goals as goal

pub returns-then-not-is_pushed : goal.returns-then-not-is_pushed
returns-then-not-is_pushed c =
    let old : LineWriter = c.args.self.now in
    let event = pushes c.args.moment (length c.args.payload.now) in
    let makes = c.begin.ensures.makes in
    refused_push old c.requires c.begin.new.self event c.args.payload.now c.begin.result makes
    (record_answered old.writer.shape old.writer.part c.begin.result c.begin.new.self.part c.args.moment
    c.args.payload.now makes.call)
    (λ e. let truth : false ≡ true = sym c.if-not-is_pushed.true ∙ c.is_pushed.ensures.1 e in cc)

pub returns : goal.returns
returns c =
    let old : LineWriter = c.args.self.now in
    let event = pushes c.args.moment (length c.args.payload.now) in
    let makes = c.begin.ensures.makes in
    pushed_push old c.requires c.begin.new.self event c.args.payload.now c.begin.result makes
    (record_answered old.writer.shape old.writer.part c.begin.result c.begin.new.self.part c.args.moment
    c.args.payload.now makes.call)
    c.args.payload refl c.depth-depth.result c.depth-depth.ensures (c.is_pushed.ensures.0 c.if-not-is_pushed.false)
