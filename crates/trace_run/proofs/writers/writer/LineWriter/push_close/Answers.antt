use Rattle.std.proofs.Common.{◌≡◌, false, true, [], refl, sym, ◌∙◌}
use Rattle.trace_model.specs.Steps.{pushes_close}
use Rattle.trace_run.specs.declared.writers.writer.LineWriter.{LineWriter}
use Rattle.trace_run.proofs.PushedFrames.{close_answered, refused_push, pushed_push}
use Rattle.trace_run.proofs.writers.writer.LineWriter.push_close.Goals as goal

pub returns-then-not-is_pushed : goal.returns-then-not-is_pushed
returns-then-not-is_pushed c =
    let old : LineWriter = c.args.self.now in
    let makes = c.begin_close.ensures.makes in
    refused_push old c.requires c.begin_close.new.self pushes_close [] c.begin_close.result makes
    (close_answered old.writer.shape old.writer.part c.begin_close.result c.begin_close.new.self.part makes.call)
    (λ e. let truth : false ≡ true = sym c.if-not-is_pushed.true ∙ c.is_pushed.ensures.1 e in cc)

pub returns : goal.returns
returns c =
    let old : LineWriter = c.args.self.now in
    let makes = c.begin_close.ensures.makes in
    pushed_push old c.requires c.begin_close.new.self pushes_close [] c.begin_close.result makes
    (close_answered old.writer.shape old.writer.part c.begin_close.result c.begin_close.new.self.part makes.call)
    _ refl c.depth-depth.result c.depth-depth.ensures (c.is_pushed.ensures.0 c.if-not-is_pushed.false)
