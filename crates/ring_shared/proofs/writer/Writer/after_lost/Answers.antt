use Rattle.std.proofs.Common.{refl, ◌∙◌, arith}
use Rattle.ring_shared.specs.Calls.{IsWriter}
use Rattle.ring_shared.proofs.Bounds.{pages_called, round_called}
use Rattle.ring_shared.proofs.writer.Writer.after_lost.Goals as goal

pub overflow_add-result : goal.overflow_add-result
unfolding IsWriter
overflow_add-result c =
    let (round, numbers) =
    round_called {v = c.args.self.now} refl c.requires.framed.writer c.requires.framed.top
    c.args.self.now.frames.phase c.args.noted refl c.requires.phase in
    omega arith

pub overflow_sub-result : goal.overflow_sub-result
unfolding IsWriter
overflow_sub-result c =
    let (round, numbers) =
    round_called {v = c.args.self.now} refl c.requires.framed.writer c.requires.framed.top
    c.args.self.now.frames.phase c.args.noted refl c.requires.phase in
    let pages = c.pages.ensures.pages ∙ pages_called c.self.view_is c.requires.framed.writer in
    omega arith

pub returns-clause-fill : goal.returns-clause-fill
unfolding IsWriter
returns-clause-fill c =
    let round = overflow_sub-result c in
    let pages = c.pages.ensures.pages ∙ pages_called c.self.view_is c.requires.framed.writer in
    omega arith

pub returns-clause-few : goal.returns-clause-few
unfolding IsWriter
returns-clause-few c =
    let pages = c.pages.ensures.pages ∙ pages_called c.self.view_is c.requires.framed.writer in
    let most = c.pages.ensures.most in
    omega arith
