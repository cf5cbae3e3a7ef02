use Rattle.std.proofs.Common.{sym, subst}
use Rattle.trace_model.specs.Ring.{fill_of}
use Rattle.nested_writer.specs.Stack.{Stack}
use Rattle.nested_writer.specs.Released.{IsRestingTail}
use Rattle.nested_writer.proofs.Releasing.{only_tail}
use Rattle.nested_writer.proofs.RestingTail.{tail_rests}
use Rattle.nested_writer.proofs.stack.WriterStack.resting_tail.Goals as goal

pub returns-clause-rests : goal.returns-clause-rests
returns-clause-rests c = λ start history k.
    let s = c.args.self.now in
    rw c.page.ensures
    (subst (λ (t : Stack). IsRestingTail s.size s.done (fill_of history start s.done) history t.tail)
    (sym c.self.view_is)
    (tail_rests start history s c.requires.none
    (only_tail c.self.inside s c.self.view_is c.self.invariant.at_rest c.requires.none) k))
