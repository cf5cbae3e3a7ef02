use Rattle.std.proofs.Common.{sym, subst}
use Rattle.trace_model.specs.Ring.{fill_of}
use Rattle.trace_model.proofs.histories.NextEvent.{settled_at_rest}
use Rattle.nested_writer.specs.Stack.{Stack}
use Rattle.nested_writer.specs.IsStack.{IsReachedStack}
use Rattle.nested_writer.specs.Released.{IsWrittenPage, AreCommitted}
use Rattle.nested_writer.proofs.Releasing.{only_tail, all_left, tail_written, tail_committed}
use Rattle.nested_writer.proofs.stack.WriterStack.into_tail.Goals as goal

pub returns-clause-written : goal.returns-clause-written
returns-clause-written c = λ start history k.
    rw c.into_page.ensures
    (subst
    (λ (s : Stack).
    IsWrittenPage c.args.self.size c.args.self.done (fill_of history start c.args.self.done) s.tail)
    (sym c.self.view_is)
    (tail_written start history c.args.self c.requires.none
    (only_tail c.self.inside c.args.self c.self.view_is c.self.invariant.at_rest c.requires.none) k))

pub returns-clause-committed : goal.returns-clause-committed
returns-clause-committed c = λ start history k.
    rw c.into_page.ensures (subst (λ (s : Stack). AreCommitted history s.tail) (sym c.self.view_is)
    (tail_committed start history c.args.self c.requires.none
    (only_tail c.self.inside c.args.self c.self.view_is c.self.invariant.at_rest c.requires.none) k))

pub returns-clause-settled : goal.returns-clause-settled
returns-clause-settled c =
    λ start history k. settled_at_rest history (all_left start history c.args.self c.requires.none k)

pub returns-clause-page : goal.returns-clause-page
unfolding IsReachedStack
returns-clause-page c = λ stands. let (start, history, k) = stands in
    (returns-clause-written c start history k).page_reads

pub returns-clause-size : goal.returns-clause-size
unfolding IsReachedStack
returns-clause-size c = λ stands. let (start, history, k) = stands in (returns-clause-written c start history k).size_is
