use Rattle.ring_steps.proofs.Allowing.{reader_allows}
use Rattle.ring_steps.proofs.Taking.{load_done_moves}
use Rattle.ring_steps.proofs.TakeSteps.{finds_closed, finds_none}
use Rattle.ring_steps.proofs.ends.ReaderSeat.load_done.Goals as goal

pub load-requires-clause-allowed : goal.load-requires-clause-allowed
load-requires-clause-allowed c = let is = c.args.self.now.is_reading in
    reader_allows c.args.self.now.shape _ _ _ _ _ _ is.view
    (λ core words homes s. load_done_moves c.args.self.now.shape _ is core words homes s _ _ c.requires.due)

pub returns-clause-closed : goal.returns-clause-closed
returns-clause-closed c = let reported = c.load.ensures.reported.1 in
    λ below.
    finds_closed c.args.self.now.shape _ _ c.load.result reported.step.0 reported.step.1 _ _ c.requires.due
    reported.keeps_is below

pub returns-clause-none : goal.returns-clause-none
returns-clause-none c = let reported = c.load.ensures.reported.1 in
    λ le.
    (finds_none c.args.self.now.shape _ _ c.load.result reported.step.0 reported.step.1 _ _ c.requires.due
    reported.keeps_is le).0

pub returns-clause-all : goal.returns-clause-all
returns-clause-all c = let reported = c.load.ensures.reported.1 in
    λ le.
    (finds_none c.args.self.now.shape _ _ c.load.result reported.step.0 reported.step.1 _ _ c.requires.due
    reported.keeps_is le).1
