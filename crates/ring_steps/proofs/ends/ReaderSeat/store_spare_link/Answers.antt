use Rattle.std.specs.Prelude.{⊤}
use Rattle.ring_steps.proofs.Allowing.{reader_allows}
use Rattle.ring_steps.proofs.Taking.{store_moves}
use Rattle.ring_steps.proofs.TakeSteps.{stores}
use Rattle.ring_steps.proofs.ends.ReaderSeat.store_spare_link.Goals as goal

pub store-requires-clause-allowed : goal.store-requires-clause-allowed
store-requires-clause-allowed c = let is = c.args.self.now.is_reading in
    reader_allows c.args.self.now.shape _ _ _ _ _ _ is.view
    (λ core words homes s.
    store_moves c.args.self.now.shape _ is core words homes s _ _ c.args.spare _ _ c.requires.due c.requires.spare
    c.requires.given_back c.pack-new.ensures c.requires.link)

pub returns-clause-linked : goal.returns-clause-linked
returns-clause-linked c = let reported = c.store.ensures.reported.1 in
    stores c.args.self.now.shape _ _ (λ _. ⊤) reported.step.0 reported.step.1 _ c.requires.due c.requires.link
    reported.keeps_is
