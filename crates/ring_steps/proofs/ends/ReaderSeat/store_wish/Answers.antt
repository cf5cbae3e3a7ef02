use Rattle.ring_steps.proofs.Allowing.{reader_allows}
use Rattle.ring_steps.proofs.ReaderSteps.{wish_moves}
use Rattle.ring_steps.proofs.ends.ReaderSeat.store_wish.Goals as goal

pub store-requires-clause-allowed : goal.store-requires-clause-allowed
store-requires-clause-allowed c = let is = c.args.self.now.is_reading in
    reader_allows c.args.self.now.shape _ _ _ _ _ _ is.view
    (λ core words homes s. wish_moves c.args.self.now.shape _ is core words homes s c.args.fill.0 c.requires.due)
