use Rattle.ring_steps.proofs.Allowing.{reader_allows}
use Rattle.ring_steps.proofs.Taking.{gives_back}
use Rattle.ring_steps.proofs.ends.ReaderSeat.give_back_slot.Goals as goal

pub load-requires-clause-allowed : goal.load-requires-clause-allowed
load-requires-clause-allowed c = let is = c.args.self.now.is_reading in
    reader_allows c.args.self.now.shape _ _ _ _ _ _ is.view
    (λ core words homes s. gives_back c.args.self.now.shape _ is core words homes s _)
