use Rattle.ring_shared.proofs.CallsAppend.{calls_append, pushes_append, closes_append, ends_append, reservations_append}
use Rattle.ring_shared.proofs.CallsAppend.{numbers_again, refusals_append}
use Rattle.ring_shared.proofs.laws.calls_append.Goals as goal

pub returns : goal.returns
returns c =
    assumption
    (calls_append, pushes_append, closes_append, ends_append, reservations_append, numbers_again, refusals_append)
