use Rattle.ring_model.proofs.steps.CountMoves.{losses_need_a_full_ring, closes_need_no_frame}
use Rattle.ring_model.proofs.laws.windows.fills_are_lost_in_a_full_ring.Goals as goal

pub returns : goal.returns
returns c = record { losses = losses_need_a_full_ring; closes = closes_need_no_frame }
