use Rattle.ring_model.proofs.links.SeenLinks.{frames_have_seen_links, claims_fail_once_the_head_moved}
use Rattle.ring_model.proofs.laws.seats.frames_have_seen_links.Goals as goal

pub returns : goal.returns
returns c = record { seen = frames_have_seen_links; claims = claims_fail_once_the_head_moved }
