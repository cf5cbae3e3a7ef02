use Rattle.fleet_collector.proofs.Telling.{listing_told}
use Rattle.fleet_collector.proofs.laws.a_listing_is_what_the_pieces_tell.Goals as goal

pub returns : goal.returns
returns c = listing_told
