use Rattle.trace_model.proofs.collections.Listings.{one_listing, once, one_line}
use Rattle.trace_model.proofs.collections.ListingsMade.{some_listing}
use Rattle.trace_model.proofs.laws.collections.listings_are_one.Goals as goal

pub returns : goal.returns
returns c = record { one = one_listing; once = once; some = some_listing; one_line = one_line }
