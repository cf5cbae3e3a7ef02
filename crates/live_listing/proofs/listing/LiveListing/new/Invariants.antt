use Rattle.live_listing.proofs.Cpus.{AreNew}
use Rattle.live_listing.proofs.listing.LiveListing.new.Given as goal

abbrev pub invariant-loop-cpu : goal.invariant-loop-cpu
invariant-loop-cpu l = AreNew l.cpu l.cpus.items
