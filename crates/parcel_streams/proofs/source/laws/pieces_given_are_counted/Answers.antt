use Rattle.parcel_streams.proofs.Given.{counts_none, counts_more}
use Rattle.parcel_streams.proofs.source.laws.pieces_given_are_counted.Goals as goal

pub returns-clause-none : goal.returns-clause-none
returns-clause-none c = counts_none

pub returns-clause-more : goal.returns-clause-more
returns-clause-more c = counts_more
