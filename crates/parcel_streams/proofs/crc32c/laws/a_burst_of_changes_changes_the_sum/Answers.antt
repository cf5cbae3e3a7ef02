use Rattle.parcel_streams.proofs.Changes.{bits_differ, between_differ}
use Rattle.parcel_streams.proofs.crc32c.laws.a_burst_of_changes_changes_the_sum.Goals as goal

pub returns-clause-bits : goal.returns-clause-bits
returns-clause-bits c = bits_differ

pub returns-clause-bytes : goal.returns-clause-bytes
returns-clause-bytes c = between_differ
