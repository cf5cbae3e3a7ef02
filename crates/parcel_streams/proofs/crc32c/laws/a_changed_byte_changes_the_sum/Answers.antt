use Rattle.parcel_streams.proofs.Changes.{byte_differs, index_differs}
use Rattle.parcel_streams.proofs.crc32c.laws.a_changed_byte_changes_the_sum.Goals as goal

pub returns-clause-in_place : goal.returns-clause-in_place
returns-clause-in_place c = byte_differs

pub returns-clause-by_index : goal.returns-clause-by_index
returns-clause-by_index c = index_differs
