use Rattle.parcel_streams.proofs.Checksums.{crc32c_after-crc32c, crc32c_after-first}
use Rattle.parcel_streams.proofs.crc32c.laws.pieces_are_summed_in_turn.Goals as goal

pub returns-clause-first : goal.returns-clause-first
returns-clause-first c = crc32c_after-first

pub returns-clause-next : goal.returns-clause-next
returns-clause-next c = crc32c_after-crc32c
