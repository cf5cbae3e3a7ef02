use Rattle.parcel_streams.proofs.Checksums.{crc32c-lt}
use Rattle.parcel_streams.proofs.crc32c.laws.a_sum_has_32_bits.Goals as goal

pub returns : goal.returns
returns c = crc32c-lt
