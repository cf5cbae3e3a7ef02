use Rattle.std.proofs.Common.{refl}
use Rattle.parcel_streams.specs.crc32c.Castagnoli.{next_bit, next_bits, next_byte, remainder_after, crc32c}
use Rattle.parcel_streams.proofs.crc32c.laws.check_value.Goals as goal

pub returns-clause-digits : goal.returns-clause-digits
unfolding next_bit next_bits next_byte remainder_after crc32c
returns-clause-digits c = refl

pub returns-clause-empty : goal.returns-clause-empty
unfolding next_bit next_bits next_byte remainder_after crc32c
returns-clause-empty c = refl
