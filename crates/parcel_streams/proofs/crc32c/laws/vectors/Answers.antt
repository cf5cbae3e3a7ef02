use Rattle.std.proofs.Common.{refl}
use Rattle.parcel_streams.specs.crc32c.Castagnoli.{next_bit, next_bits, next_byte, remainder_after, crc32c}
use Rattle.parcel_streams.proofs.crc32c.laws.vectors.Goals as goal

pub returns-clause-zeros : goal.returns-clause-zeros
unfolding next_bit next_bits next_byte remainder_after crc32c
returns-clause-zeros c = refl

pub returns-clause-ones : goal.returns-clause-ones
unfolding next_bit next_bits next_byte remainder_after crc32c
returns-clause-ones c = refl

pub returns-clause-rising : goal.returns-clause-rising
unfolding next_bit next_bits next_byte remainder_after crc32c
returns-clause-rising c = refl

pub returns-clause-falling : goal.returns-clause-falling
unfolding next_bit next_bits next_byte remainder_after crc32c
returns-clause-falling c = refl
