use Rattle.capture.proofs.StampedImages.{low-bits, next-time, high-bits, added-bits}
use Rattle.capture.proofs.stamps.laws.stamps_lead_to_the_next_time.Goals as goal

pub returns : goal.returns
returns c = record { low_bits = low-bits; next = next-time; high_bits = high-bits; added = added-bits }
