use Rattle.std.proofs.Common.{ap, ◌∙◌}
use Rattle.std.specs.Int.Bits.{bit_xor}
use Rattle.parcel_streams.specs.crc32c.Castagnoli.{all_ones, crc32c_after}
use Rattle.parcel_streams.proofs.Checksums.{crc32c_after-crc32c}
use Rattle.parcel_streams.proofs.crc32c.crc32c_after.Goals as goal

pub returns-clause-value : goal.returns-clause-value
unfolding crc32c_after
returns-clause-value c = ap (λ r. bit_xor r all_ones) c.remainder_after.ensures

pub returns-clause-appended : goal.returns-clause-appended
returns-clause-appended c front e =
    returns-clause-value c ∙ ap (λ sum. crc32c_after sum c.args.bytes.now) e
    ∙ crc32c_after-crc32c front c.args.bytes.now
