use Rattle.std.proofs.Common.{◌∙◌}
use Rattle.parcel_streams.proofs.Checksums.{crc32c_after-first}
use Rattle.parcel_streams.proofs.crc32c.crc32c.Goals as goal

pub returns : goal.returns
returns c = c.crc32c_after.ensures.value ∙ crc32c_after-first c.args.bytes.now
