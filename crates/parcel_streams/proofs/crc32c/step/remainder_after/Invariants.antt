use Rattle.std.proofs.Common.{◌≡◌, length, drop}
use Rattle.parcel_streams.specs.crc32c.Castagnoli.{remainder_after}
use Rattle.parcel_streams.proofs.crc32c.step.remainder_after.Given as goal

abbrev pub invariant-loop-word : goal.invariant-loop-word
invariant-loop-word l = remainder_after l.remainder l.rest ≡ remainder_after l.start l.bytes

abbrev pub decreases-loop-word : goal.decreases-loop-word
decreases-loop-word l = length l.rest

abbrev pub invariant-loop-byte : goal.invariant-loop-byte
invariant-loop-byte l = remainder_after l.remainder (drop l.byte-index l.byte-items) ≡ remainder_after l.start l.bytes
