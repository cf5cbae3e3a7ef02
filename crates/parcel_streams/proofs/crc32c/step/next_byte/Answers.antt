use Rattle.std.proofs.lemmas.Nat.{and_mask}
use Rattle.parcel_streams.proofs.Bytes.{next_byte-split}
use Rattle.parcel_streams.proofs.crc32c.step.next_byte.Goals as goal

pub returns : goal.returns
returns c = let low = and_mask c.args.remainder 8 in let split = next_byte-split c.args.remainder c.args.byte in cc
