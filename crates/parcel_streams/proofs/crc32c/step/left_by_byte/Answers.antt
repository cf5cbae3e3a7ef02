use Rattle.std.proofs.Common.{arith}
use Rattle.parcel_streams.proofs.Entries.{table_entry}
use Rattle.parcel_streams.proofs.crc32c.step.left_by_byte.Goals as goal

pub returns : goal.returns
returns c = table_entry c.args.behind c.args.byte (omega arith) (omega arith)
