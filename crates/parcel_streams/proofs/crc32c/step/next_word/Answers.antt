use Rattle.std.proofs.Common.{ap, ap₂, ◌∙◌}
use Rattle.std.specs.Int.Bits.{bit_xor}
use Rattle.parcel_streams.specs.crc32c.Castagnoli.{next_bits}
use Rattle.parcel_streams.proofs.Bytes.{word_in}
use Rattle.parcel_streams.proofs.crc32c.step.next_word.Goals as goal

pub returns : goal.returns
returns c =
    c.left_by_word.ensures ∙ ap (next_bits 64) (ap₂ bit_xor c.from_le_bytes.ensures c.from.ensures)
    ∙ word_in c.args.remainder c.args.bytes.now c.fits-bytes c.told-bytes
