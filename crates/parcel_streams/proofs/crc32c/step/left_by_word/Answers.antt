use Rattle.std.proofs.Common.{sym, ◌≡◌}
use Rattle.std.specs.Int.{w64, to_le_bytes}
use Rattle.parcel_streams.proofs.Bytes.{word_out}
use Rattle.parcel_streams.proofs.crc32c.step.left_by_word.Goals as goal

pub returns : goal.returns
returns c =
    let bytes : c.to_le_bytes-bytes.result ≡ to_le_bytes w64 c.args.word = c.to_le_bytes-bytes.ensures in
    rw (c.left_by_byte.ensures, c.left_by_byte-2.ensures, c.left_by_byte-3.ensures, c.left_by_byte-4.ensures)
    (rw (c.left_by_byte-5.ensures, c.left_by_byte-6.ensures, c.left_by_byte-7.ensures, c.left_by_byte-8.ensures)
    (rw bytes (sym (word_out c.args.word c.ranges.word.fits))))
