-- The checksum CRC-32C (Castagnoli), by bits. RFC 3720, appendix B.4, and RFC 3385 describe it: bytes are a polynomial
-- over the numbers 0 and 1, and the sum is its remainder. In this reflected form the lowest bit of a remainder is the
-- first to go out, as the lowest bit of a byte is the first that comes in.
use Rattle.std.specs.Prelude.{ℕ, zero, suc, ◌/◌, ◌%◌, ◌==◌, bit_xor, if◌then◌else◌, List, [], ◌∷◌}

-- the polynomial 0x11edc6f41 without its highest term, its 32 bits in reverse order
abbrev pub polynomial : ℕ
polynomial = 0x82f63b78

-- 2^32 - 1, the remainder before the first byte; at the end it is added once more
abbrev pub all_ones : ℕ
all_ones = 0xffffffff

-- one bit goes out: the others shift right, and the polynomial is added if the bit was 1
unfoldable pub next_bit : ℕ → ℕ
next_bit remainder = if remainder % 2 == 1 then bit_xor (remainder / 2) polynomial else remainder / 2

-- this many bits go out
unfoldable pub next_bits : (count : ℕ) → ℕ → ℕ
next_bits zero remainder = remainder
next_bits (suc count) remainder = next_bits count (next_bit remainder)

-- a byte is added to the low bits, and eight bits go out
unfoldable pub next_byte : (remainder byte : ℕ) → ℕ
next_byte remainder byte = next_bits 8 (bit_xor remainder byte)

-- the remainder after these bytes, from the one before them
unfoldable pub remainder_after : ℕ → List ℕ → ℕ
remainder_after remainder [] = remainder
remainder_after remainder (byte ∷ bytes) = remainder_after (next_byte remainder byte) bytes

-- the sum of bytes
unfoldable pub crc32c : List ℕ → ℕ
crc32c bytes = bit_xor (remainder_after all_ones bytes) all_ones

-- the sum of bytes and of others before them, whose sum is given
unfoldable pub crc32c_after : (sum : ℕ) → List ℕ → ℕ
crc32c_after sum bytes = bit_xor (remainder_after (bit_xor sum all_ones) bytes) all_ones
