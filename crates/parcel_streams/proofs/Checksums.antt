-- What holds of sums: pieces that are summed in turn, and how large a sum is.
use Rattle.std.proofs.Common.{◌≡◌, ℕ, zero, suc, ◌*◌, ◌/◌, ◌%◌, ◌^◌, ◌<◌, List, [], ◌∷◌, ◌++◌, refl, sym, ap, ◌∙◌}
use Rattle.std.proofs.Common.{subst, arith}
use Rattle.std.specs.Int.Bits.{bit_xor, xor_assoc, xor_self, xor_zero_r}
use Rattle.std.proofs.lemmas.Nat.{xor_lt}
use Rattle.parcel_streams.specs.crc32c.Castagnoli.{polynomial, all_ones, next_bit, next_bits, next_byte}
use Rattle.parcel_streams.specs.crc32c.Castagnoli.{remainder_after, crc32c}
use Rattle.parcel_streams.specs.crc32c.Castagnoli.{crc32c_after}
use Rattle.parcel_streams.specs.crc32c.Changes.{AreBytes}
use Rattle.parcel_streams.proofs.Bits.{next_bit-sum}
use Rattle.parcel_streams.proofs.Bytes.{AreBytes-tail, remainder_after-append}

pub xor_twice : (a b : ℕ) → bit_xor (bit_xor a b) b ≡ a
xor_twice a b = xor_assoc a b b ∙ ap (bit_xor a) (xor_self b) ∙ xor_zero_r a

-- ---- pieces

pub crc32c_after-crc32c : (front back : List ℕ) → crc32c_after (crc32c front) back ≡ crc32c (front ++ back)
unfolding crc32c crc32c_after
crc32c_after-crc32c front back =
    ap (λ r. bit_xor (remainder_after r back) all_ones) (xor_twice (remainder_after all_ones front) all_ones)
    ∙ ap (λ r. bit_xor r all_ones) (sym (remainder_after-append all_ones front back))

pub crc32c_after-first : (bytes : List ℕ) → crc32c_after 0 bytes ≡ crc32c bytes
unfolding crc32c crc32c_after
crc32c_after-first bytes = refl

-- two sums are equal only where the remainders are
pub crc32c-remainders : (a b : List ℕ) → crc32c a ≡ crc32c b → remainder_after all_ones a ≡ remainder_after all_ones b
unfolding crc32c
crc32c-remainders a b e =
    sym (xor_twice (remainder_after all_ones a) all_ones) ∙ ap (λ s. bit_xor s all_ones) e
    ∙ xor_twice (remainder_after all_ones b) all_ones

-- ---- 32 bits

pub next_bit-lt : (r : ℕ) → r < 2 ^ 32 → next_bit r < 2 ^ 32
next_bit-lt r p =
    let added : r % 2 * polynomial < 2 ^ 32 = omega arith in
    let half : r / 2 < 2 ^ 32 = omega arith in
    let P : ℕ → Type 0 = λ x. x < 2 ^ 32 in
    subst P (sym (next_bit-sum r)) (xor_lt 32 (r / 2) (r % 2 * polynomial) half added)

next_bits-lt : (n r : ℕ) → r < 2 ^ 32 → next_bits n r < 2 ^ 32
unfolding next_bits
next_bits-lt zero r p = p
next_bits-lt (suc n) r p = next_bits-lt n (next_bit r) (next_bit-lt r p)

remainder_after-lt : (r : ℕ) (bytes : List ℕ) → r < 2 ^ 32 → AreBytes bytes → remainder_after r bytes < 2 ^ 32
unfolding remainder_after next_byte
remainder_after-lt r [] p all = p
remainder_after-lt r (b ∷ bytes) p all =
    let byte : b < 256 = all 0 in
    let fits : b < 2 ^ 32 = omega arith in
    remainder_after-lt (next_bits 8 (bit_xor r b)) bytes (next_bits-lt 8 (bit_xor r b) (xor_lt 32 r b p fits))
    (AreBytes-tail b bytes all)

pub crc32c-lt : (bytes : List ℕ) → AreBytes bytes → crc32c bytes < 2 ^ 32
unfolding crc32c
crc32c-lt bytes all =
    let remainder = remainder_after-lt all_ones bytes (omega arith) all in
    xor_lt 32 (remainder_after all_ones bytes) all_ones remainder (omega arith)
