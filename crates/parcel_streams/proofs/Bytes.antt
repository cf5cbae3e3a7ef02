-- Bytes that come in one after another, as one number that goes out.
use Rattle.std.proofs.Common.{◌≡◌, ℕ, zero, suc, ◌+◌, ◌*◌, ◌/◌, ◌%◌, ◌^◌, ◌<◌, ◌≤◌, List, [], ◌∷◌, ◌++◌, length, get_or}
use Rattle.std.proofs.Common.{take, drop, refl, sym, ap, ap₂, ◌∙◌, add-one, arith}
use Rattle.std.specs.Int.{w64, byte_at, bytes_low_first, from_le_bytes, to_le_bytes}
use Rattle.std.specs.Int.Bits.{bit_xor, xor_assoc, xor_zero_r, xor_shifted}
use Rattle.std.proofs.lemmas.Nat.{xor_comm, from_le_bytes-to_le_bytes_8}
use Rattle.std.proofs.lemmas.List.{drop_all, take-append-drop}
use Rattle.std.proofs.Math.Seq.{drop-cons}
use Rattle.parcel_streams.specs.crc32c.Castagnoli.{next_bits, next_byte, remainder_after}
use Rattle.parcel_streams.specs.crc32c.Changes.{AreBytes, number_of}
use Rattle.parcel_streams.proofs.Bits.{next_bits-xor, next_bits-add, next_bits-shifted, next_bits-none}

-- ---- pieces, one after another

pub remainder_after-append : (r : ℕ) (front back : List ℕ)
    → remainder_after r (front ++ back) ≡ remainder_after (remainder_after r front) back
unfolding remainder_after
remainder_after-append r [] back = refl
remainder_after-append r (b ∷ front) back = remainder_after-append (next_byte r b) front back

pub remainder_after-split : (r k : ℕ) (bytes : List ℕ)
    → remainder_after (remainder_after r (take k bytes)) (drop k bytes) ≡ remainder_after r bytes
remainder_after-split r k bytes =
    sym (remainder_after-append r (take k bytes) (drop k bytes)) ∙ ap (remainder_after r) (take-append-drop k bytes)

pub remainder_after-more : (r i : ℕ) (bytes : List ℕ) → i < length bytes
    → remainder_after r (drop i bytes) ≡ remainder_after (next_byte r (get_or bytes i 0)) (drop (i + 1) bytes)
unfolding remainder_after
remainder_after-more r i bytes p = rw (add-one, drop-cons bytes i 0 p) refl

pub remainder_after-end : (r i : ℕ) (bytes : List ℕ) → length bytes ≤ i → remainder_after r (drop i bytes) ≡ r
unfolding remainder_after
remainder_after-end r i bytes p = rw (drop_all i bytes p) refl

-- ---- bytes as one number

-- a byte and what is above it
xor_above : (high low : ℕ) → low < 256 → bit_xor low (high * 256) ≡ high * 256 + low
xor_above high low p = xor_comm low (high * 256) ∙ xor_shifted high 8 low p

high_out : (n high low : ℕ) → low < 256
    → next_bits (n + 8) (high * 256 + low) ≡ bit_xor (next_bits n high) (next_bits (n + 8) low)
high_out n high low p =
    let turned : n + 8 ≡ 8 + n = omega arith in
    let out : next_bits (n + 8) (high * 256) ≡ next_bits n high =
    ap (λ k. next_bits k (high * 256)) turned ∙ next_bits-add 8 n (high * 256)
    ∙ ap (next_bits n) (next_bits-shifted 8 high) in
    ap (next_bits (n + 8)) (sym (xor_shifted high 8 low p)) ∙ next_bits-xor (n + 8) (high * 256) low
    ∙ ap (λ x. bit_xor x (next_bits (n + 8) low)) out

-- a byte comes in at the low end alone
pub next_byte-split : (r b : ℕ) → next_byte r b ≡ bit_xor (r / 256) (next_bits 8 (bit_xor (r % 256) b))
unfolding next_byte
next_byte-split r b =
    let low : r % 256 < 256 = omega arith in
    let parts : r ≡ bit_xor (r / 256 * 256) (r % 256) = sym (xor_shifted (r / 256) 8 (r % 256) low ∙ omega arith) in
    ap (λ x. next_bits 8 (bit_xor x b)) parts
    ∙ ap (next_bits 8) (xor_assoc (r / 256 * 256) (r % 256) b)
    ∙ next_bits-xor 8 (r / 256 * 256) (bit_xor (r % 256) b)
    ∙ ap (λ x. bit_xor x (next_bits 8 (bit_xor (r % 256) b))) (next_bits-shifted 8 (r / 256))

pub AreBytes-tail : (b : ℕ) (bytes : List ℕ) → AreBytes (b ∷ bytes) → AreBytes bytes
AreBytes-tail b bytes all i = all (suc i)

-- bytes that come in leave what their number leaves, added to the remainder before them
pub remainder_after-number : (r : ℕ) (bytes : List ℕ) → AreBytes bytes
    → remainder_after r bytes ≡ next_bits (length bytes * 8) (bit_xor r (number_of bytes))
unfolding remainder_after next_bits next_byte
remainder_after-number r [] all = sym (xor_zero_r r)
remainder_after-number r (b ∷ bytes) all =
    let n = length bytes * 8 in let N = number_of bytes in
    let eight : 8 + length bytes * 8 ≡ suc (length bytes) * 8 = omega arith in
    let ih : remainder_after (next_bits 8 (bit_xor r b)) bytes ≡ next_bits n (bit_xor (next_bits 8 (bit_xor r b)) N) =
    remainder_after-number (next_bits 8 (bit_xor r b)) bytes (AreBytes-tail b bytes all) in
    ih ∙ ap (λ x. next_bits n (bit_xor (next_bits 8 (bit_xor r b)) x)) (sym (next_bits-shifted 8 N))
    ∙ ap (next_bits n) (sym (next_bits-xor 8 (bit_xor r b) (N * 256)))
    ∙ sym (next_bits-add 8 n (bit_xor (bit_xor r b) (N * 256)))
    ∙ ap₂ next_bits eight (xor_assoc r b (N * 256) ∙ ap (bit_xor r) (xor_above N b (all 0)))

-- what bytes leave, each with the others after it; the last of them first
abbrev pub left_by : List ℕ → ℕ
left_by [] = 0
left_by (b ∷ bytes) = bit_xor (left_by bytes) (next_bits (length bytes * 8 + 8) b)

number_out : (bytes : List ℕ) → AreBytes bytes → next_bits (length bytes * 8) (number_of bytes) ≡ left_by bytes
number_out [] all = next_bits-none 0
number_out (b ∷ bytes) all =
    let eight : suc (length bytes) * 8 ≡ length bytes * 8 + 8 = omega arith in
    let rest = number_out bytes (AreBytes-tail b bytes all) in
    ap (λ k. next_bits k (number_of bytes * 256 + b)) eight ∙ high_out (length bytes * 8) (number_of bytes) b (all 0)
    ∙ ap (λ left. bit_xor left (next_bits (length bytes * 8 + 8) b)) rest

-- ---- eight bytes

byte_at-small : (i n : ℕ) → byte_at i n < 256
byte_at-small zero n = omega arith
byte_at-small (suc i) n = omega arith

bytes_low_first-small : (i k n : ℕ) → AreBytes (bytes_low_first i k n)
bytes_low_first-small i zero n j = omega arith
bytes_low_first-small i (suc k) n zero = byte_at-small i n
bytes_low_first-small i (suc k) n (suc j) = bytes_low_first-small (suc i) k n j

number_of-to_le_bytes : (word : ℕ) → word < 2 ^ 64 → number_of (to_le_bytes w64 word) ≡ word
number_of-to_le_bytes word p =
    let e : from_le_bytes w64 (to_le_bytes w64 word) ≡ word = from_le_bytes-to_le_bytes_8 word p in
    omega arith

pub word_out : (word : ℕ) → word < 2 ^ 64 → next_bits 64 word ≡ left_by (to_le_bytes w64 word)
word_out word p =
    ap (next_bits 64) (sym (number_of-to_le_bytes word p))
    ∙ number_out (to_le_bytes w64 word) (bytes_low_first-small 0 8 word)

number_of-drop : (bytes : List ℕ) (k : ℕ) → k < length bytes
    → number_of (drop k bytes) ≡ number_of (drop (suc k) bytes) * 256 + get_or bytes k 0
number_of-drop bytes k p = ap number_of (drop-cons bytes k 0 p)

number_of-from_le_bytes : (bytes : List ℕ) → length bytes ≡ 8 → from_le_bytes w64 bytes ≡ number_of bytes
number_of-from_le_bytes bytes eight =
    let b0 = number_of-drop bytes 0 (omega arith) in
    let b1 = number_of-drop bytes 1 (omega arith) in
    let b2 = number_of-drop bytes 2 (omega arith) in
    let b3 = number_of-drop bytes 3 (omega arith) in
    let b4 = number_of-drop bytes 4 (omega arith) in
    let b5 = number_of-drop bytes 5 (omega arith) in
    let b6 = number_of-drop bytes 6 (omega arith) in
    let b7 = number_of-drop bytes 7 (omega arith) in
    let end : number_of (drop 8 bytes) ≡ 0 = ap number_of (drop_all 8 bytes (omega arith)) in
    omega arith

pub word_in : (r : ℕ) (bytes : List ℕ) → AreBytes bytes → length bytes ≡ 8
    → next_bits 64 (bit_xor (from_le_bytes w64 bytes) r) ≡ remainder_after r bytes
word_in r bytes all eight =
    ap (next_bits 64) (ap (λ x. bit_xor x r) (number_of-from_le_bytes bytes eight) ∙ xor_comm (number_of bytes) r)
    ∙ ap (λ k. next_bits (k * 8) (bit_xor r (number_of bytes))) (sym eight)
    ∙ sym (remainder_after-number r bytes all)
