-- Which changes the sum shows: the highest bit of the polynomial is 1, so that no bit that goes out is lost.
use Rattle.std.proofs.Common.{◌≡◌, ◌≢◌, ℕ, zero, suc, ◌+◌, ◌*◌, ◌/◌, ◌%◌, ◌^◌, ◌<◌, ◌≤◌, ◌-◌, inl, inr, List, [], ◌∷◌}
use Rattle.std.proofs.Common.{◌++◌, length, get_or, take, drop, set, refl, sym, ap, ap₂, ◌∙◌, zero-mul, lt_of_lt_of_le}
use Rattle.std.proofs.Common.{arith}
use Rattle.std.specs.Int.Bits.{bit_xor, xor_self, xor_zero_r}
use Rattle.std.proofs.lemmas.Nat.{xor_lt, pow-add}
use Rattle.std.proofs.lemmas.Bool.{cases_eq, cases_lt}
use Rattle.std.proofs.lemmas.Grind.{same_number_lists}
use Rattle.std.proofs.lemmas.List.{take-append-drop, take-set, drop-set-lt, length-set, get_or_past, get_or-set_same}
use Rattle.std.proofs.lemmas.List.{get_or-set_other}
use Rattle.std.proofs.Math.Seq.{drop-cons}
use Rattle.std.proofs.Math.Nat.{pow-le-pow_right}
use Rattle.parcel_streams.specs.crc32c.Castagnoli.{polynomial, all_ones, next_bit, next_bits, next_byte}
use Rattle.parcel_streams.specs.crc32c.Castagnoli.{remainder_after, crc32c}
use Rattle.parcel_streams.specs.crc32c.Changes.{AreBytes, DifferAt, DifferWithin, DifferInBits, number_of}
use Rattle.parcel_streams.proofs.Bits.{xor_four, next_bit-sum, next_bits-xor, next_bits-add, next_bits-shifted}
use Rattle.parcel_streams.proofs.Bytes.{AreBytes-tail, remainder_after-append, remainder_after-number}
use Rattle.parcel_streams.proofs.Checksums.{xor_twice, crc32c-remainders, next_bit-lt}

xor_none : (a b : ℕ) → bit_xor a b ≡ 0 → a ≡ b
xor_none a b e = sym (xor_twice a b) ∙ ap (λ x. bit_xor x b) e

xor_same : {a b : ℕ} → a ≡ b → bit_xor a b ≡ 0
xor_same {a} {b} e = ap (λ x. bit_xor x b) e ∙ xor_self b

next_bit-none : (r : ℕ) → r < 2 ^ 32 → next_bit r ≡ 0 → r ≡ 0
next_bit-none r p e =
    let same : r / 2 ≡ r % 2 * polynomial = xor_none (r / 2) (r % 2 * polynomial) (sym (next_bit-sum r) ∙ e) in
    omega arith

next_bits-lost : (n r : ℕ) → r < 2 ^ 32 → next_bits n r ≡ 0 → r ≡ 0
unfolding next_bits
next_bits-lost zero r p e = e
next_bits-lost (suc n) r p e = next_bit-none r p (next_bits-lost n (next_bit r) (next_bit-lt r p) e)

-- remainders that differ before the same bytes, and those after bytes that differ
remainder_after-xor : (r s : ℕ) (bytes : List ℕ)
    → bit_xor (remainder_after r bytes) (remainder_after s bytes) ≡ next_bits (length bytes * 8) (bit_xor r s)
unfolding remainder_after next_byte next_bits
remainder_after-xor r s [] = refl
remainder_after-xor r s (b ∷ bytes) =
    let eight : 8 + length bytes * 8 ≡ suc (length bytes) * 8 = omega arith in
    remainder_after-xor (next_bits 8 (bit_xor r b)) (next_bits 8 (bit_xor s b)) bytes
    ∙ ap (next_bits (length bytes * 8)) (sym (next_bits-xor 8 (bit_xor r b) (bit_xor s b)))
    ∙ sym (next_bits-add 8 (length bytes * 8) (bit_xor (bit_xor r b) (bit_xor s b)))
    ∙ ap₂ next_bits eight (xor_four r b s b ∙ ap (bit_xor (bit_xor r s)) (xor_self b) ∙ xor_zero_r (bit_xor r s))

number_xor : (r : ℕ) (was is : List ℕ) → AreBytes was → AreBytes is → length was ≡ length is
    → bit_xor (remainder_after r was) (remainder_after r is)
    ≡ next_bits (length was * 8) (bit_xor (number_of was) (number_of is))
number_xor r was is p q same =
    ap₂ bit_xor (remainder_after-number r was p)
    (remainder_after-number r is q ∙ ap (λ n. next_bits (n * 8) (bit_xor r (number_of is))) (sym same))
    ∙ sym (next_bits-xor (length was * 8) (bit_xor r (number_of was)) (bit_xor r (number_of is)))
    ∙ ap (next_bits (length was * 8)) (xor_four r (number_of was) r (number_of is))
    ∙ ap (λ x. next_bits (length was * 8) (bit_xor x (bit_xor (number_of was) (number_of is)))) (xor_self r)

number_of-lt : (bytes : List ℕ) → AreBytes bytes → number_of bytes < 2 ^ (length bytes * 8)
number_of-lt [] all = omega arith
number_of-lt (b ∷ bytes) all =
    let byte : b < 256 = all 0 in
    let rest = number_of-lt bytes (AreBytes-tail b bytes all) in
    let eight : suc (length bytes) * 8 ≡ length bytes * 8 + 8 = omega arith in
    let power : 2 ^ (suc (length bytes) * 8) ≡ 2 ^ (length bytes * 8) * 2 ^ 8 =
    ap (λ n. 2 ^ n) eight ∙ pow-add 2 (length bytes * 8) 8 in
    omega arith

number_of-below : (n : ℕ) (bytes : List ℕ) → AreBytes bytes → length bytes ≡ n → n ≤ 4 → number_of bytes < 2 ^ 32
number_of-below n bytes all same short =
    let bits : length bytes * 8 ≤ 32 = omega arith in
    let word : 2 ^ (length bytes * 8) ≤ 2 ^ 32 = pow-le-pow_right {n = 2} (omega arith) bits in
    lt_of_lt_of_le (number_of-lt bytes all) word

number_of-same : (was is : List ℕ) → AreBytes was → AreBytes is → length was ≡ length is
    → number_of was ≡ number_of is → was ≡ is
number_of-same [] [] p q same e = refl
number_of-same [] (c ∷ is) p q same e = absurd (omega arith)
number_of-same (b ∷ was) [] p q same e = absurd (omega arith)
number_of-same (b ∷ was) (c ∷ is) p q same e =
    let low : b < 256 = p 0 in
    let other : c < 256 = q 0 in
    let byte : b ≡ c = omega arith in
    let above : number_of was ≡ number_of is = omega arith in
    let shorter : length was ≡ length is = omega arith in
    ap₂ (λ x xs. x ∷ xs) byte (number_of-same was is (AreBytes-tail b was p) (AreBytes-tail c is q) shorter above)

bytes_same : (was is : List ℕ) → AreBytes was → AreBytes is → length was ≡ length is
    → bit_xor (number_of was) (number_of is) ≡ 0 → was ≡ is
bytes_same was is p q same none = number_of-same was is p q same (xor_none (number_of was) (number_of is) none)

-- the sums of lists with equal ends are equal only where the parts between them are
between_same : (front back was is : List ℕ) → AreBytes was → AreBytes is → length was ≡ length is → length was ≤ 4
    → crc32c (front ++ (was ++ back)) ≡ crc32c (front ++ (is ++ back)) → was ≡ is
between_same front back was is p q same short e =
    let r = remainder_after all_ones front in
    let n = length was * 8 in
    let m = length back * 8 in
    let d = bit_xor (number_of was) (number_of is) in
    let parts = λ (xs : List ℕ).
    remainder_after-append all_ones front (xs ++ back) ∙ remainder_after-append r xs back in
    let ends : remainder_after (remainder_after r was) back ≡ remainder_after (remainder_after r is) back =
    sym (parts was) ∙ crc32c-remainders (front ++ (was ++ back)) (front ++ (is ++ back)) e ∙ parts is in
    let out : next_bits (n + m) d ≡ 0 =
    next_bits-add n m d ∙ ap (next_bits m) (sym (number_xor r was is p q same))
    ∙ sym (remainder_after-xor (remainder_after r was) (remainder_after r is) back) ∙ xor_same ends in
    let was_lt : number_of was < 2 ^ 32 = number_of-below (length was) was p refl short in
    let is_lt : number_of is < 2 ^ 32 = number_of-below (length was) is q (sym same) short in
    let word = xor_lt 32 (number_of was) (number_of is) was_lt is_lt in
    bytes_same was is p q same (next_bits-lost (n + m) d word out)

pub between_differ : (front back was is : List ℕ) → DifferWithin 4 was is
    → crc32c (front ++ (was ++ back)) ≢ crc32c (front ++ (is ++ back))
between_differ front back was is h e =
    h.changed (between_same front back was is h.was_bytes h.is_bytes h.same_length h.short e)

-- ---- one byte

one_byte : (b : ℕ) → b < 256 → AreBytes (b ∷ [])
one_byte b p zero = p
one_byte b p (suc i) = omega arith

pub byte_differs : (front back : List ℕ) (was is : ℕ) → was < 256 → is < 256 → was ≢ is
    → crc32c (front ++ was ∷ back) ≢ crc32c (front ++ is ∷ back)
byte_differs front back was is p q ne e =
    ne (ap (λ bytes. get_or bytes 0 0)
    (between_same front back (was ∷ []) (is ∷ []) (one_byte was p) (one_byte is q) refl (omega arith) e))

-- a list before and after one of its elements
around : (bytes : List ℕ) (at : ℕ) → at < length bytes
    → take at bytes ++ get_or bytes at 0 ∷ drop (suc at) bytes ≡ bytes
around bytes at p = ap (λ rest. take at bytes ++ rest) (sym (drop-cons bytes at 0 p)) ∙ take-append-drop at bytes

changed_within : (was is : List ℕ) (at : ℕ) → DifferAt was is at → at < length was
changed_within was is at h = elim (cases_lt at (length was)) [
  | inl lt ↦ lt
  | inr le ↦
      let past : length is ≤ at = omega (arith, h.same_length) in
      absurd (h.changed (get_or_past was at 0 le ∙ sym (get_or_past is at 0 past)))
]

-- the changed list is the other with one element set
is_set : (was is : List ℕ) (at : ℕ) → at < length was → DifferAt was is at → is ≡ set was at (get_or is at 0)
is_set was is at p h =
    same_number_lists is (set was at (get_or is at 0)) (sym h.same_length ∙ sym (length-set was at (get_or is at 0)))
    (λ k lt. elim (cases_eq k at) [
      | inl e ↦ rw e (sym (get_or-set_same was at (get_or is at 0) 0 p))
      | inr ne ↦ sym (h.kept k ne) ∙ sym (get_or-set_other was at k (get_or is at 0) 0 ne)
    ])

pub index_differs : (was is : List ℕ) (at : ℕ) → DifferAt was is at → crc32c was ≢ crc32c is
index_differs was is at h e =
    let lt = changed_within was is at h in
    let inside : at < length is = omega (arith, h.same_length) in
    let changed = is_set was is at lt h in
    let front : take at is ≡ take at was = ap (take at) changed ∙ take-set was at (get_or is at 0) in
    let back : drop (suc at) is ≡ drop (suc at) was =
    ap (drop (suc at)) changed ∙ drop-set-lt (suc at) was at (get_or is at 0) (omega arith) in
    let other : is ≡ take at was ++ get_or is at 0 ∷ drop (suc at) was =
    sym (around is at inside) ∙ ap₂ (λ f b. f ++ get_or is at 0 ∷ b) front back in
    byte_differs (take at was) (drop (suc at) was) (get_or was at 0) (get_or is at 0)
    (h.was_bytes at) (h.is_bytes at) h.changed
    (ap crc32c (around was at lt) ∙ e ∙ ap crc32c other)

-- ---- neighbouring bits

-- a burst within n bits that go out leaves nothing only where it is nothing
burst_lost : (n burst first : ℕ) → burst < 2 ^ 32 → burst * 2 ^ first < 2 ^ n
    → next_bits n (burst * 2 ^ first) ≡ 0 → burst ≡ 0
burst_lost n zero first p inside out = refl
burst_lost n (suc b) first p inside out = elim (cases_lt n first) [
  | inl lt ↦
      let below : n ≤ first = omega arith in
      let power : 2 ^ n ≤ 2 ^ first = pow-le-pow_right {n = 2} (omega arith) below in
      absurd (omega arith)
  | inr le ↦
      let behind : n ≡ first + (n - first) = omega arith in
      let moved : next_bits n (suc b * 2 ^ first) ≡ next_bits (n - first) (suc b) =
      ap (λ k. next_bits k (suc b * 2 ^ first)) behind ∙ next_bits-add first (n - first) (suc b * 2 ^ first)
      ∙ ap (next_bits (n - first)) (next_bits-shifted first (suc b)) in
      next_bits-lost (n - first) (suc b) p (sym moved ∙ out)
]

pub bits_differ : (was is : List ℕ) → DifferInBits 32 was is → crc32c was ≢ crc32c is
bits_differ was is h e =
    let n = length was * 8 in
    let is_below : number_of is < 2 ^ n = let lt = number_of-lt is h.is_bytes in rw (sym h.same_length) at lt in
    let d = xor_lt n (number_of was) (number_of is) (number_of-lt was h.was_bytes) is_below in
    let out : next_bits n (bit_xor (number_of was) (number_of is)) ≡ 0 =
    sym (number_xor all_ones was is h.was_bytes h.is_bytes h.same_length) ∙ xor_same (crc32c-remainders was is e) in
    let none : h.burst ≡ 0 = burst_lost n h.burst h.first h.short (rw h.differ at d) (rw h.differ at out) in
    let same = h.differ ∙ ap (λ x. x * 2 ^ h.first) none ∙ zero-mul (2 ^ h.first) in
    h.changed (bytes_same was is h.was_bytes h.is_bytes h.same_length same)
