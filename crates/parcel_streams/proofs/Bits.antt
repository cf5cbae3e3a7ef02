-- Bits that go out: those of a sum are the sum of those of its parts, and none is added while the lowest are 0.
use Rattle.std.proofs.Common.{◌≡◌, ℕ, zero, suc, ◌+◌, ◌*◌, ◌/◌, ◌%◌, ◌^◌, ◌⊎◌, inl, inr, refl, sym, ap, ap₂, ◌∙◌}
use Rattle.std.proofs.Common.{zero-add, suc-add, zero-mul, pow-suc, mul_assoc, arith}
use Rattle.std.proofs.lemmas.Bool.{cases_eq}
use Rattle.std.specs.Int.Bits.{bit_xor, xor_assoc, xor_zero_r}
use Rattle.std.proofs.lemmas.Nat.{xor_comm, xor_shr, xor_mod}
use Rattle.parcel_streams.specs.crc32c.Castagnoli.{polynomial, next_bit, next_bits}

pub xor_four : (a b c d : ℕ) → bit_xor (bit_xor a b) (bit_xor c d) ≡ bit_xor (bit_xor a c) (bit_xor b d)
xor_four a b c d =
    xor_assoc a b (bit_xor c d)
    ∙ ap (bit_xor a) (sym (xor_assoc b c d) ∙ ap (λ x. bit_xor x d) (xor_comm b c) ∙ xor_assoc c b d)
    ∙ sym (xor_assoc a c (bit_xor b d))

pub lowest_bit : (n : ℕ) → (n % 2 ≡ 0) ⊎ (n % 2 ≡ 1)
lowest_bit n = elim (cases_eq (n % 2) 0) [ inl e ↦ inl e | inr ne ↦ inr (omega arith) ]

-- the next remainder as a sum
pub next_bit-sum : (r : ℕ) → next_bit r ≡ bit_xor (r / 2) (r % 2 * polynomial)
unfolding next_bit
next_bit-sum r = elim (lowest_bit r) [ inl e ↦ rw e (sym (xor_zero_r (r / 2))) | inr e ↦ rw e refl ]

-- what is added for a bit is the sum of what is added for two whose sum it is
lowest_bit-xor : (a b : ℕ) → bit_xor a b % 2 * polynomial ≡ bit_xor (a % 2 * polynomial) (b % 2 * polynomial)
lowest_bit-xor a b = rw (xor_mod a b 1) (elim (lowest_bit a) [
  | inl p ↦ rw p refl
  | inr p ↦ rw p (elim (lowest_bit b) [ inl q ↦ rw q refl | inr q ↦ rw q refl ])
])

pub next_bit-xor : (a b : ℕ) → next_bit (bit_xor a b) ≡ bit_xor (next_bit a) (next_bit b)
next_bit-xor a b =
    next_bit-sum (bit_xor a b) ∙ ap₂ bit_xor (xor_shr a b 1) (lowest_bit-xor a b)
    ∙ xor_four (a / 2) (b / 2) (a % 2 * polynomial) (b % 2 * polynomial)
    ∙ sym (ap₂ bit_xor (next_bit-sum a) (next_bit-sum b))

pub next_bits-xor : (n a b : ℕ) → next_bits n (bit_xor a b) ≡ bit_xor (next_bits n a) (next_bits n b)
unfolding next_bits
next_bits-xor zero a b = refl
next_bits-xor (suc n) a b = ap (next_bits n) (next_bit-xor a b) ∙ next_bits-xor n (next_bit a) (next_bit b)

pub next_bits-add : (m n r : ℕ) → next_bits (m + n) r ≡ next_bits n (next_bits m r)
unfolding next_bits
next_bits-add zero n r = rw zero-add refl
next_bits-add (suc m) n r = rw suc-add (next_bits-add m n (next_bit r))

next_bit-double : (x : ℕ) → next_bit (x * 2) ≡ x
next_bit-double x =
    let half : x * 2 / 2 ≡ x = omega arith in
    let bit : x * 2 % 2 ≡ 0 = omega arith in
    next_bit-sum (x * 2) ∙ ap₂ (λ h b. bit_xor h (b * polynomial)) half bit ∙ xor_zero_r x

-- bits that are all 0 go out
pub next_bits-shifted : (n x : ℕ) → next_bits n (x * 2 ^ n) ≡ x
unfolding next_bits
next_bits-shifted zero x = omega arith
next_bits-shifted (suc n) x =
    let e : x * 2 ^ suc n ≡ x * 2 ^ n * 2 = ap (λ y. x * y) (pow-suc 2 n) ∙ sym (mul_assoc x (2 ^ n) 2) in
    ap (λ y. next_bits n (next_bit y)) e ∙ ap (next_bits n) (next_bit-double (x * 2 ^ n)) ∙ next_bits-shifted n x

pub next_bits-none : (n : ℕ) → next_bits n 0 ≡ 0
next_bits-none n = ap (next_bits n) (sym (zero-mul (2 ^ n))) ∙ next_bits-shifted n 0
