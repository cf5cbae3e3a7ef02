-- Bytes, and where two lists of them differ.
use Rattle.std.specs.Prelude.{◌≡◌, ◌≢◌, ℕ, ◌+◌, ◌*◌, ◌^◌, ◌<◌, ◌≤◌, bit_xor, List, [], ◌∷◌, length, slice_index}

-- each number is a byte
abbrev pub AreBytes : List ℕ → Type 0
AreBytes bytes = (i : ℕ) → slice_index bytes i < 256

-- two lists of bytes of one length that differ at this index and at no other
pub record DifferAt (was is : List ℕ) (at : ℕ) : Type 0 where
  pub was_bytes : AreBytes was
  pub is_bytes : AreBytes is
  pub same_length : length was ≡ length is
  pub changed : slice_index was at ≢ slice_index is at
  pub kept : (k : ℕ) → k ≢ at → slice_index was k ≡ slice_index is k

-- two lists of bytes of one length, at most this many, that differ
pub record DifferWithin (count : ℕ) (was is : List ℕ) : Type 0 where
  pub was_bytes : AreBytes was
  pub is_bytes : AreBytes is
  pub same_length : length was ≡ length is
  pub short : length was ≤ count
  pub changed : was ≢ is

-- the number that bytes are, the first of them the lowest
abbrev pub number_of : List ℕ → ℕ
number_of [] = 0
number_of (byte ∷ bytes) = number_of bytes * 256 + byte

-- Two lists of bytes of one length that differ, and only within this many neighbouring bits: the bits of their numbers
-- that differ are a burst of no more bits, from bit `first` on.
pub record DifferInBits (count : ℕ) (was is : List ℕ) : Type 0 where
  pub was_bytes : AreBytes was
  pub is_bytes : AreBytes is
  pub same_length : length was ≡ length is
  pub burst : ℕ
  pub first : ℕ
  pub short : burst < 2 ^ count
  pub differ : bit_xor (number_of was) (number_of is) ≡ burst * 2 ^ first
  pub changed : was ≢ is
