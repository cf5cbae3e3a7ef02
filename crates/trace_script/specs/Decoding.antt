-- Hexadecimal digits, pair by pair.
use Rattle.std.specs.Prelude.{◌≡◌, ℕ, ◌+◌, ◌*◌, ◌%◌, true, false, ◌&&◌, if◌then◌else◌, ⊤, List, ◌∷◌, ◌++◌, length}
use Rattle.std.specs.Prelude.{Result, Ok, Err}
use Rattle.std.specs.Borrow.{Bor}
use Rattle.std.specs.Char.{digit_value, is_digit}
use Rattle.std.specs.List.{list_all}
use Rattle.trace_model.specs.declared.numbers.NoMemory.{NoMemory}
use Rattle.trace_model.specs.Sublist.{IsPrefix}
use Rattle.text_model.specs.Text.{bytes_of_pairs}

-- the value of a byte as the first digit of a pair, and more than the sum of eight digits if it is none
abbrev pub high_value : ℕ → ℕ
high_value byte = if is_digit byte 16 then 16 * digit_value byte else 4096

-- the value of a byte as the second digit of a pair, and more than the sum of eight digits if it is none
abbrev pub low_value : ℕ → ℕ
low_value byte = if is_digit byte 16 then digit_value byte else 4096

-- the value of both digits of a pair together
abbrev pub pair_value : ℕ → ℕ → ℕ
pair_value high low = high_value high + low_value low

-- the text begins with pairs of hexadecimal digits, and left is the rest after them; the bytes that they spell were
-- appended
pub record ArePut (text left old new : List ℕ) : Type 0 where
  pub digits : List ℕ
  pub cut : text ≡ digits ++ left
  pub even : length digits % 2 ≡ 0
  pub are_digits : list_all (λ c. is_digit c 16) digits ≡ true
  pub put : new ≡ old ++ bytes_of_pairs digits

-- the text begins with no pair of hexadecimal digits
abbrev pub BeginsNoPair : List ℕ → Type 0
BeginsNoPair (high ∷ low ∷ rest) = (is_digit high 16 && is_digit low 16) ≡ false
BeginsNoPair _ = ⊤

-- the bytes of all pairs at the text's beginning were appended, and left is the rest after them; or memory ran out, and
-- the old bytes have only been added to
abbrev pub PutsPairs : Result (Bor (List ℕ)) NoMemory → (text old new : List ℕ) → Type 0
PutsPairs (Ok left) text old new = ArePut text left.now old new × BeginsNoPair left.now
PutsPairs (Err _) text old new = IsPrefix old new
