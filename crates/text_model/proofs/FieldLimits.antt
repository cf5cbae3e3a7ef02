-- What a text spells is within the limits: numbers, bytes, commands, scripts.
use Rattle.std.proofs.Common.{◌≡◌, ℕ, ◌+◌, ◌*◌, ◌%◌, ◌^◌, ◌<◌, ◌≤◌, Bool, true, false, cond, ltb, List, [], ◌∷◌, codes}
use Rattle.std.proofs.Common.{Result, Ok, Err, refl, sym, subst, arith, inl, inr}
use Rattle.std.specs.List.{All, AllByRecursion, list_all}
use Rattle.std.specs.Result.{IfOk}
use Rattle.std.specs.Char.{digit_value, is_digit}
use Rattle.std.specs.Str.{bytes_eq}
use Rattle.std.specs.Str.Parse.{digits_value}
use Rattle.std.proofs.lemmas.Bool.{ltb-true, leb-true, eqb-true, and_parts, or_cases}
use Rattle.std.proofs.lemmas.List.Elements.{All-from_recursion}
use Rattle.std.proofs.lemmas.Result.{IfOk-at_ok}
use Rattle.std.proofs.lemmas.Slice.Eq.{bytes_eq-Decides}
use Rattle.text_model.specs.Text.{fields_of, is_well_spaced, is_decimal, is_hex, bytes_of_pairs}
use Rattle.text_model.specs.ScriptLines.{LineFault, bad_line, bad_number, bad_hex, out_of_range, ◌>>=◌, decimal_in}
use Rattle.text_model.specs.ScriptLines.{payload_in, number_below, names_cpu, cpu_in, Setting, allowed_for, value_of}
use Rattle.text_model.specs.ScriptLines.{value_in, NumberedLine, GiveSettings}

-- ---- answers

-- a value that is answered only where a test holds
pub tested-within : {A : Type 0} (P : A → Type 0) (test : Bool) (r : Result A LineFault) (fault : LineFault)
    → (test ≡ true → IfOk r P) → IfOk (cond test r (Err fault)) P
tested-within P true r fault h = h refl
tested-within P false r fault h = tt

-- one answer after the other
pub then-within : {A B : Type 0} (P : A → Type 0) (Q : B → Type 0) (r : Result A LineFault) (f : A → Result B LineFault)
    → IfOk r P → ((x : A) → P x → IfOk (f x) Q) → IfOk (r >>= f) Q
then-within P Q (Ok x) f h g = g x h
then-within P Q (Err e) f h g = tt

-- ---- numbers and bytes

abbrev pub Is64Bit : ℕ → Type 0
Is64Bit n = n < 2 ^ 64

pub decimal_in-within : (field : List ℕ) → IfOk (decimal_in field) Is64Bit
unfolding decimal_in is_decimal
decimal_in-within field =
    tested-within Is64Bit (is_decimal field) (Ok (digits_value 10 field)) bad_number
    (λ h. ltb-true (digits_value 10 field) (2 ^ 64) (and_parts _ _ h).1)

pub number_below-within : (limit : ℕ) (field : List ℕ) → IfOk (number_below limit field) (λ n. n < limit)
unfolding number_below
number_below-within limit field =
    then-within Is64Bit (λ n. n < limit) (decimal_in field) _ (decimal_in-within field)
    (λ n small. tested-within (λ n. n < limit) (ltb n limit) (Ok n) out_of_range (λ h. ltb-true n limit h))

pub cpu_in-within : (cpus : ℕ) (field : List ℕ) → IfOk (cpu_in cpus field) (λ cpu. cpu < cpus)
unfolding cpu_in
cpu_in-within cpus field =
    tested-within (λ cpu. cpu < cpus) (names_cpu field) _ bad_line (λ h. number_below-within cpus _)

abbrev pub AreBytes : List ℕ → Type 0
AreBytes bytes = All (λ b. b < 256) bytes

pairs-within : (digits : List ℕ) → list_all (λ c. is_digit c 16) digits ≡ true
    → AllByRecursion (λ b. b < 256) (bytes_of_pairs digits)
pairs-within [] h = tt
pairs-within (digit ∷ []) h = tt
pairs-within (high ∷ low ∷ digits) h =
    let first = and_parts _ _ h in
    let second = and_parts _ _ first.1 in
    let small_high = ltb-true (digit_value high) 16 first.0 in
    let small_low = ltb-true (digit_value low) 16 second.0 in
    (small (digit_value high) (digit_value low) small_high small_low, pairs-within digits second.1)
  where
    small : (a b : ℕ) → a < 16 → b < 16 → 16 * a + b < 256
    small a b h k = omega arith

is_same : (text other : List ℕ) → bytes_eq text other ≡ true → text ≡ other
is_same text other h = (bytes_eq-Decides text other).0 h

no_bytes-within : (text : List ℕ) → text ≡ codes "-" → AllByRecursion (λ b. b < 256) (bytes_of_pairs text)
no_bytes-within text is = subst (λ (t : List ℕ). AllByRecursion (λ b. b < 256) (bytes_of_pairs t)) (sym is) tt

pub payload_in-within : (field : List ℕ) → IfOk (payload_in field) AreBytes
unfolding payload_in is_hex
payload_in-within field =
    tested-within AreBytes (is_hex field) (Ok (bytes_of_pairs field)) bad_hex
    (λ h.
    All-from_recursion (λ b. b < 256) (bytes_of_pairs field) (elim (or_cases (bytes_eq field (codes "-")) _ h) [
      | inl none ↦ no_bytes-within field (is_same field (codes "-") none)
      | inr pairs ↦ pairs-within field (and_parts _ _ pairs).1
    ]))

-- ---- the header

-- a value that the setting may have
pub record IsAllowed (s : Setting) (n : ℕ) : Type 0 where
  pub min : s.min ≤ n
  pub max : n ≤ s.max
  pub step : n % s.step ≡ 0

allowed_for-within : (s : Setting) (n : ℕ) → IfOk (allowed_for s n) (IsAllowed s)
allowed_for-within s n = tested-within (IsAllowed s) _ (Ok n) out_of_range (λ h.
    let parts = and_parts _ _ h in
    let bounds = and_parts _ _ parts.0 in
    record { min = leb-true s.min n bounds.0; max = leb-true n s.max bounds.1; step = eqb-true (n % s.step) 0 parts.1 })

value_of-within : (s : Setting) (fields : List (List ℕ)) → IfOk (value_of s fields) (IsAllowed s)
unfolding value_of
value_of-within s [] = tt
value_of-within s (word ∷ []) = tt
value_of-within s (word ∷ number ∷ []) = tested-within (IsAllowed s) (bytes_eq word s.word) _ bad_line (λ h.
    then-within Is64Bit (IsAllowed s) (decimal_in number) (allowed_for s) (decimal_in-within number)
    (λ n small. allowed_for-within s n))
value_of-within s (word ∷ number ∷ more ∷ fields) = tt

pub value_in-within : (s : Setting) (line : List ℕ) → IfOk (value_in s line) (IsAllowed s)
unfolding value_in
value_in-within s line =
    tested-within (IsAllowed s) (is_well_spaced (fields_of line)) _ bad_line (λ h. value_of-within s (fields_of line))

abbrev pub AreAllowed : List Setting → List ℕ → Type 0
AreAllowed [] values = Unit {0}
AreAllowed (s ∷ settings) [] = Unit {0}
AreAllowed (s ∷ settings) (value ∷ values) = IsAllowed s value × AreAllowed settings values

pub settings-within : (lines : List NumberedLine) (settings : List Setting) (values : List ℕ)
    → GiveSettings lines settings values → AreAllowed settings values
settings-within lines [] values h = tt
settings-within lines (s ∷ settings) [] h = tt
settings-within (line ∷ lines) (s ∷ settings) (value ∷ values) h =
    (IfOk-at_ok (IsAllowed s) h.0 (value_in-within s line.1), settings-within lines settings values h.1)
settings-within [] (s ∷ settings) (value ∷ values) h = absurd h
