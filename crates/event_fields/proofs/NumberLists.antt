-- Numbers one after the other, from the front.
use Rattle.std.proofs.Common.{◌≡◌, ℕ, suc, ◌-◌, ◌/◌, ◌<◌, ◌≤◌, Bool, List, [], ◌∷◌, length, drop, sym}
use Rattle.std.proofs.Common.{◌∙◌, ap, take, arith, length-drop}
use Rattle.std.proofs.lemmas.List.{take_rest}
use Rattle.std.specs.Prelude.{ℤ}
use Rattle.event_fields.specs.declared.field.NumberSize.{NumberSize}
use Rattle.event_fields.specs.declared.field.NumberSize.TheVariants.{One, Two, Four, Eight}
use Rattle.event_fields.specs.Numbers.{number_at, numbers_from, numbers_of, byte_count}

-- how many of a size fit
too_short : (size : NumberSize) (len : ℕ) → len < byte_count size → len / byte_count size ≡ 0
too_short One len short = omega arith
too_short Two len short = omega arith
too_short Four len short = omega arith
too_short Eight len short = omega arith

one_more : (size : NumberSize) (len : ℕ) → byte_count size ≤ len
    → len / byte_count size ≡ suc ((len - byte_count size) / byte_count size)
one_more One len long = omega arith
one_more Two len long = omega arith
one_more Four len long = omega arith
one_more Eight len long = omega arith

pub no_number : (is_signed : Bool) (size : NumberSize) (bytes : List ℕ) → length bytes < byte_count size
    → numbers_of is_signed size bytes ≡ []
unfolding numbers_of
no_number is_signed size bytes short =
    ap (λ n. numbers_from n is_signed size bytes) (too_short size (length bytes) short)

pub first_number : (is_signed : Bool) (size : NumberSize) (bytes : List ℕ) → byte_count size ≤ length bytes
    → numbers_of is_signed size bytes
    ≡ number_at is_signed size bytes ∷ numbers_of is_signed size (drop (byte_count size) bytes)
unfolding numbers_of
first_number is_signed size bytes long =
    ap (λ n. numbers_from n is_signed size bytes) (one_more size (length bytes) long)
    ∙ ap (λ n. number_at is_signed size bytes ∷ numbers_from n is_signed size (drop (byte_count size) bytes))
    (ap (λ n. n / byte_count size) (sym (length-drop (byte_count size) bytes)))

-- the same of a first number and of the bytes after it
pub first_is : (is_signed : Bool) (size : NumberSize) (bytes after : List ℕ) (first : ℤ)
    → byte_count size ≤ length bytes → first ≡ number_at is_signed size bytes
    → after ≡ drop (byte_count size) bytes
    → numbers_of is_signed size bytes ≡ first ∷ numbers_of is_signed size after
first_is is_signed size bytes after first long is rest =
    first_number is_signed size bytes long
    ∙ ap (λ n. n ∷ numbers_of is_signed size (drop (byte_count size) bytes)) (sym is)
    ∙ ap (λ bs. first ∷ numbers_of is_signed size bs) (sym rest)

pub others_are_fewer : (is_signed : Bool) (size : NumberSize) (bytes after : List ℕ) (first : ℤ)
    → byte_count size ≤ length bytes → first ≡ number_at is_signed size bytes
    → after ≡ drop (byte_count size) bytes
    → length (numbers_of is_signed size after) < length (numbers_of is_signed size bytes)
others_are_fewer is_signed size bytes after first long is rest =
    omega (arith, ap (λ (ns : List ℤ). length ns) (first_is is_signed size bytes after first long is rest))

-- what is after a part of this length
pub rest_is : (bytes : List ℕ) (count size : ℕ) → count ≡ size
    → take (length bytes - count) (drop count bytes) ≡ drop size bytes
rest_is bytes count size is = take_rest bytes count ∙ ap (λ (n : ℕ). drop n bytes) is
