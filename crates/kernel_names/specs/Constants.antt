-- Constants as C writes them, of which the keys of tables are made: numbers with `|` between them, each of which may be
-- shifted, and may be in brackets and behind casts. What can't be known without the kernel's types and words is none.
use Rattle.std.specs.Prelude.{ℕ, ◌-◌, ◌*◌, ◌^◌, ◌==◌, ◌&&◌, ◌||◌, Bool, true, false, List, [], ◌∷◌, length}
use Rattle.std.specs.Prelude.{take, drop, codes, Option, Some, None, nat_lt, nat_le, nat_eq, bit_or, if◌then◌else◌}
use Rattle.std.specs.Option.{option_and_then, option_map, option_or}
use Rattle.std.specs.List.{count_by, list_all, list_any, starts_with, suffix_len}
use Rattle.event_fields.specs.Texts.{after, before, cut_at, parts_of, is_name_byte}
use Rattle.event_fields.specs.Types.{type_size}
use Rattle.event_fields.specs.declared.field.NumberSize.{NumberSize}
use Rattle.event_fields.specs.declared.field.NumberSize.TheVariants.{One, Two, Four, Eight}
use Rattle.kernel_names.specs.declared.constants.Literal.{Literal}
use Rattle.kernel_names.specs.declared.constants.Operand.{Operand}
use Rattle.kernel_names.specs.declared.constants.Term.{Term}
use Rattle.kernel_names.specs.Digits.{digits_in}
use Rattle.kernel_names.specs.Pieces.{is_opening, unopened, front_of_closing, closing_of, front_of_opening, opening_of}
use Rattle.kernel_names.specs.Pieces.{front_of_word, last_word}

-- ---- a number

-- a letter behind a number that says its type: u, U, l or L
abbrev pub is_suffix_byte : ℕ → Bool
is_suffix_byte b = b == 117 || b == 85 || b == 108 || b == 76

-- what is before such letters at the end, and these
abbrev pub front_of_suffix : List ℕ → List ℕ
front_of_suffix text = take (length text - suffix_len is_suffix_byte text) text

abbrev pub suffix_of : List ℕ → List ℕ
suffix_of text = drop (length text - suffix_len is_suffix_byte text) text

-- whether they say that the number is unsigned, and that it has 64 bits
abbrev pub is_unsigned : List ℕ → Bool
is_unsigned suffix = list_any (λ b. b == 117) suffix || list_any (λ b. b == 85) suffix

abbrev pub is_long : List ℕ → Bool
is_long suffix = list_any (λ b. b == 108) suffix || list_any (λ b. b == 76) suffix

-- the greatest number of a type of 64 or 32 bits
abbrev pub greatest_of : (is_long is_unsigned : Bool) → ℕ
greatest_of true true = 18446744073709551615
greatest_of true false = 9223372036854775807
greatest_of false true = 4294967295
greatest_of false false = 2147483647

-- the number that a text spells, if after `0X` it is these digits, and if after `0x`
abbrev pub other_value : List ℕ → Option (List ℕ) → Option ℕ
other_value text (Some digits) = digits_in 16 digits
other_value text None = if starts_with nat_eq text (codes "0") then digits_in 8 text else digits_in 10 text

abbrev pub based_value : List ℕ → Option (List ℕ) → Option ℕ
based_value text (Some digits) = digits_in 16 digits
based_value text None = other_value text (after (codes "0X") text)

-- the number that digits spell: in hexadecimal after `0x` or `0X`, in octal after `0`, or in decimal
abbrev pub value_in : List ℕ → Option ℕ
value_in text = based_value text (after (codes "0x") text)

-- the number that a text is, with the letters for its type
unfoldable pub literal_in : List ℕ → Option Literal
literal_in text = option_map (λ value. record {
  value = value;
  greatest = greatest_of (is_long (suffix_of text)) (is_unsigned (suffix_of text));
}) (value_in (front_of_suffix text))

-- ---- casts

-- a byte of a type's name
abbrev pub is_type_byte : ℕ → Bool
is_type_byte b = is_name_byte b || b == 32

-- whether a type of this size is one of four bytes, and not one of eight
abbrev pub narrow_of : Option NumberSize → Option Bool
narrow_of None = None
narrow_of (Some One) = None
narrow_of (Some Two) = None
narrow_of (Some Four) = Some true
narrow_of (Some Eight) = Some false

-- whether a cast, by what is before its closing bracket, is to a type of four bytes: others than these and those of
-- eight are none
unfoldable pub cast_in : List ℕ → Option Bool
cast_in text = if list_all is_type_byte (unopened text) then narrow_of (type_size (unopened text)) else None

-- whether one of several casts is, or one before them
abbrev pub casts_after : Bool → List (List ℕ) → Option Bool
casts_after is_narrow [] = Some is_narrow
casts_after is_narrow (cast ∷ casts) =
    option_and_then (λ narrow. casts_after (is_narrow || narrow) casts) (cast_in cast)

-- whether one of the casts that a text is, which may be none, is to a type of four bytes
unfoldable pub casts_in : List ℕ → Option Bool
casts_in text =
    if length text == 0 then Some false
    else option_and_then (λ casts. casts_after false (parts_of 41 casts)) (before (codes ")") text)

-- ---- a number in brackets

-- how many opening brackets a text has, and how many closing ones
abbrev pub opened_in : List ℕ → ℕ
opened_in text = count_by (λ b. b == 40) text

abbrev pub closed_in : List ℕ → ℕ
closed_in text = count_by (λ b. b == 41) text

-- the text without the closing brackets at its end, and what is before its last word
abbrev pub before_word : List ℕ → List ℕ
before_word text = front_of_word (front_of_closing text)

-- the number that a text is, in brackets and behind casts
unfoldable pub operand_in : List ℕ → Option Operand
operand_in text =
    option_and_then (λ literal. option_map (λ is_narrow. record {
      literal = literal;
      is_narrow = is_narrow;
      opened = opened_in (opening_of (before_word text));
      closed = closed_in (closing_of text);
    }) (casts_in (front_of_opening (before_word text)))) (literal_in (last_word (front_of_closing text)))

-- A number shifted to the left: if the brackets that are closed behind it were opened right before it, and the result
-- is of the number's type.
unfoldable pub shifted : Operand → ℕ → Option Term
shifted operand count =
    if nat_le operand.closed operand.opened && nat_lt count 64
    && nat_le (operand.literal.value * 2 ^ count) operand.literal.greatest
    then Some (record { value = operand.literal.value * 2 ^ count; is_narrow = operand.is_narrow })
    else None

-- by how many bits it is shifted: a number in brackets, which are all closed behind it
unfoldable pub count_in : List ℕ → Option ℕ
count_in text =
    if list_all is_opening (before_word text) && nat_le (opened_in (before_word text)) (closed_in (closing_of text))
    then option_map (λ literal. literal.value) (literal_in (last_word (front_of_closing text)))
    else None

-- ---- constants

-- a text that is a number, or at its first `<` a number and what is behind that
abbrev pub term_of : List ℕ → Option (List ℕ × List ℕ) → Option Term
term_of text None =
    option_map (λ operand. record { value = operand.literal.value; is_narrow = operand.is_narrow }) (operand_in text)
term_of text (Some parts) =
    option_and_then (λ rest. option_and_then (λ count. option_and_then (λ operand. shifted operand count)
    (operand_in parts.0)) (count_in rest)) (after (codes "<") parts.1)

-- the number that a text is, which may be shifted
unfoldable pub term_in : List ℕ → Option Term
term_in text = term_of text (cut_at 60 text)

-- the bits of two numbers
abbrev pub joined : Term → Term → Term
joined first second =
    record { value = bit_or first.value second.value; is_narrow = first.is_narrow || second.is_narrow }

-- the bits of several numbers, and of one before them
abbrev pub terms_after : Term → List (List ℕ) → Option Term
terms_after bits [] = Some bits
terms_after bits (part ∷ parts) = option_and_then (λ term. terms_after (joined bits term) parts) (term_in part)

-- The number that a text is: none if a cast to a type of four bytes could change it.
unfoldable pub positive_in : List ℕ → Option ℕ
positive_in text =
    option_and_then (λ bits. if bits.is_narrow && nat_le 2147483648 bits.value then None else Some bits.value)
    (terms_after (record { value = 0; is_narrow = false }) (parts_of 124 text))

-- an `int` below zero, in two's complement of 64 bits
unfoldable pub negated : Literal → Option ℕ
negated literal =
    if literal.greatest == 2147483647 && nat_lt 0 literal.value && nat_le literal.value literal.greatest
    then Some (2 ^ 64 - literal.value)
    else None

-- the number that a text is, if it is one below zero
unfoldable pub negative_in : List ℕ → Option ℕ
negative_in text =
    option_and_then (λ number. option_and_then negated (literal_in (unopened number)))
    (after (codes "-") (unopened (front_of_closing text)))

-- The constant that a text of C is, in 64 bits.
unfoldable pub key_in : List ℕ → Option ℕ
key_in text = option_or (positive_in text) (negative_in text)
