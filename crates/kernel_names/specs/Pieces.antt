-- Pieces of a text of C.
use Rattle.std.specs.Prelude.{ℕ, ◌-◌, ◌==◌, ◌||◌, Bool, not, List, length, take, drop, position, unwrap_or}
use Rattle.std.specs.List.{suffix_len}
use Rattle.event_fields.specs.Texts.{is_name_byte}

-- an opening bracket or a blank
abbrev pub is_opening : ℕ → Bool
is_opening b = b == 40 || b == 32

-- a closing bracket or a blank
abbrev pub is_closing : ℕ → Bool
is_closing b = b == 41 || b == 32

-- a comma or a blank
abbrev pub is_separator : ℕ → Bool
is_separator b = b == 44 || b == 32

-- what is after the opening brackets and blanks at the front
unfoldable pub unopened : List ℕ → List ℕ
unopened text = drop (unwrap_or (position (λ b. not (is_opening b)) text) (length text)) text

-- what is after the commas and blanks at the front
unfoldable pub unseparated : List ℕ → List ℕ
unseparated text = drop (unwrap_or (position (λ b. not (is_separator b)) text) (length text)) text

-- what is before the closing brackets and blanks at the end, and these
abbrev pub front_of_closing : List ℕ → List ℕ
front_of_closing text = take (length text - suffix_len is_closing text) text

abbrev pub closing_of : List ℕ → List ℕ
closing_of text = drop (length text - suffix_len is_closing text) text

-- what is before the letters, digits and `_` at the end, and these
abbrev pub front_of_word : List ℕ → List ℕ
front_of_word text = take (length text - suffix_len is_name_byte text) text

abbrev pub last_word : List ℕ → List ℕ
last_word text = drop (length text - suffix_len is_name_byte text) text

-- what is before the opening brackets and blanks at the end, and these
abbrev pub front_of_opening : List ℕ → List ℕ
front_of_opening text = take (length text - suffix_len is_opening text) text

abbrev pub opening_of : List ℕ → List ℕ
opening_of text = drop (length text - suffix_len is_opening text) text
