-- Texts between quotation marks, as JSON has them (RFC 8259, section 7), and names that need none.
use Rattle.std.specs.Prelude.{◌≡◌, ℕ, Bool, true, false, ◌||◌, ◌&&◌, ◌==◌, nat_lt, if◌then◌else◌, List, [], ◌∷◌, ◌++◌}
use Rattle.std.specs.Prelude.{map, flat_map, codes}
use Rattle.std.specs.Str.{is_utf8}
use Rattle.text_values.specs.Digits.{pair_of}

abbrev pub quotation_mark : ℕ
quotation_mark = 34

abbrev pub backslash : ℕ
backslash = 92

-- a byte of a name as it is shown: any that isn't printable, a space, a quotation mark and a backslash are `?`
abbrev pub shown_byte : ℕ → ℕ
shown_byte b = if nat_lt 32 b && nat_lt b 127 && (if b == quotation_mark || b == backslash then false else true) then b
    else 63

abbrev pub shown_name : List ℕ → List ℕ
shown_name name = map shown_byte name

-- a byte between quotation marks that has to be written otherwise, below 128
abbrev pub escaped_ascii : ℕ → List ℕ
escaped_ascii b =
    if b == quotation_mark || b == backslash then backslash ∷ b ∷ []
    else if b == 10 then codes "\\n"
    else if b == 9 then codes "\\t"
    else if b == 13 then codes "\\r"
    else if nat_lt b 32 || b == 127 then codes "\\u00" ++ pair_of b
    else b ∷ []

-- a byte between quotation marks; one of 128 and above is kept in a text that is UTF-8, else it is U+FFFD
abbrev pub escaped : Bool → ℕ → List ℕ
escaped is_text b = if nat_lt b 128 then escaped_ascii b else if is_text then b ∷ [] else codes "\\ufffd"

abbrev pub escaped_text : Bool → List ℕ → List ℕ
escaped_text is_text text = flat_map (escaped is_text) text

-- a byte that stays as it is
abbrev pub IsPlain : Bool → ℕ → Type 0
IsPlain is_text b = escaped is_text b ≡ b ∷ []

-- a name between quotation marks, as it is
abbrev pub marked : List ℕ → List ℕ
marked name = quotation_mark ∷ name ++ quotation_mark ∷ []

-- a text between quotation marks
abbrev pub quoted : List ℕ → List ℕ
quoted text = quotation_mark ∷ escaped_text (is_utf8 text) text ++ quotation_mark ∷ []
