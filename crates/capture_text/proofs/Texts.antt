-- Texts that are UTF-8, names, and what is between quotation marks.
use Rattle.std.proofs.Common.{◌≡◌, ℕ, ◌+◌, ◌<◌, ◌≤◌, Bool, List, [], ◌∷◌, ◌++◌, length, get_or, take, sym}
use Rattle.std.proofs.Common.{ap, ◌∙◌}
use Rattle.std.specs.Prelude.{Result, Ok, Err, MatchResult, is_ok, if◌then◌else◌, codes}
use Rattle.std.specs.Str.{IsUtf8, is_utf8}
use Rattle.std.proofs.lemmas.Bool.{false_from_ne_true, lt-ltb, le-ltb}
use Rattle.std.proofs.lemmas.List.{take_more, map_push}
use Rattle.std.proofs.lemmas.Str.{IsUtf8-from_is_utf8, is_utf8-from_IsUtf8}
use Rattle.capture_text.specs.Quoting.{shown_byte, shown_name, quotation_mark, escaped_ascii}
use Rattle.capture_text.specs.Quoting.{escaped, escaped_text, quoted}

pub is_text_of : {A E : Type 0} (bytes : List ℕ) (result : Result A E) (P : A → Type 0) (Q : E → Type 0)
    → MatchResult result (λ s. P s × IsUtf8 bytes) (λ e. (IsUtf8 bytes → ⊥) × Q e) → is_ok result ≡ is_utf8 bytes
is_text_of bytes (Ok s) P Q cases = sym (is_utf8-from_IsUtf8 bytes cases.1)
is_text_of bytes (Err e) P Q cases =
    sym (false_from_ne_true (is_utf8 bytes) (λ yes. cases.0 (IsUtf8-from_is_utf8 bytes yes)))

-- a text between quotation marks, by the test whether it is UTF-8
pub quoted_is : (text : List ℕ) (is_text : Bool) → is_text ≡ is_utf8 text
    → quotation_mark ∷ escaped_text is_text text ++ quotation_mark ∷ [] ≡ quoted text
quoted_is text is_text is =
    ap (λ (b : Bool). quotation_mark ∷ escaped_text b text ++ quotation_mark ∷ []) is

-- a byte between quotation marks, by its size
pub ascii_escaped : (is_text : Bool) (b : ℕ) → b < 128 → escaped_ascii b ≡ escaped is_text b
ascii_escaped is_text b small =
    ap (λ (t : Bool). if t then escaped_ascii b else if is_text then b ∷ [] else codes "\\ufffd")
    (sym (lt-ltb b 128 small))

pub high_escaped : (is_text answer : Bool) (b : ℕ) → 128 ≤ b → is_text ≡ answer
    → (if answer then b ∷ [] else codes "\\ufffd") ≡ escaped is_text b
high_escaped is_text answer b high is =
    ap (λ (t : Bool). if t then b ∷ [] else codes "\\ufffd") (sym is)
    ∙ ap (λ (t : Bool). if t then escaped_ascii b else if is_text then b ∷ [] else codes "\\ufffd")
    (sym (le-ltb b 128 high))

-- one byte more of a name
pub name_more : (name : List ℕ) (i b : ℕ) → i < length name → b ≡ shown_byte (get_or name i 0)
    → shown_name (take i name) ++ b ∷ [] ≡ shown_name (take (i + 1) name)
name_more name i b below is =
    ap (λ (byte : ℕ). shown_name (take i name) ++ byte ∷ []) is
    ∙ sym (ap shown_name (take_more name i 0 below) ∙ map_push shown_byte (take i name) (get_or name i 0))
