-- What holds of the printing of fields.
use Rattle.std.specs.Prelude.{◌≡◌, ◌⊎◌, ℕ, suc, ℤ, pos, negsuc, ◌^◌, ◌<◌, List, [], ◌∷◌, ◌++◌, ⊤}
use Rattle.event_fields.specs.declared.field.NumberKind.{NumberKind}
use Rattle.event_fields.specs.declared.field.NumberKind.TheVariants.{Signed, Unsigned, Word, Address}
use Rattle.capture_text.specs.declared.form.Form.TheVariants.{Text}
use Rattle.capture_text.specs.Fields.{number_text}

-- a number that one of this kind may be: of at most 64 bits, and below 0 only if the kind is signed
abbrev pub IsOfKind : NumberKind → ℤ → Type 0
IsOfKind kind (pos n) = n < 2 ^ 64
IsOfKind Signed (negsuc n) = suc n < 2 ^ 64
IsOfKind Unsigned (negsuc n) = ⊥
IsOfKind Word (negsuc n) = ⊥
IsOfKind Address (negsuc n) = ⊥

-- Two numbers of a kind whose texts are the same are the same.
abbrev pub NumbersReadBack : Type 0
NumbersReadBack = (kind : NumberKind) (a b : ℤ) → IsOfKind kind a → IsOfKind kind b
    → number_text Text kind a ≡ number_text Text kind b → a ≡ b

-- what ends a number in a line: nothing more, a space, or the colon before its names
abbrev pub Ends : List ℕ → Type 0
Ends [] = ⊤
Ends (b ∷ more) = (b ≡ 32) ⊎ (b ≡ 58)

-- Where a number ends in a line is seen: two numbers of a kind, each with such an end behind it, are the same if the
-- texts are, and so are their ends.
abbrev pub NumbersEnd : Type 0
NumbersEnd =
    (kind : NumberKind) (a b : ℤ) (end other : List ℕ) → IsOfKind kind a → IsOfKind kind b → Ends end → Ends other
    → number_text Text kind a ++ end ≡ number_text Text kind b ++ other → (a ≡ b) × (end ≡ other)
