-- A plain stretch of a text and the byte after it are put.
use Rattle.std.proofs.Common.{◌≡◌, ℕ, Bool, List, [], ◌∷◌, ◌++◌, sym, ◌∙◌, ap, append-nil, append_assoc}
use Rattle.std.proofs.lemmas.Grind.{flat_map-append}
use Rattle.capture_text.specs.Quoting.{escaped, escaped_text}

-- what is left after them
pub stretch_less : (done plain behind more rest all : List ℕ) (b : ℕ) → rest ≡ plain ++ behind → behind ≡ b ∷ more
    → done ++ rest ≡ all → ((done ++ plain) ++ b ∷ []) ++ more ≡ all
stretch_less done plain behind more rest all b parts first is =
    append_assoc (done ++ plain) (b ∷ []) more ∙ append_assoc done plain (b ∷ more)
    ∙ ap (λ (text : List ℕ). done ++ text) (ap (λ (text : List ℕ). plain ++ text) (sym first) ∙ sym parts)
    ∙ is

escaped_parts : (is_text : Bool) (done plain : List ℕ) (b : ℕ)
    → escaped_text is_text ((done ++ plain) ++ b ∷ [])
    ≡ (escaped_text is_text done ++ escaped_text is_text plain) ++ escaped is_text b
escaped_parts is_text done plain b = simp (flat_map-append, append-nil)

-- a plain stretch and a byte after it, put between quotation marks
pub stretch_escaped : (is_text : Bool) (text done plain : List ℕ) (b : ℕ) → escaped_text is_text plain ≡ plain
    → ((text ++ escaped_text is_text done) ++ plain) ++ escaped is_text b
    ≡ text ++ escaped_text is_text ((done ++ plain) ++ b ∷ [])
stretch_escaped is_text text done plain b is =
    rw (escaped_parts is_text done plain b, is) (simp append_assoc)
