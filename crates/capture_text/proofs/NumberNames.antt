-- The names of a number, one after the other.
use Rattle.std.proofs.Common.{◌≡◌, ℕ, List, [], ◌∷◌, ◌++◌, map, refl, ap, ◌∙◌}
use Rattle.kernel_names.specs.declared.tables.NumberNames as lent
use Rattle.kernel_names.specs.FieldTables.{names_seen, rest_seen}
use Rattle.std.specs.Prelude.{codes}
use Rattle.capture_text.specs.declared.beside.FoundNames.{FoundNames}
use Rattle.capture_text.specs.declared.beside.FoundNames.TheVariants.{Labels, Place}
use Rattle.capture_text.specs.declared.form.Form.TheVariants.{Text}
use Rattle.capture_text.specs.Beside.{label, names_part, names_text, rest_names}
use Rattle.capture_text.specs.Sources.{found_seen, left_seen}

-- one name and those behind it
pub one_left : (left others : lent.NumberNames) (name : List ℕ) → names_seen left ≡ name ∷ names_seen others
    → rest_seen left ≡ rest_seen others → left_seen left ≡ label name ∷ left_seen others
one_left left others name names rest =
    ap (λ (ns : List (List ℕ)). map label ns ++ rest_names (rest_seen left)) names
    ∙ ap (λ (r : ℕ). label name ∷ (map label (names_seen others) ++ rest_names r)) rest

-- names that were found are some
pub found_part : (found : FoundNames) → names_part (found_seen found) ≡ codes ":" ++ names_text Text (found_seen found)
found_part (Labels first others) = refl
found_part (Place symbol) = refl

-- no name is left
pub none_left : (left : lent.NumberNames) → names_seen left ≡ [] → left_seen left ≡ rest_names (rest_seen left)
none_left left names = ap (λ (ns : List (List ℕ)). map label ns ++ rest_names (rest_seen left)) names
