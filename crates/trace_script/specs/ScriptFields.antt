-- What the script's reader says of the fields of a line.
use Rattle.std.specs.Prelude.{◌≡◌, ℕ, ⊤, List, [], ◌∷◌, length}
use Rattle.text_model.specs.Text.{fields_of}
use Rattle.trace_script.specs.declared.fields.Fields.{Fields}
use Rattle.trace_script.specs.declared.fields.Fields.TheVariants.{One, Two, Three, More}

-- the fields, with all that follows the third one as one field, whatever it is; none of a line with a single field
abbrev pub fields_seen : Fields → List (List ℕ)
fields_seen One = []
fields_seen (Two first second) = first.now ∷ second.now ∷ []
fields_seen (Three first second third) = first.now ∷ second.now ∷ third.now ∷ []
fields_seen (More first second third rest) = first.now ∷ second.now ∷ third.now ∷ rest.now ∷ []

-- these are the fields, up to the third; the rest is cut further
abbrev pub AreFields : Fields → List (List ℕ) → Type 0
AreFields One fields = length fields ≡ 1
AreFields (Two first second) fields = fields ≡ first.now ∷ second.now ∷ []
AreFields (Three first second third) fields = fields ≡ first.now ∷ second.now ∷ third.now ∷ []
AreFields (More first second third rest) fields = fields ≡ first.now ∷ second.now ∷ third.now ∷ fields_of rest.now

-- there is no fifth field
abbrev pub HasNoFifth : Fields → Type 0
HasNoFifth (More first second third rest) = length (fields_of rest.now) ≡ 1
HasNoFifth _ = ⊤
