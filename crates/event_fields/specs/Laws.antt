-- What holds of the reading of every format.
use Rattle.std.specs.Prelude.{◌≡◌, ℕ, ◌+◌, ◌≤◌, ◌++◌, ◌∷◌, ◌≢◌, Bool, List, length, take, drop, codes, Some, Ok}
use Rattle.std.specs.Prelude.{AllPairs}
use Rattle.std.specs.Prelude.{if◌then◌else◌}
use Rattle.event_fields.specs.declared.field.Layout.{Layout}
use Rattle.event_fields.specs.Cutting.{bytes_of}
use Rattle.event_fields.specs.Declarations.{Declaration, declaration_in}
use Rattle.event_fields.specs.declared.fields.TheConstants.{MOST_FIELDS}
use Rattle.event_fields.specs.Fields.{fields_of}
use Rattle.event_fields.specs.Lines.{EventField, tab, field_of, field_in}
use Rattle.event_fields.specs.Texts.{number32_in}

-- bytes that are in a payload, one after the other
pub record IsPiece (bytes payload : List ℕ) : Type 0 where
  pub at : ℕ
  pub within : at + length bytes ≤ length payload
  pub same : bytes ≡ take (length bytes) (drop at payload)

-- The bytes of a field are in the payload of its record.
abbrev pub BytesAreInPayload : Type 0
BytesAreInPayload = (layout : Layout) (payload bytes : List ℕ) → bytes_of layout payload ≡ Some bytes
    → IsPiece bytes payload

-- a part of a line: a word, a text and a semicolon; and what is after it
abbrev pub part : (word text rest : List ℕ) → List ℕ
part word text rest = word ++ (text ++ 59 ∷ rest)

-- the last part of a line
abbrev pub sign_part : Bool → List ℕ
sign_part is_signed = if is_signed then tab ∷ codes "signed:1;" else tab ∷ codes "signed:0;"

-- A line consists of a declaration, an offset, a size and a sign, and these say this field.
pub record HasParts (line : List ℕ) (field : EventField) : Type 0 where
  pub declaration : List ℕ
  pub offset : List ℕ
  pub size : List ℕ
  pub is_signed : Bool
  pub parts : line ≡ part (tab ∷ codes "field:") declaration (part (tab ∷ codes "offset:") offset
      (part (tab ∷ codes "size:") size (sign_part is_signed)))
  pub declared : Declaration
  pub says_declared : declaration_in declaration ≡ Some declared
  pub at : ℕ
  pub says_at : number32_in offset ≡ Some at
  pub count : ℕ
  pub says_count : number32_in size ≡ Some count
  pub says_field : field_of declared (at, count, is_signed) ≡ Some field

-- A line that describes a field consists of these parts, and has nothing else.
abbrev pub LinesHaveParts : Type 0
LinesHaveParts = (line : List ℕ) (field : EventField) → field_in line ≡ Some field → HasParts line field

-- The fields of a format aren't too many, and no two of them have the same name.
abbrev pub NamesDiffer : Type 0
NamesDiffer = (format : List ℕ) (fields : List EventField) → fields_of format ≡ Ok fields
    → (length fields ≤ MOST_FIELDS) × AllPairs (λ a b. a.name ≢ b.name) fields
