-- What a format declares of a field in C's words: `TYPE NAME`, `TYPE NAME[COUNT]` or `TYPE NAME[]`; or, of bytes that
-- are elsewhere in the payload, `__data_loc` or `__rel_loc` and then `TYPE[] NAME`, `TYPE NAME[]` or `TYPE NAME`.
-- After f_show of the kernel's kernel/trace/trace_events.c.
use Rattle.std.specs.Prelude.{ℕ, ◌&&◌, List, length, codes, Option, Some, None, nat_lt, unwrap_or, if◌then◌else◌}
use Rattle.std.specs.Option.{option_and_then}
use Rattle.event_fields.specs.declared.declaration.Declared.{Declared}
use Rattle.event_fields.specs.declared.declaration.Shape.{Shape}
use Rattle.event_fields.specs.declared.declaration.Shape.TheVariants.{Single, Array, Located, Relative}
use Rattle.event_fields.specs.Texts.{after, before, cut_at, front_of, last_of, number32_in, is_name, has_no_bracket}

-- a field's type and name, and whether it is one value, an array with its number of elements, if that is given as a
-- number, or bytes that are elsewhere
pub record Declaration : Type 0 where
  pub type_text : List ℕ
  pub name : List ℕ
  pub shape : Shape

-- a declaration without its place in memory
abbrev pub declaration_seen : Declared → Declaration
declaration_seen declared =
    record { type_text = declared.type_text.now; name = declared.name.now; shape = declared.shape }

-- the declaration of this shape, type and name, if these are a type and a name
unfoldable pub declaration_of : Shape → (type_text name : List ℕ) → Option Declaration
declaration_of shape type_text name =
    if nat_lt 0 (length type_text) && has_no_bracket type_text && is_name name
    then Some (record { type_text = type_text; name = name; shape = shape })
    else None

-- `TYPE NAME`: the name is after the last space
unfoldable pub typed_in : Shape → List ℕ → Option Declaration
typed_in shape text = declaration_of shape (front_of text) (last_of text)

-- `TYPE NAME`, the number of elements and `]`
abbrev pub array_in : (typed count : List ℕ) → Option Declaration
array_in typed count = if has_no_bracket count then typed_in (Array (number32_in count)) typed else None

-- a declaration whose text is this, cut at its first bracket
abbrev pub direct_of : List ℕ → Option (List ℕ × List ℕ) → Option Declaration
direct_of text None = typed_in Single text
direct_of text (Some parts) = option_and_then (λ count. array_in parts.0 count) (before (codes "]") parts.1)

-- `TYPE NAME[COUNT]`, `TYPE NAME[]` or `TYPE NAME`
unfoldable pub direct_in : List ℕ → Option Declaration
direct_in text = direct_of text (cut_at 91 text)

-- a declaration whose text is this, and before `[]` at its end this
abbrev pub elsewhere_of : Shape → List ℕ → Option (List ℕ) → Option Declaration
elsewhere_of shape text (Some typed) = typed_in shape typed
elsewhere_of shape text None =
    declaration_of shape (unwrap_or (before (codes "[]") (front_of text)) (front_of text)) (last_of text)

-- `TYPE[] NAME`, `TYPE NAME[]` or `TYPE NAME`
unfoldable pub elsewhere_in : Shape → List ℕ → Option Declaration
elsewhere_in shape text = elsewhere_of shape text (before (codes "[]") text)

-- a declaration whose text is this, and after `__rel_loc` this
abbrev pub relative_of : List ℕ → Option (List ℕ) → Option Declaration
relative_of text (Some rest) = elsewhere_in Relative rest
relative_of text None = direct_in text

-- a declaration whose text is this, and after `__data_loc` this
abbrev pub located_of : List ℕ → Option (List ℕ) → Option Declaration
located_of text (Some rest) = elsewhere_in Located rest
located_of text None = relative_of text (after (codes "__rel_loc ") text)

-- what a declaration says
unfoldable pub declaration_in : List ℕ → Option Declaration
declaration_in text = located_of text (after (codes "__data_loc ") text)
