-- Which texts a pattern matches.
use Rattle.std.specs.Prelude.{◌≡◌, ℕ, suc, ◌≤◌, ◌==◌, ◌||◌, ◌&&◌, Bool, true, false, if◌then◌else◌, List, [], ◌∷◌}
use Rattle.std.specs.Prelude.{zero, ◌^◌, ◌++◌, length, drop, slice_index_or, Option, Some, None}
use Rattle.trace_dat.specs.kernel_texts.Names.{Event}
use Rattle.event_fields.specs.Texts.{cut_at}

-- a byte of a pattern that isn't `*` stands for this one
abbrev pub is_such : (wanted byte : ℕ) → Bool
is_such wanted byte = wanted == 63 || wanted == byte

abbrev pub is_no_text : List ℕ → Bool
is_no_text [] = true
is_no_text (b ∷ bs) = false

-- an end of a text is such, all of it or none of it too
abbrev pub some_end : (List ℕ → Bool) → List ℕ → Bool
some_end is_matched [] = is_matched []
some_end is_matched (b ∷ bs) = is_matched (b ∷ bs) || some_end is_matched bs

-- a text begins with a byte that this one stands for, and what is after it is such
abbrev pub begins_with : (wanted : ℕ) → (List ℕ → Bool) → List ℕ → Bool
begins_with wanted is_matched [] = false
begins_with wanted is_matched (b ∷ bs) = is_such wanted b && is_matched bs

-- behind a byte of a pattern, what is after it matches so
abbrev pub matches_behind : (wanted : ℕ) → (List ℕ → Bool) → List ℕ → Bool
matches_behind wanted is_matched text =
    if wanted == 42 then some_end is_matched text else begins_with wanted is_matched text

-- Whether a pattern matches a text: `*` stands for any bytes, `?` for one byte, and each other byte for itself.
abbrev pub matches : (pattern text : List ℕ) → Bool
matches [] text = is_no_text text
matches (p ∷ ps) text = matches_behind p (matches ps) text

-- which ends of a text are such, by where they begin
pub record IsRow (is_matched : List ℕ → Bool) (text : List ℕ) (row : List Bool) : Type 0 where
  pub count : length row ≡ suc (length text)
  pub each : (at : ℕ) → at ≤ length text → slice_index_or row at false ≡ is_matched (drop at text)

abbrev pub is_named_by : (pattern : List ℕ) → Option (List ℕ × List ℕ) → Event → Bool
is_named_by pattern None event = matches pattern event.name
is_named_by pattern (Some parts) event = matches parts.0 event.system && matches parts.1 event.name

-- Whether a pattern names an event: what is before its first `:` is for the system, if it has one, and what is after it
-- for the event's own name.
abbrev pub is_named : (pattern : List ℕ) → Event → Bool
is_named pattern event = is_named_by pattern (cut_at 58 pattern) event

abbrev pub is_named_event : (pattern : List ℕ) → Option Event → Bool
is_named_event pattern None = false
is_named_event pattern (Some event) = is_named pattern event

-- the events of the numbers below this one that a pattern names
unfoldable pub marks_below : (pattern : List ℕ) → (ℕ → Option Event) → ℕ → List Bool
marks_below pattern event_by zero = []
marks_below pattern event_by (suc id) = marks_below pattern event_by id ++ is_named_event pattern (event_by id) ∷ []

-- The events that a pattern names, each marked at the place that is its number.
abbrev pub marks_of : (pattern : List ℕ) → (ℕ → Option Event) → List Bool
marks_of pattern event_by = marks_below pattern event_by (2 ^ 16)
