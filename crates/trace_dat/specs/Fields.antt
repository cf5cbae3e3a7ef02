-- What is at the front of a part: numbers, bytes, texts. A field is a value and the part after it.
use Rattle.std.specs.Prelude.{◌≡◌, ℕ, zero, suc, ◌+◌, List, [], ◌∷◌, ◌++◌, length, take, drop, Option, Some, None}
use Rattle.std.specs.Prelude.{Result, Ok, Err, ⊤, nat_lt, nat_eq, ◌==◌, if◌then◌else◌}
use Rattle.std.specs.Int.{Width, w64, byte_len, from_le_bytes}
use Rattle.std.specs.List.{position, starts_with}
use Rattle.trace_dat.specs.declared.fault.Fault.{Fault}
use Rattle.trace_dat.specs.declared.fault.Cause.{Cause}
use Rattle.trace_dat.specs.declared.fault.Cause.TheVariants.{Cut, OutsideFile}
use Rattle.trace_dat.specs.declared.fault.ReadError.{ReadError}
use Rattle.trace_dat.specs.declared.fault.ReadError.TheVariants as errors
use Rattle.trace_dat.specs.Parts.{FilePart, FileExtent}

-- what is read, or the first fault
abbrev pub Reading : Type 0 → Type 0
Reading A = Result A Fault

-- one reading after the other
infixl 10 ◌>>=◌
abbrev pub ◌>>=◌ : {A B : Type 0} → Reading A → (A → Reading B) → Reading B
(Ok x) >>= f = f x
(Err e) >>= f = Err e

-- an error that a reader answers: the fault of the reading, or the refusal of memory, of which nothing is said
abbrev pub Fails : {A : Type 0} → ReadError → Reading A → Type 0
Fails errors.NoMemory reading = ⊤
Fails (errors.Fault fault) reading = reading ≡ Err fault

-- A reader answers what the reading is, each value as `view` shows it.
abbrev pub Gives : {X A : Type 0} → (X → A) → Result X ReadError → Reading A → Type 0
Gives view (Ok x) reading = reading ≡ Ok (view x)
Gives view (Err e) reading = Fails e reading

-- the fault of this cause at the front of a part
abbrev pub fault_at : {A : Type 0} → Cause → FilePart → Reading A
fault_at cause part = Err (record { cause = cause; at = part.at })

-- a part without its first bytes
abbrev pub behind : ℕ → FilePart → FilePart
behind len part = record { at = part.at + len; bytes = drop len part.bytes }

-- the first bytes of a part
abbrev pub front : ℕ → FilePart → FilePart
front len part = record { at = part.at; bytes = take len part.bytes }

-- this number of bytes at the front of a part, as a part of their own, and the rest
unfoldable pub part_at : ℕ → FilePart → Reading (FilePart × FilePart)
part_at len part = if nat_lt (length part.bytes) len then fault_at Cut part else Ok (front len part, behind len part)

-- a number of some width, the lowest byte first
unfoldable pub number_at : Width → FilePart → Reading (ℕ × FilePart)
number_at w part = do
  bytes ← part_at (byte_len w) part
  Ok (from_le_bytes w bytes.0.bytes, bytes.1)

-- a number of some width, and as many bytes
unfoldable pub block_at : Width → FilePart → Reading (FilePart × FilePart)
block_at w part = do
  len ← number_at w part
  part_at len.0 len.1

-- a text and the zero byte that ends it, which is at this place
abbrev pub text_to : Option ℕ → FilePart → Reading (List ℕ × FilePart)
text_to None part = fault_at Cut part
text_to (Some len) part = Ok (take len part.bytes, behind (len + 1) part)

-- a text and the first zero byte, which ends it
unfoldable pub text_at : FilePart → Reading (List ℕ × FilePart)
text_at part = text_to (position (λ b. b == 0) part.bytes) part

-- these bytes, or else the fault of this cause
unfoldable pub expected_at : List ℕ → Cause → FilePart → Reading FilePart
expected_at text cause part =
    if starts_with nat_eq part.bytes text then Ok (behind (length text) part) else fault_at cause part

-- A pointer: an offset in the file. It points to the part of the file from there on.
unfoldable pub pointed_at : List ℕ → FilePart → Reading (FilePart × FilePart)
pointed_at file part = do
  offset ← number_at w64 part
  if nat_lt (length file) offset.0 then fault_at OutsideFile part
      else Ok (record { at = offset.0; bytes = drop offset.0 file }, offset.1)

-- What the file has of a range, this many bytes from an offset on. If the file ends before the range does, this is a
-- fault of the place `at` where the range is stated.
abbrev pub extent_of : List ℕ → (at offset size : ℕ) → FileExtent
extent_of file at offset size = record {
  bytes = take size (drop offset file);
  fault =
      if nat_lt (length file) (offset + size) then Some (record { cause = OutsideFile; at = at }) else None;
}

-- a range: an offset in the file, and how many bytes there are meant
unfoldable pub range_at : List ℕ → FilePart → Reading (FileExtent × FilePart)
range_at file part = do
  offset ← number_at w64 part
  size ← number_at w64 offset.1
  Ok (extent_of file part.at offset.0 size.0, size.1)

-- This count of fields, one after the other, of which each gives a list, joined. The field is given its index.
unfoldable pub all_at : {A : Type 0} → (ℕ → FilePart → Reading (List A × FilePart)) → ℕ → ℕ → FilePart
    → Reading (List A × FilePart)
all_at field index zero part = Ok ([], part)
all_at field index (suc count) part = do
  first ← field index part
  others ← all_at field (index + 1) count first.1
  Ok (first.0 ++ others.0, others.1)

-- a list after what was read before it
abbrev pub with_front : {A B : Type 0} → List A → Reading (List A × B) → Reading (List A × B)
with_front before reading = reading >>= λ x. Ok (before ++ x.0, x.1)

-- for each of some things a list, joined
unfoldable pub each_of : {X A : Type 0} → (X → Reading (List A)) → List X → Reading (List A)
each_of of [] = Ok []
each_of of (x ∷ xs) = do
  first ← of x
  others ← each_of of xs
  Ok (first ++ others)

-- a list after what was read before it
abbrev pub with_list : {A : Type 0} → List A → Reading (List A) → Reading (List A)
with_list before reading = reading >>= λ xs. Ok (before ++ xs)
