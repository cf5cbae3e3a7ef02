-- A record of the trace: when it was made, and its bytes.
use Rattle.std.specs.Prelude.{◌≡◌, ℕ, ◌%◌, List, length}

-- The bytes are as they are in a page, with those after them that fill whole words, of four bytes each: zeros, unless
-- its writer put others there (docs/formats/pages.md, "Record words").
pub record Record : Type 0 where
  pub moment : ℕ
  pub bytes : List ℕ

-- a record whose bytes fill whole words
abbrev pub IsRecord : Record → Type 0
IsRecord r = length r.bytes % 4 ≡ 0
