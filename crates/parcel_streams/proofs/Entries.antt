-- The tables, entry by entry.
use Rattle.std.proofs.Common.{◌≡◌, ℕ, ◌+◌, ◌*◌, ◌<◌, List, [], map, get_or, refl, ◌∙◌, ap, arith}
use Rattle.std.specs.List.{range_with_len}
use Rattle.std.proofs.lemmas.List.FromFn.{get_or-map-range_with_len}
use Rattle.parcel_streams.specs.crc32c.Castagnoli.{next_bit, next_bits}
use Rattle.parcel_streams.specs.declared.crc32c.tables.TheConstants.{TABLES}

-- what each byte leaves after this many bits
abbrev row : ℕ → List ℕ
row bits = map (next_bits bits) (range_with_len 0 256)

-- computed
rows_made : TABLES ≡ map (λ k. row (8 * (k + 1))) (range_with_len 0 8)
unfolding next_bit next_bits
rows_made = refl

pub table_entry : (k byte : ℕ) → k < 8 → byte < 256 → get_or (get_or TABLES k []) byte 0 ≡ next_bits (8 * (k + 1)) byte
table_entry k byte p q =
    ap (λ rows. get_or (get_or rows k []) byte 0) rows_made
    ∙ ap (λ r. get_or r byte 0) (get_or-map-range_with_len (λ k. row (8 * (k + 1))) 0 8 k k [] p (omega arith))
    ∙ get_or-map-range_with_len (next_bits (8 * (k + 1))) 0 256 byte byte 0 q (omega arith)
