-- How many records fills have room for.
use Rattle.std.proofs.Common.{ℕ, suc, ◌-◌, ◌*◌, ◌<◌, ◌≤◌, Bool, true, false, cond, List, [], ◌∷◌, length, get_or}
use Rattle.std.proofs.Common.{flat_map, arith, length-append}
use Rattle.std.specs.Prelude.{nat_le}
use Rattle.trace_model.specs.Words.{slot_len, encoded_len}
use Rattle.trace_model.specs.History.{Reservation}
use Rattle.trace_model.specs.Packing.{len_behind, fill_len}
use Rattle.trace_model.proofs.words.Lengths.{slot_len_ge_four}

four_at_least : (short : Bool) → 4 ≤ cond short 4 8
four_at_least true = omega arith
four_at_least false = omega arith

-- a record takes eight bytes at least
encoded_len_ge : (len delta : ℕ) (first : Bool) → 8 ≤ encoded_len len delta first
encoded_len_ge len delta first = let word = four_at_least (nat_le (slot_len len) 112) in
    let slot = slot_len_ge_four len in
    omega arith

len_behind_ge : (prev : ℕ) (records : List Reservation) → 8 * length records ≤ len_behind prev records
len_behind_ge prev [] = omega arith
len_behind_ge prev (r ∷ records) = let here = encoded_len_ge r.len (r.moment - prev) false in
    let rest = len_behind_ge r.moment records in
    omega arith

pub fill_len_ge : (records : List Reservation) → 8 * length records ≤ fill_len records
fill_len_ge [] = omega arith
fill_len_ge (r ∷ records) = let here = encoded_len_ge r.len 0 true in
    let rest = len_behind_ge r.moment records in
    omega arith

-- if fills have this much room, they hold at most that
pub fills_hold : (room : ℕ) (fills : List (List Reservation))
    → ((k : ℕ) → k < length fills → fill_len (get_or fills k []) ≤ room)
    → 8 * length (flat_map (λ fill. fill) fills) ≤ room * length fills
fills_hold room [] rooms = omega arith
fills_hold room (fill ∷ fills) rooms =
    let here = rooms 0 (omega arith) in let each = fill_len_ge fill in
    let rest = fills_hold room fills (λ k low. rooms (suc k) (omega arith)) in
    omega (arith, length-append fill (flat_map (λ x. x) fills))
