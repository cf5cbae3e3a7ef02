-- Names of commands differ.
use Rattle.std.proofs.Common.{◌≡◌, ℕ, List, ◌∷◌, [], Option, Some, None, codes, ap, sym, arith}

-- the first letter of a name, if there is one
abbrev pub first_letter : Option (List ℕ) → ℕ
first_letter None = 0
first_letter (Some []) = 0
first_letter (Some (letter ∷ letters)) = letter

pub collect_is_not_recover : Some (codes "collect") ≡ Some (codes "recover") → ⊥
collect_is_not_recover same =
    let letters : 99 ≡ 114 = ap first_letter same in
    omega (arith, letters)

pub recover_is_not_collect : Some (codes "recover") ≡ Some (codes "collect") → ⊥
recover_is_not_collect same = collect_is_not_recover (sym same)
