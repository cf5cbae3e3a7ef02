-- A source whose first bytes were looked at.
use Rattle.std.proofs.Common.{◌≡◌, ℕ, ◌≤◌, ◌+◌, List, ◌++◌, length, take, drop, sym, ap, ◌∙◌, arith, length-take-le}
use Rattle.std.proofs.Common.{take-append-drop}
use Rattle.std.proofs.lemmas.List.{take_at, drop-drop}

-- the front that is given, and what is left of it
pub gives_front : (seen rest : List ℕ) (given count : ℕ) → count ≤ length (drop given seen)
    → drop given seen ≡ take count (take count (drop given seen) ++ rest) ++ drop (given + count) seen
gives_front seen rest given count fits =
    let unread : List ℕ = drop given seen in
    let front : take count (take count unread ++ rest) ≡ take count unread =
    take_at (take count unread) rest count (length-take-le count unread fits) in
    let behind : drop count unread ≡ drop (given + count) seen =
    drop-drop count given seen ∙ ap (λ (n : ℕ). drop n seen) (omega arith) in
    sym (take-append-drop count unread) ∙ (λ i. sym front i ++ behind i)
