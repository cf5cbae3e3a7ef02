-- Facts for the answer that there is.
use Rattle.std.proofs.Common.{◌≡◌, ◌∙◌, ℕ, List, ◌++◌, length, take, drop, ap, append-nil, arith}
use Rattle.std.proofs.lemmas.List.{drop_all, take_all}
use Rattle.std.specs.Prelude.{Result, Ok, Err, OnOk}

pub on_ok : {A E P Q : Type 0} (result : Result A E) → (P → Q) → OnOk result P → OnOk result Q
on_ok (Ok x) f p = f p
on_ok (Err e) f p = p

-- what a borrow of all elements leaves
pub written-back : {X : Type 0} (n : ℕ) (new old : List X) → length new ≡ n → length old ≡ n
    → take n (new ++ drop (length new) old) ≡ new
written-back n new old long kept =
    ap (λ xs. take n (new ++ xs)) (drop_all (length new) old (omega (arith, long, kept))) ∙ ap (take n) (append-nil new)
    ∙ take_all n new (omega (arith, long))
