-- A write within a list.
use Rattle.std.proofs.Common.{◌≡◌, ℕ, ◌+◌, ◌-◌, ◌≤◌, List, [], ◌++◌, length, take, drop, ap, ◌∙◌, arith, length-drop}
use Rattle.std.proofs.lemmas.List.{drop_at, drop-drop, append-nil, drop_all, take_rest, length-take}
use borrow.Rule.Slice.PartMut.{put_mid}
use Rattle.record_words.specs.Puts.{Puts}

-- a write at the front of what is at an offset: what is written is at the offset then
pub put_at : (old part a : List ℕ) (at k : ℕ) → at ≤ length old → k ≡ length old - at
    → Puts (take k (drop at old)) part a
    → drop at (put_mid at k old part) ≡ a ++ drop (at + length a) old
put_at old part a at k inside k_is put =
    let all : take k (drop at old) ≡ drop at old = ap (λ (i : ℕ). take i (drop at old)) k_is ∙ take_rest old at in
    let none : drop k (drop at old) ≡ [] = drop_all k (drop at old) (omega (arith, length-drop at old)) in
    let long : length (take at old) ≡ at = omega (arith, length-take at old) in
    drop_at (take at old) (part ++ drop k (drop at old)) at long
    ∙ ap (λ (xs : List ℕ). part ++ xs) none ∙ append-nil part ∙ put ∙ ap (λ (xs : List ℕ). a ++ drop (length a) xs) all
    ∙ ap (λ (xs : List ℕ). a ++ xs) (drop-drop (length a) at old)
