-- A piece that is filled part by part.
use Rattle.std.proofs.Common.{◌≡◌, ◌∙◌, ℕ, ◌+◌, ◌≤◌, List, ◌++◌, length, take, drop, ap, arith, length-append}
use Rattle.std.proofs.lemmas.List.{length-take, take-append-le}
use lib.Seq.{take-append-add}
use borrow.Rule.Slice.PartMut.{put_mid}

pub filled-more : (piece part : List ℕ) (at k count : ℕ) → at ≤ length piece → count ≤ length part
    → take (at + count) (put_mid at k piece part) ≡ take at piece ++ take count part
filled-more piece part at k count within bound =
    let rest = part ++ drop k (drop at piece) in
    let long : at ≡ length (take at piece) = omega (arith, length-take at piece) in
    ap (λ (n : ℕ). take (n + count) (take at piece ++ rest)) long
    ∙ take-append-add (take at piece) rest count
    ∙ ap (λ (xs : List ℕ). take at piece ++ xs) (take-append-le count part (drop k (drop at piece)) bound)

pub length-filled : (piece part : List ℕ) (at k : ℕ) → at ≤ length piece
    → at + length part ≤ length (put_mid at k piece part)
length-filled piece part at k within =
    omega (
      arith,
      length-append (take at piece) (part ++ drop k (drop at piece)),
      length-append part (drop k (drop at piece)),
      length-take at piece,
    )
