-- Lines of pieces, part by part.
use Rattle.std.proofs.Common.{◌≡◌, List, ◌++◌, ℕ, append_assoc}

pub four_numbers : (text front a fill b first c count d missed : List ℕ)
    → ((((text ++ front) ++ (a ++ fill)) ++ (b ++ first)) ++ (c ++ count)) ++ (d ++ missed)
    ≡ text ++ (front ++ a ++ fill ++ b ++ first ++ c ++ count ++ d ++ missed)
four_numbers text front a fill b first c count d missed = simp append_assoc
