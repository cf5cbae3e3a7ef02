-- A list that is kept with the top frame's value last and shown with it first, as `script_replay` and `trace_run`
-- keep the payloads of frames.
use Rattle.std.proofs.Common.{◌≡◌, ℕ, ◌-◌, List, ◌++◌, length, take, drop, reverse, map, sym, ap, ◌∙◌, arith}
use Rattle.std.proofs.lemmas.List.{reverse-append, length-reverse, length-drop, take-append-drop, take-map, drop_at}

-- those of the lowest frames are the last ones
lowest_last : (xs : List (List ℕ)) (depth : ℕ)
    → reverse (take depth xs) ≡ drop (length (reverse xs) - depth) (reverse xs)
lowest_last xs depth =
    let whole : reverse xs ≡ reverse (drop depth xs) ++ reverse (take depth xs) =
    ap reverse (sym (take-append-drop depth xs)) ∙ reverse-append (take depth xs) (drop depth xs) in
    sym (ap (drop (length (reverse xs) - depth)) whole
    ∙ drop_at (reverse (drop depth xs)) (reverse (take depth xs)) (length (reverse xs) - depth)
    (omega (arith, length-reverse (drop depth xs), length-reverse xs, length-drop depth xs)))

pub left_first : {B : Type 0} (f : B → List ℕ) (items : List B) (depth : ℕ)
    → reverse (map f (take depth items)) ≡ drop (length (reverse (map f items)) - depth) (reverse (map f items))
left_first f items depth = ap reverse (sym (take-map f depth items)) ∙ lowest_last (map f items) depth
