-- The payloads of frames, which are kept with the bottom frame's first and shown with the top one's first.
use Rattle.std.proofs.Common.{◌≡◌, ℕ, suc, ◌+◌, ◌-◌, ◌<◌, ◌≤◌, List, [], ◌∷◌, length, take, drop, get_or, reverse, map}
use Rattle.std.proofs.Common.{sym, ap, ◌∙◌, arith}
use Rattle.std.specs.Prelude.{slice_set}
use Rattle.std.proofs.lemmas.List.{map-append, reverse-append, length-map, length-take-le, take-take, take_more_set}
use Rattle.std.proofs.lemmas.List.{get_or-take, get_or-map, get_or-reverse}
use Rattle.ring_frames.proofs.FramePayloads.{left_first}

-- ---- one more

pub pushed_first : {B : Type 0} (f : B → List ℕ) (items : List B) (depth : ℕ) (x : B)
    → depth < length items
    → reverse (map f (take (suc depth) (slice_set items depth x))) ≡ f x ∷ reverse (map f (take depth items))
pushed_first f items depth x low =
    let next : suc depth ≡ depth + 1 = omega arith in
    ap (λ (k : ℕ). reverse (map f (take k (slice_set items depth x)))) next
    ∙ ap (λ (l : List _). reverse (map f l)) (take_more_set items depth x low)
    ∙ ap reverse (map-append f (take depth items) (x ∷ []))
    ∙ reverse-append (map f (take depth items)) (f x ∷ [])

-- ---- those of the lowest frames are the last ones

pub fewer_left : {B : Type 0} (f : B → List ℕ) (items : List B) (depth fewer : ℕ)
    → fewer ≤ depth
    → reverse (map f (take fewer items))
    ≡ drop (length (reverse (map f (take depth items))) - fewer) (reverse (map f (take depth items)))
fewer_left f items depth fewer few =
    ap (λ (l : List _). reverse (map f l)) (sym (take-take fewer depth items few))
    ∙ left_first f (take depth items) fewer

-- ---- the top one's

pub first_is : {B : Type 0} (f : B → List ℕ) (items : List B) (depth : ℕ) (x : B) (payload : List ℕ)
    (rest : List (List ℕ))
    → depth ≤ length items
    → 0 < depth
    → x ≡ get_or items (depth - 1) x
    → reverse (map f (take depth items)) ≡ payload ∷ rest
    → f x ≡ payload
first_is f items depth x payload rest room some at is =
    let front : List _ = take depth items in
    let xs : List (List ℕ) = map f front in
    let many : length front ≡ depth = length-take-le depth items room in
    let as_long : length xs ≡ length front = length-map front f in
    ap f at
    ∙ ap f (sym (get_or-take depth items (depth - 1) x (omega arith)))
    ∙ sym (get_or-map f front (depth - 1) x (f x) (omega (arith, many)))
    ∙ ap (λ (k : ℕ). get_or xs k (f x)) (let e : depth - 1 ≡ length xs - 1 - 0 = omega (arith, as_long, many) in e)
    ∙ sym (get_or-reverse xs 0 (f x) (omega (arith, as_long, many)))
    ∙ ap (λ (l : List (List ℕ)). get_or l 0 (f x)) is
