-- Texts that are put one after the other.
use Rattle.std.proofs.Common.{◌≡◌, ℕ, ◌+◌, ◌<◌, ◌≤◌, List, [], ◌∷◌, ◌++◌, length, get_or, take, flat_map, refl, sym, ap}
use Rattle.std.proofs.Common.{◌∙◌, subst, arith, length-take-le}
use Rattle.std.specs.List.{AllZip, enumerate_from}
use Rattle.std.proofs.lemmas.List.{append-nil, flat_map_more, take_all, take_more}

-- one element after the others has the number after theirs
pub numbered_behind : {X : Type 0} (n : ℕ) (xs : List X) (x : X)
    → enumerate_from n (xs ++ x ∷ []) ≡ enumerate_from n xs ++ (n + length xs, x) ∷ []
numbered_behind {X} n [] x =
    let e : n ≡ n + 0 = omega arith in
    ap {A = ℕ} {B = List (ℕ × X)} (λ k. (k, x) ∷ []) e
numbered_behind {X} n (y ∷ xs) x =
    let rest = numbered_behind (n + 1) xs x in
    let e : n + 1 + length xs ≡ n + length (y ∷ xs) = omega arith in
    let below : enumerate_from (n + 1) (xs ++ x ∷ []) ≡ enumerate_from (n + 1) xs ++ (n + length (y ∷ xs), x) ∷ [] =
    rw e at rest in
    ap {A = List (ℕ × X)} {B = List (ℕ × X)} (λ ps. (n, y) ∷ ps) below

-- the text of one more, numbered by how many are before it
pub text_more : {X : Type 0} (f : ℕ × X → List ℕ) (before so_far out : List ℕ) (xs : List X) (x : X) (n : ℕ)
    → length xs ≡ n
    → so_far ≡ before ++ flat_map f (enumerate_from 0 xs) → out ≡ so_far ++ f (n, x)
    → out ≡ before ++ flat_map f (enumerate_from 0 (xs ++ x ∷ []))
text_more f before so_far out xs x n count so_far_is out_is =
    let number : 0 + length xs ≡ n = omega arith in
    let more = numbered_behind 0 xs x in
    let last = flat_map_more f before (enumerate_from 0 xs) (n, x) in
    rw (out_is, so_far_is, more, number) last

-- two lists whose elements are related in pairs are equally long
pub zip_length : {A B : Type 0} (R : A → B → Type 0) (xs : List A) (ys : List B) → AllZip R xs ys
    → length xs ≡ length ys
zip_length R [] [] all = refl
zip_length R [] (y ∷ ys) all = absurd all
zip_length R (x ∷ xs) [] all = absurd all
zip_length R (x ∷ xs) (y ∷ ys) all = let e = zip_length R xs ys all.1 in omega arith

-- one more of each
pub zip_more : {A B : Type 0} (R : A → B → Type 0) (xs : List A) (ys : List B) (x : A) (y : B) → AllZip R xs ys
    → R x y → AllZip R (xs ++ x ∷ []) (ys ++ y ∷ [])
zip_more R [] [] x y all one = (one, tt)
zip_more R [] (z ∷ ys) x y all one = absurd all
zip_more R (z ∷ xs) [] x y all one = absurd all
zip_more R (w ∷ xs) (z ∷ ys) x y all one = (all.0, zip_more R xs ys x y all.1 one)

-- ---- what is put of each

-- out is what was there before, then the text of these elements: of each what is shown of it, numbered from 0.
pub record ArePut (A B : Type 0) (IsShown : A → B → Type 0) (text_of : ℕ × B → List ℕ) (xs : List A)
    (before out : List ℕ)
    : Type 0 where
  pub shown : List B
  pub each : AllZip IsShown xs shown
  pub text : out ≡ before ++ flat_map text_of (enumerate_from 0 shown)

-- of none there is none
pub put_none : (A B : Type 0) (IsShown : A → B → Type 0) (text_of : ℕ × B → List ℕ) (before : List ℕ)
    → ArePut A B IsShown text_of [] before before
put_none A B IsShown text_of before = record { shown = []; each = tt; text = sym (append-nil before) }

-- and so it does with that of the next
pub put_more : (A B : Type 0) (IsShown : A → B → Type 0) (text_of : ℕ × B → List ℕ) (xs : List A) (i : ℕ) (x : A)
    (before so_far out : List ℕ) (shown : B)
    → i < length xs → x ≡ get_or xs i x → ArePut A B IsShown text_of (take i xs) before so_far
    → IsShown x shown
    → out ≡ so_far ++ text_of (i, shown) → ArePut A B IsShown text_of (take (i + 1) xs) before out
put_more A B IsShown text_of xs i x before so_far out shown inside is put one text =
    let more : take (i + 1) xs ≡ take i xs ++ x ∷ [] =
    take_more xs i x inside ∙ ap (λ (y : A). take i xs ++ y ∷ []) (sym is) in
    let so_many = zip_length IsShown (take i xs) put.shown put.each in
    let taken : length (take i xs) ≡ i = length-take-le i xs (omega arith) in
    record {
      shown = put.shown ++ shown ∷ [];
      each = subst (λ (ys : List A). AllZip IsShown ys (put.shown ++ shown ∷ [])) (sym more)
          (zip_more IsShown (take i xs) put.shown x shown put.each one);
      text = text_more text_of before so_far out put.shown shown i (sym so_many ∙ taken) put.text text;
    }

-- after the last it is the text of all
pub put_all : (A B : Type 0) (IsShown : A → B → Type 0) (text_of : ℕ × B → List ℕ) (xs : List A) (i : ℕ)
    (before out : List ℕ) → length xs ≤ i → ArePut A B IsShown text_of (take i xs) before out
    → (shown : List B) × AllZip IsShown xs shown × (out ≡ before ++ flat_map text_of (enumerate_from 0 shown))
put_all A B IsShown text_of xs i before out last put =
    (put.shown, subst (λ (ys : List A). AllZip IsShown ys put.shown) (take_all i xs last) put.each, put.text)
