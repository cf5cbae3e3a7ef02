-- Pages none of which has smaller ones, and one page more.
use Rattle.std.proofs.Common.{◌≡◌, ◌∙◌, ℕ, zero, suc, ◌+◌, ◌*◌, ◌≤◌, ◌<◌, List, [], ◌∷◌, ◌++◌, length, take, drop}
use Rattle.std.proofs.Common.{Option, Some, None, refl, ap, ap₂, arith, append-nil, length-append}
use Rattle.std.proofs.Common.{length-drop}
use Rattle.std.proofs.lemmas.List.{take_all, drop_all, take-append-le, drop-append-le, nil_from_length}
use Rattle.capture.specs.Smaller.{smaller_in, first_of_both, smaller_within, smaller_pages}

none_both : (a b : Option ℕ) → first_of_both a b ≡ None → (a ≡ None) × (b ≡ None)
none_both None b e = (refl, e)
none_both (Some x) b e = absurd cc

or_none : (a : Option ℕ) → first_of_both a None ≡ a
or_none None = refl
or_none (Some x) = refl

pub in-none : smaller_in [] ≡ None
unfolding smaller_in
in-none = refl

pub within-nil : (count size : ℕ) → smaller_within count size [] ≡ None
within-nil zero size = refl
within-nil (suc count) size =
    ap₂ (λ (page rest : List ℕ). first_of_both (smaller_in page) (smaller_within count size rest))
    (take_all size [] (omega arith)) (drop_all size [] (omega arith))
    ∙ ap (λ (found : Option ℕ). first_of_both found (smaller_within count size [])) in-none
    ∙ within-nil count size

-- the first page alone
one_page : (count size : ℕ) (page : List ℕ) → length page ≤ size
    → smaller_within (suc count) size page ≡ smaller_in page
one_page count size page fits =
    ap₂ (λ (page rest : List ℕ). first_of_both (smaller_in page) (smaller_within count size rest))
    (take_all size page fits) (drop_all size page fits)
    ∙ ap (first_of_both (smaller_in page)) (within-nil count size) ∙ or_none (smaller_in page)

-- The page behind whole pages that have none.
within_behind : (n fuel count size : ℕ) (front page : List ℕ) → length front ≡ size * n → length page ≤ size
    → n ≤ fuel → n < count → smaller_within fuel size front ≡ None
    → smaller_within count size (front ++ page) ≡ smaller_in page
within_behind n fuel zero size front page whole fits few below none = absurd (omega (arith, below))
within_behind zero fuel (suc count) size front page whole fits few below none =
    ap (λ (xs : List ℕ). smaller_within (suc count) size (xs ++ page)) (nil_from_length front (omega (arith, whole)))
    ∙ one_page count size page fits
within_behind (suc n) zero (suc count) size front page whole fits few below none = absurd (omega (arith, few))
within_behind (suc n) (suc fuel) (suc count) size front page whole fits few below none =
    let long : size ≤ length front = omega (arith, whole) in
    let rest : length (drop size front) ≡ size * n = omega (arith, whole, length-drop size front) in
    let both = none_both (smaller_in (take size front)) (smaller_within fuel size (drop size front)) none in
    ap₂ (λ (own others : List ℕ). first_of_both (smaller_in own) (smaller_within count size others))
    (take-append-le size front page long) (drop-append-le size front page long)
    ∙ ap (λ (found : Option ℕ). first_of_both found (smaller_within count size (drop size front ++ page))) both.0
    ∙ within_behind n fuel count size (drop size front) page rest fits (omega (arith, few)) (omega (arith, below))
    both.1

-- whole pages, none of which has smaller ones
pub record ArePlain (size : ℕ) (front : List ℕ) : Type 0 where
  pub count : ℕ
  pub whole : length front ≡ size * count
  pub none : smaller_pages size front ≡ None

pub plain-none : (size : ℕ) → ArePlain size []
plain-none size = record { count = 0; whole = omega arith; none = refl }

pub count-most : (size count long : ℕ) → 0 < size → long ≡ size * count → count ≤ long
count-most size zero long some whole = omega arith
count-most (suc size) (suc count) long some whole =
    let more = count-most (suc size) count (suc size * count) some refl in omega (arith, whole, more)
count-most zero (suc count) long some whole = absurd (omega (arith, some))

-- what the page behind them shows is shown first
pub shown-behind : (size : ℕ) (front page : List ℕ) → ArePlain size front → 0 < size → 0 < length page
    → length page ≤ size → smaller_pages size (front ++ page) ≡ smaller_in page
shown-behind size front page are some there fits =
    let most = count-most size are.count (length front) some are.whole in
    within_behind are.count (length front) (length (front ++ page)) size front page are.whole fits most
    (omega (arith, most, there, length-append front page)) are.none

whole_more : (size n a b : ℕ) → a ≡ size * n → b ≡ size → a + b ≡ size * suc n
whole_more size n a b whole one = omega arith

pub plain-page : (size : ℕ) (front page : List ℕ) → ArePlain size front → 0 < size → length page ≡ size
    → smaller_in page ≡ None → ArePlain size (front ++ page)
plain-page size front page are some long none = record {
  count = suc are.count;
  whole = length-append front page ∙ whole_more size are.count (length front) (length page) are.whole long;
  none = shown-behind size front page are some (omega (arith, long, some)) (omega (arith, long)) ∙ none;
}

pub plain-rest : (size : ℕ) (front page : List ℕ) → ArePlain size front → 0 < size → length page ≤ size
    → smaller_in page ≡ None → smaller_pages size (front ++ page) ≡ None
plain-rest size front [] are some fits none = ap (smaller_pages size) (append-nil front) ∙ are.none
plain-rest size front (x ∷ page) are some fits none =
    shown-behind size front (x ∷ page) are some (omega arith) fits ∙ none
