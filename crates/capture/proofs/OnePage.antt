-- What shows that a page is several, and what doesn't.
use Rattle.std.proofs.Common.{◌≡◌, ◌∙◌, ℕ, zero, suc, ◌+◌, ◌-◌, ◌*◌, ◌%◌, ◌^◌, ◌≤◌, ◌<◌, Bool, true, false}
use Rattle.std.proofs.Common.{List, [], ◌∷◌, ◌++◌, length, take, drop, replicate, Option, Some, None, refl, sym, ap}
use Rattle.std.proofs.Common.{ap₂, arith, leb-true, le-leb, append_assoc, length-append, length-drop}
use Rattle.std.specs.Prelude.{◌&&◌, nat_lt, nat_le, if◌then◌else◌}
use Rattle.std.proofs.lemmas.List.{length-replicate, replicate-append-replicate, drop_at, drop-drop, take-append-le}
use Rattle.std.proofs.lemmas.List.{drop-append-le, nil_from_length}
use Rattle.trace_model.specs.Image.{le64, from_le64}
use Rattle.trace_model.proofs.images.ImageParts.{from_le64-le64, from_le64-take}
use Rattle.capture.specs.stamps.Restored.{stated_size}
use Rattle.capture.specs.Smaller.{has_plain_bits, begins_page, comes_after, has_page_at, first_shown, small_sizes}
use Rattle.capture.specs.Smaller.{smaller_in, first_of_both, smaller_within, smaller_pages}
use Rattle.capture.proofs.SmallerPages.{within-nil, count-most}

-- ---- zeros behind the data

no_data : (a b c d e f : Bool) → (a ≡ true → b ≡ true → c ≡ false) → (a && b && (c && d && e) && f) ≡ false
no_data false b c d e f not = refl
no_data true false c d e f not = refl
no_data true true false d e f not = refl
no_data true true true d e f not = absurd (let none = not refl refl in cc)

eight_zeros : (n : ℕ) → from_le64 (replicate (8 + n) 0) ≡ 0
unfolding le64
eight_zeros n = ap from_le64 (sym (replicate-append-replicate 8 n 0)) ∙ from_le64-le64 0 (replicate n 0) (omega arith)

zeros_at : (page front : List ℕ) (n at : ℕ) → page ≡ front ++ replicate n 0 → length front ≤ at → at + 8 ≤ length page
    → from_le64 (drop at page) ≡ 0
zeros_at page front n at is before within =
    let long = ap length is ∙ length-append front (replicate n 0) in
    let count : length (replicate n 0) ≡ n = length-replicate {A = ℕ} n 0 in
    let own : ℕ = at - length front in
    let more : ℕ = n - own - 8 in
    let parts : n ≡ own + (8 + more) = omega (arith, long, count, within, before) in
    ap (λ (bytes : List ℕ). from_le64 (drop at bytes))
    (is ∙ ap (λ (k : ℕ). front ++ replicate k 0) parts
    ∙ ap (λ (zeros : List ℕ). front ++ zeros) (sym (replicate-append-replicate own (8 + more) 0))
    ∙ sym (append_assoc front (replicate own 0) (replicate (8 + more) 0)))
    ∙ ap from_le64 (drop_at (front ++ replicate own 0) (replicate (8 + more) 0) at
    (omega (arith, before, length-append front (replicate own 0), length-replicate {A = ℕ} own 0)))
    ∙ eight_zeros more

no_size : (page front : List ℕ) (n size : ℕ) → page ≡ front ++ replicate n 0
    → length front ≤ 24 + stated_size page → has_page_at size page ≡ false
no_size page front n size is before = no_data (nat_le (size + 16) (length page)) (nat_le (16 + stated_size page) size)
    (nat_lt 0 (stated_size (drop size page))) (nat_le (16 + stated_size (drop size page)) size)
    (has_plain_bits (drop size page)) (comes_after (from_le64 page) (from_le64 (drop size page)))
    (λ long fits.
    let within = leb-true (size + 16) (length page) long in
    let inside = leb-true (16 + stated_size page) size fits in
    let none : from_le64 (drop (size + 8) page) ≡ 0 =
    zeros_at page front n (size + 8) is (omega (arith, before, inside)) (omega (arith, within)) in
    ap (λ (k : ℕ). nat_lt 0 (k % 2 ^ 30)) (ap from_le64 (drop-drop 8 size page) ∙ none))

none_shown : (sizes page : List ℕ) → ((size : ℕ) → has_page_at size page ≡ false) → first_shown sizes page ≡ None
none_shown [] page not = refl
none_shown (size ∷ sizes) page not =
    ap (λ (b : Bool). if b then Some size else first_shown sizes page) (not size) ∙ none_shown sizes page not

pub zeros-show-none : (page front : List ℕ) (n : ℕ) → page ≡ front ++ replicate n 0
    → length front ≤ 24 + stated_size page → smaller_in page ≡ None
unfolding smaller_in
zeros-show-none page front n is before = none_shown small_sizes page (λ size. no_size page front n size is before)

-- ---- another page behind one

from_front : (xs ys : List ℕ) → 8 ≤ length xs → from_le64 (xs ++ ys) ≡ from_le64 xs
from_front xs ys long = sym (from_le64-take (xs ++ ys)) ∙ ap from_le64 (take-append-le 8 xs ys long) ∙ from_le64-take xs

all_hold : (a b c d : Bool) → a ≡ true → b ≡ true → c ≡ true → d ≡ true → (a && b && c && d) ≡ true
all_hold true true true true a b c d = refl
all_hold false b c d is _ _ _ = absurd cc
all_hold true false c d _ is _ _ = absurd cc
all_hold true true false d _ _ is _ = absurd cc
all_hold true true true false _ _ _ is = absurd cc

pub two-pages : (size : ℕ) (page other : List ℕ) → length page ≡ size → 16 + stated_size page ≤ size
    → 16 ≤ length other → begins_page size other ≡ true → comes_after (from_le64 page) (from_le64 other) ≡ true
    → has_page_at size (page ++ other) ≡ true
two-pages size page other long fits there begins after =
    let behind : drop size (page ++ other) ≡ other = drop_at page other size long in
    let same : from_le64 (drop 8 (page ++ other)) ≡ from_le64 (drop 8 page) =
    ap from_le64 (drop-append-le 8 page other (omega (arith, long, fits)))
    ∙ from_front (drop 8 page) other (omega (arith, length-drop 8 page, long, fits)) in
    let stated : stated_size (page ++ other) ≡ stated_size page = ap (λ (k : ℕ). k % 2 ^ 30) same in
    all_hold _ _ _ _
    (le-leb (size + 16) (length (page ++ other)) (omega (arith, length-append page other, long, there)))
    (le-leb (16 + stated_size (page ++ other)) size (omega (arith, stated, fits)))
    (ap (begins_page size) behind ∙ begins)
    (ap₂ comes_after (from_front page other (omega (arith, long, fits))) (ap from_le64 behind) ∙ after)

-- ---- a beginning

goes_on : (a b c : Option ℕ) (size : ℕ) → first_of_both a b ≡ Some size → (b ≡ Some size → c ≡ Some size)
    → first_of_both a c ≡ Some size
goes_on None b c size is more = more is
goes_on (Some x) b c size is more = is

within_more : (n fuel count size smaller : ℕ) (front behind : List ℕ) → length front ≡ size * n → n ≤ count
    → smaller_within fuel size front ≡ Some smaller → smaller_within count size (front ++ behind) ≡ Some smaller
within_more zero fuel count size smaller front behind whole few is =
    let empty = nil_from_length front (omega (arith, whole)) in
    absurd (let none = sym (within-nil fuel size)
    ∙ ap (smaller_within fuel size) (sym empty) ∙ is in cc)
within_more (suc n) zero count size smaller front behind whole few is = absurd cc
within_more (suc n) (suc fuel) zero size smaller front behind whole few is = absurd (omega (arith, few))
within_more (suc n) (suc fuel) (suc count) size smaller front behind whole few is =
    let long : size ≤ length front = omega (arith, whole) in
    let rest : length (drop size front) ≡ size * n = omega (arith, whole, length-drop size front) in
    ap₂ (λ (own others : List ℕ). first_of_both (smaller_in own) (smaller_within count size others))
    (take-append-le size front behind long) (drop-append-le size front behind long)
    ∙ goes_on (smaller_in (take size front)) (smaller_within fuel size (drop size front))
    (smaller_within count size (drop size front ++ behind)) smaller is
    (λ later. within_more n fuel count size smaller (drop size front) behind rest (omega (arith, few)) later)

pub beginning-shows : (size n smaller : ℕ) (front behind : List ℕ) → 0 < size → length front ≡ size * n
    → smaller_pages size front ≡ Some smaller → smaller_pages size (front ++ behind) ≡ Some smaller
beginning-shows size n smaller front behind some whole is =
    let most = count-most size n (length front) some whole in
    within_more n (length front) (length (front ++ behind)) size smaller front behind whole
    (omega (arith, most, length-append front behind)) is
