-- What is read of a list, part after part.
use Rattle.std.proofs.Common.{◌≡◌, ℕ, suc, ◌+◌, ◌<◌, ◌≤◌, List, [], ◌∷◌, ◌++◌, Bool, true, false, not, length, take}
use Rattle.std.proofs.Common.{drop, Option, None, Some, refl, sym, ap, ◌∙◌, arith, append_assoc, append-nil}
use Rattle.std.specs.List.{prefix_len, position as first_place}
use Rattle.std.proofs.lemmas.Bool.Decides.{nat_tests}
use Rattle.command_line.specs.ListWords.{is_comma, is_listed, marks_from, parts_behind, parts_of}
use Rattle.command_line.specs.ListWords.{with_byte}

-- ---- the first part of a list

abbrev before_comma : List ℕ → ℕ
before_comma = prefix_len (λ byte. not (is_comma byte))

-- a list without a comma is one part
whole_by : (test : Bool) (byte : ℕ) (list : List ℕ) → is_comma byte ≡ test
    → suc (length list) ≤ before_comma (byte ∷ list) → (length list ≤ before_comma list → parts_of list ≡ list ∷ [])
    → parts_of (byte ∷ list) ≡ (byte ∷ list) ∷ []
whole_by true byte list comma is behind =
    absurd (let none : suc (length list) ≤ 0 = rw comma at is in omega (arith, none))
whole_by false byte list comma is behind =
    let less : suc (length list) ≤ 1 + before_comma list = rw comma at is in
    rw comma (ap (with_byte byte) (behind (omega (arith, less))))

whole : (list : List ℕ) → length list ≤ before_comma list → parts_of list ≡ list ∷ []
whole [] is = refl
whole (byte ∷ list) is = whole_by (is_comma byte) byte list refl is (λ less. whole list less)

-- one with a comma is what is before it, and the parts behind it
abbrev IsCut : List ℕ → Type 0
IsCut list = parts_of list ≡ take (before_comma list) list ∷ parts_of (drop (suc (before_comma list)) list)

cut_by : (test : Bool) (byte : ℕ) (list : List ℕ) → is_comma byte ≡ test
    → before_comma (byte ∷ list) < suc (length list) → (before_comma list < length list → IsCut list)
    → IsCut (byte ∷ list)
cut_by true byte list comma is behind = rw comma refl
cut_by false byte list comma is behind =
    let less : 1 + before_comma list < suc (length list) = rw comma at is in
    let one : 1 + before_comma list ≡ suc (before_comma list) = omega arith in
    rw comma (rw one (ap (with_byte byte) (behind (omega (arith, less)))))

cut : (list : List ℕ) → before_comma list < length list → IsCut list
cut [] is = absurd (omega (arith, is))
cut (byte ∷ list) is = cut_by (is_comma byte) byte list refl is (λ less. cut list less)

pub whole_part : (list : List ℕ) → first_place is_comma list ≡ None → parts_of list ≡ list ∷ parts_behind None
whole_part list none =
    let far : length list ≤ before_comma list = grind (arith, nat_tests, none) in
    whole list far

pub cut_part : (list part rest : List ℕ) (at : ℕ) → first_place is_comma list ≡ Some at → part ≡ take at list
    → rest ≡ drop (at + 1) list → parts_of list ≡ part ∷ parts_behind (Some rest)
cut_part list part rest at some before after =
    let near : (before_comma list < length list) × (before_comma list ≡ at) = grind (arith, nat_tests, some) in
    let next : at + 1 ≡ suc (before_comma list) = omega (arith, near.1) in
    rw (before, after, next, sym near.1) (cut list near.0)

-- ---- the marks of CPUs

pub mark_more : (list : List ℕ) (all before : List Bool) (cpu count : ℕ)
    → all ≡ before ++ marks_from list cpu (suc count)
    → all ≡ (before ++ is_listed list cpu ∷ []) ++ marks_from list (cpu + 1) count
unfolding marks_from
mark_more list all before cpu count so_far =
    so_far ∙ sym (append_assoc before (is_listed list cpu ∷ []) (marks_from list (cpu + 1) count))

pub no_marks_left : (list : List ℕ) (all before : List Bool) (cpu : ℕ)
    → all ≡ before ++ marks_from list cpu 0 → before ≡ all
unfolding marks_from
no_marks_left list all before cpu so_far = sym (so_far ∙ append-nil before)

-- ---- loops

-- how much is left of a list
abbrev pub bytes_left : Option (List ℕ) → ℕ
bytes_left None = 0
bytes_left (Some list) = length list + 1
