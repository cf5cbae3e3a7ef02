-- Hexadecimal digits: the table of them, and bytes in parts.
use Rattle.std.proofs.Common.{◌≡◌, ℕ, zero, suc, ◌+◌, ◌-◌, ◌<◌, ◌≤◌, true, List, [], ◌∷◌, ◌++◌, length, get_or, take}
use Rattle.std.proofs.Common.{drop, append_assoc, refl, sym, ap, ◌∙◌, arith}
use Rattle.std.specs.List.{list_all, enumerate_from}
use Rattle.std.specs.Str.{bytes_eq}
use Rattle.std.proofs.lemmas.Bool.{and_parts}
use Rattle.std.proofs.lemmas.List.{take-append-drop, take_rest}
use Rattle.std.proofs.lemmas.Slice.Eq.{bytes_eq-Decides}
use Rattle.text_values.specs.Digits.{pair_of, pairs_of}
use Rattle.text_values.specs.declared.values.TheConstants.{PAIRS}

-- ---- the table
row_in_table : (rows : List (List ℕ)) (none : List ℕ) (n i : ℕ)
    → list_all (λ (entry : ℕ × List ℕ). bytes_eq entry.1 (pair_of entry.0)) (enumerate_from n rows) ≡ true
    → i < length rows → get_or rows i none ≡ pair_of (n + i)
row_in_table [] none n i h below = absurd (omega arith)
row_in_table (row ∷ rows) none n zero h below = let here : n ≡ n + 0 = omega arith in
    (bytes_eq-Decides row (pair_of n)).0 (and_parts _ _ h).0 ∙ ap pair_of here
row_in_table (row ∷ rows) none n (suc i) h below =
    row_in_table rows none (n + 1) i (and_parts _ _ h).1 (omega arith) ∙ ap pair_of (later n i)
  where
    later : (n i : ℕ) → n + 1 + i ≡ n + suc i
    later n i = omega arith

rows_are : list_all (λ (entry : ℕ × List ℕ). bytes_eq entry.1 (pair_of entry.0)) (enumerate_from 0 PAIRS) ≡ true
rows_are = refl

rows_length : length PAIRS ≡ 256
rows_length = refl

pub pair_in_table : (byte : ℕ) (none : List ℕ) → byte < 256 → get_or PAIRS byte none ≡ pair_of byte
pair_in_table byte none small = let here : 0 + byte ≡ byte = omega arith in
    row_in_table PAIRS none 0 byte rows_are (omega (arith, rows_length)) ∙ ap pair_of here

-- the digits of eight bytes are those of both halves
pub eight_digits : (bytes front back : List ℕ) → length bytes ≡ 8
    → front ≡ pairs_of (get_or bytes 0 0 ∷ get_or bytes 1 0 ∷ get_or bytes 2 0 ∷ get_or bytes 3 0 ∷ [])
    → back ≡ pairs_of (get_or bytes 4 0 ∷ get_or bytes 5 0 ∷ get_or bytes 6 0 ∷ get_or bytes 7 0 ∷ [])
    → get_or front 0 0 ∷ get_or front 1 0 ∷ get_or front 2 0 ∷ get_or front 3 0 ∷ get_or front 4 0 ∷ get_or front 5 0
    ∷ get_or front 6 0 ∷ get_or front 7 0
    ∷ get_or back 0 0 ∷ get_or back 1 0 ∷ get_or back 2 0 ∷ get_or back 3 0 ∷ get_or back 4 0 ∷ get_or back 5 0
    ∷ get_or back 6 0 ∷ get_or back 7 0 ∷ []
    ≡ pairs_of bytes
eight_digits [] front back eight is1 is2 = absurd (omega arith)
eight_digits (a ∷ []) front back eight is1 is2 = absurd (omega arith)
eight_digits (a ∷ b ∷ []) front back eight is1 is2 = absurd (omega arith)
eight_digits (a ∷ b ∷ c ∷ []) front back eight is1 is2 = absurd (omega arith)
eight_digits (a ∷ b ∷ c ∷ d ∷ []) front back eight is1 is2 = absurd (omega arith)
eight_digits (a ∷ b ∷ c ∷ d ∷ e ∷ []) front back eight is1 is2 = absurd (omega arith)
eight_digits (a ∷ b ∷ c ∷ d ∷ e ∷ f ∷ []) front back eight is1 is2 = absurd (omega arith)
eight_digits (a ∷ b ∷ c ∷ d ∷ e ∷ f ∷ g ∷ []) front back eight is1 is2 = absurd (omega arith)
eight_digits (a ∷ b ∷ c ∷ d ∷ e ∷ f ∷ g ∷ h ∷ i ∷ bytes) front back eight is1 is2 = absurd (omega arith)
eight_digits (a ∷ b ∷ c ∷ d ∷ e ∷ f ∷ g ∷ h ∷ []) front back eight is1 is2 = rw (is1, is2) refl

-- sixteen bytes, in the code's words
sixteen_bytes : (bytes : List ℕ)
    → length bytes ≡ 16
    → bytes
    ≡ get_or bytes 0 0 ∷ get_or bytes 1 0 ∷ get_or bytes 2 0 ∷ get_or bytes 3 0 ∷ get_or bytes 4 0
    ∷ get_or bytes 5 0 ∷ get_or bytes 6 0 ∷ get_or bytes 7 0 ∷ get_or bytes 8 0 ∷ get_or bytes 9 0
    ∷ get_or bytes 10 0 ∷ get_or bytes 11 0 ∷ get_or bytes 12 0 ∷ get_or bytes 13 0 ∷ get_or bytes 14 0
    ∷ get_or bytes 15 0 ∷ []
sixteen_bytes [] sixteen = absurd (omega (arith, sixteen))
sixteen_bytes (a ∷ []) sixteen = absurd (omega (arith, sixteen))
sixteen_bytes (a ∷ b ∷ []) sixteen = absurd (omega (arith, sixteen))
sixteen_bytes (a ∷ b ∷ c ∷ []) sixteen = absurd (omega (arith, sixteen))
sixteen_bytes (a ∷ b ∷ c ∷ d ∷ []) sixteen = absurd (omega (arith, sixteen))
sixteen_bytes (a ∷ b ∷ c ∷ d ∷ e ∷ []) sixteen = absurd (omega (arith, sixteen))
sixteen_bytes (a ∷ b ∷ c ∷ d ∷ e ∷ f ∷ []) sixteen = absurd (omega (arith, sixteen))
sixteen_bytes (a ∷ b ∷ c ∷ d ∷ e ∷ f ∷ g ∷ []) sixteen = absurd (omega (arith, sixteen))
sixteen_bytes (a ∷ b ∷ c ∷ d ∷ e ∷ f ∷ g ∷ h ∷ []) sixteen = absurd (omega (arith, sixteen))
sixteen_bytes (a ∷ b ∷ c ∷ d ∷ e ∷ f ∷ g ∷ h ∷ i ∷ []) sixteen = absurd (omega (arith, sixteen))
sixteen_bytes (a ∷ b ∷ c ∷ d ∷ e ∷ f ∷ g ∷ h ∷ i ∷ j ∷ []) sixteen = absurd (omega (arith, sixteen))
sixteen_bytes (a ∷ b ∷ c ∷ d ∷ e ∷ f ∷ g ∷ h ∷ i ∷ j ∷ k ∷ []) sixteen = absurd (omega (arith, sixteen))
sixteen_bytes (a ∷ b ∷ c ∷ d ∷ e ∷ f ∷ g ∷ h ∷ i ∷ j ∷ k ∷ l ∷ []) sixteen = absurd (omega (arith, sixteen))
sixteen_bytes (a ∷ b ∷ c ∷ d ∷ e ∷ f ∷ g ∷ h ∷ i ∷ j ∷ k ∷ l ∷ m ∷ []) sixteen = absurd (omega (arith, sixteen))
sixteen_bytes (a ∷ b ∷ c ∷ d ∷ e ∷ f ∷ g ∷ h ∷ i ∷ j ∷ k ∷ l ∷ m ∷ n ∷ []) sixteen = absurd (omega (arith, sixteen))
sixteen_bytes (a ∷ b ∷ c ∷ d ∷ e ∷ f ∷ g ∷ h ∷ i ∷ j ∷ k ∷ l ∷ m ∷ n ∷ o ∷ []) sixteen = absurd (omega (arith, sixteen))
sixteen_bytes (a ∷ b ∷ c ∷ d ∷ e ∷ f ∷ g ∷ h ∷ i ∷ j ∷ k ∷ l ∷ m ∷ n ∷ o ∷ p ∷ []) sixteen = refl
sixteen_bytes (a ∷ b ∷ c ∷ d ∷ e ∷ f ∷ g ∷ h ∷ i ∷ j ∷ k ∷ l ∷ m ∷ n ∷ o ∷ p ∷ q ∷ bytes) sixteen =
    absurd (omega (arith, sixteen))

-- their digits are those of each four
pub sixteen_digits : (bytes first second third fourth : List ℕ)
    → length bytes ≡ 16
    → first ≡ pairs_of (get_or bytes 0 0 ∷ get_or bytes 1 0 ∷ get_or bytes 2 0 ∷ get_or bytes 3 0 ∷ [])
    → second ≡ pairs_of (get_or bytes 4 0 ∷ get_or bytes 5 0 ∷ get_or bytes 6 0 ∷ get_or bytes 7 0 ∷ [])
    → third ≡ pairs_of (get_or bytes 8 0 ∷ get_or bytes 9 0 ∷ get_or bytes 10 0 ∷ get_or bytes 11 0 ∷ [])
    → fourth ≡ pairs_of (get_or bytes 12 0 ∷ get_or bytes 13 0 ∷ get_or bytes 14 0 ∷ get_or bytes 15 0 ∷ [])
    → get_or first 0 0 ∷ get_or first 1 0 ∷ get_or first 2 0 ∷ get_or first 3 0
    ∷ get_or first 4 0 ∷ get_or first 5 0 ∷ get_or first 6 0 ∷ get_or first 7 0
    ∷ get_or second 0 0 ∷ get_or second 1 0 ∷ get_or second 2 0 ∷ get_or second 3 0
    ∷ get_or second 4 0 ∷ get_or second 5 0 ∷ get_or second 6 0 ∷ get_or second 7 0
    ∷ get_or third 0 0 ∷ get_or third 1 0 ∷ get_or third 2 0 ∷ get_or third 3 0
    ∷ get_or third 4 0 ∷ get_or third 5 0 ∷ get_or third 6 0 ∷ get_or third 7 0
    ∷ get_or fourth 0 0 ∷ get_or fourth 1 0 ∷ get_or fourth 2 0 ∷ get_or fourth 3 0
    ∷ get_or fourth 4 0 ∷ get_or fourth 5 0 ∷ get_or fourth 6 0 ∷ get_or fourth 7 0 ∷ []
    ≡ pairs_of bytes
sixteen_digits bytes first second third fourth sixteen is1 is2 is3 is4 =
    rw (is1, is2, is3, is4) (ap pairs_of (sym (sixteen_bytes bytes sixteen)))

-- ---- in parts
-- the digits of one part, then those of another
pub pairs_append : (front back : List ℕ) → pairs_of (front ++ back) ≡ pairs_of front ++ pairs_of back
pairs_append [] back = refl
pairs_append (b ∷ front) back = let rest = pairs_append front back in rw rest refl

-- a part is put, and then the rest after it
pub part_more : (left part behind text so_far out : List ℕ) → left ≡ part ++ behind → so_far ++ pairs_of left ≡ text
    → out ≡ so_far ++ pairs_of part → out ++ pairs_of behind ≡ text
part_more left part behind text so_far out cut before put =
    let whole : pairs_of left ≡ pairs_of part ++ pairs_of behind = ap pairs_of cut ∙ pairs_append part behind in
    rw put (rw append_assoc (sym (ap (λ (ds : List ℕ). so_far ++ ds) whole) ∙ before))

-- the first bytes, and the rest after them
pub part_and_rest : (left part rest : List ℕ) (n : ℕ) → part ≡ take n left → rest ≡ drop n left → left ≡ part ++ rest
part_and_rest left part rest n first last = rw (first, last) (sym (take-append-drop n left))

-- eight bytes, and the rest after them, in the code's words
pub eight_and_rest : (left : List ℕ) → 8 ≤ length left
    → left
    ≡ (get_or left 0 0 ∷ get_or left 1 0 ∷ get_or left 2 0 ∷ get_or left 3 0 ∷ get_or left 4 0 ∷ get_or left 5 0
    ∷ get_or left 6 0 ∷ get_or left 7 0 ∷ []) ++ take (length left - 8) (drop 8 left)
eight_and_rest [] some = absurd (omega arith)
eight_and_rest (a ∷ []) some = absurd (omega arith)
eight_and_rest (a ∷ b ∷ []) some = absurd (omega arith)
eight_and_rest (a ∷ b ∷ c ∷ []) some = absurd (omega arith)
eight_and_rest (a ∷ b ∷ c ∷ d ∷ []) some = absurd (omega arith)
eight_and_rest (a ∷ b ∷ c ∷ d ∷ e ∷ []) some = absurd (omega arith)
eight_and_rest (a ∷ b ∷ c ∷ d ∷ e ∷ f ∷ []) some = absurd (omega arith)
eight_and_rest (a ∷ b ∷ c ∷ d ∷ e ∷ f ∷ g ∷ []) some = absurd (omega arith)
eight_and_rest (a ∷ b ∷ c ∷ d ∷ e ∷ f ∷ g ∷ h ∷ left) some =
    ap (λ (bs : List ℕ). a ∷ b ∷ c ∷ d ∷ e ∷ f ∷ g ∷ h ∷ bs) (sym (take_rest (a ∷ b ∷ c ∷ d ∷ e ∷ f ∷ g ∷ h ∷ left) 8))
