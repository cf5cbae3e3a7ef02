-- What pairs of hexadecimal digits spell, digit by digit.
use Rattle.std.proofs.Common.{◌≡◌, ◌≢◌, ℕ, suc, zero, ◌+◌, ◌-◌, ◌*◌, ◌%◌, ◌<◌, ◌≤◌, ◌⊎◌, true, false, ◌==◌, ◌&&◌, List}
use Rattle.std.proofs.Common.{[], ◌∷◌, ◌++◌, length, get_or, take, drop, codes, Bor, Result, Ok, Err, refl, sym, ◌∙◌}
use Rattle.std.proofs.Common.{ap, inl, inr, subst, arith, append_assoc, length-append, length-drop, Fits, w8, w16}
use Rattle.std.specs.Char.{digit_value, is_digit}
use Rattle.std.specs.List.{list_all, enumerate_from}
use Rattle.std.specs.Str.{bytes_eq}
use Rattle.std.proofs.lemmas.Bool.{ltb-true, lt-ltb, ne_eqb, eqb-true, eqb-false, eq-eqb, and_from, and_parts, or_right}
use Rattle.std.proofs.lemmas.Bool.{or_cases, both_ways, cases_Bool, cond-true, cond-false, false_from_ne_true}
use Rattle.std.proofs.lemmas.List.{append-nil, take_rest, take-append-drop, drop-drop, get_or-drop}
use Rattle.std.proofs.lemmas.List.Folds.{list_all-append}
use Rattle.std.proofs.lemmas.Slice.Eq.{bytes_eq-Decides}
use Rattle.trace_model.specs.declared.numbers.NoMemory.{NoMemory}
use Rattle.text_model.specs.Text.{is_hex, bytes_of_pairs}
use Rattle.text_model.specs.ScriptLines.{bad_hex, payload_in}
use Rattle.trace_script.specs.declared.payload.TheConstants.{HIGH_VALUES, LOW_VALUES}
use Rattle.trace_script.specs.Decoding.{high_value, low_value, pair_value, ArePut, BeginsNoPair, PutsPairs}
use Rattle.trace_script.specs.UsualLines.{IsPayloadCut}
use Rattle.trace_script.proofs.ValueLemmas.{two_and_rest}

-- ---- the tables
value_in_table : (f : ℕ → ℕ) (values : List ℕ) (n i : ℕ)
    → list_all (λ (entry : ℕ × ℕ). entry.1 == f entry.0) (enumerate_from n values) ≡ true → i < length values
    → get_or values i 0 ≡ f (n + i)
value_in_table f [] n i h below = absurd (omega arith)
value_in_table f (v ∷ values) n zero h below = let here : n ≡ n + 0 = omega arith in
    eqb-true v (f n) (and_parts _ _ h).0 ∙ ap f here
value_in_table f (v ∷ values) n (suc i) h below =
    value_in_table f values (n + 1) i (and_parts _ _ h).1 (omega arith) ∙ ap f (later n i)
  where
    later : (n i : ℕ) → n + 1 + i ≡ n + suc i
    later n i = omega arith

highs_are : list_all (λ (entry : ℕ × ℕ). entry.1 == high_value entry.0) (enumerate_from 0 HIGH_VALUES) ≡ true
highs_are = refl

lows_are : list_all (λ (entry : ℕ × ℕ). entry.1 == low_value entry.0) (enumerate_from 0 LOW_VALUES) ≡ true
lows_are = refl

highs_length : length HIGH_VALUES ≡ 256
highs_length = refl

lows_length : length LOW_VALUES ≡ 256
lows_length = refl

pub high_in_table : (byte : ℕ) → byte < 256 → get_or HIGH_VALUES byte 0 ≡ high_value byte
high_in_table byte small = let here : 0 + byte ≡ byte = omega arith in
    value_in_table high_value HIGH_VALUES 0 byte highs_are (omega (arith, highs_length)) ∙ ap high_value here

pub low_in_table : (byte : ℕ) → byte < 256 → get_or LOW_VALUES byte 0 ≡ low_value byte
low_in_table byte small = let here : 0 + byte ≡ byte = omega arith in
    value_in_table low_value LOW_VALUES 0 byte lows_are (omega (arith, lows_length)) ∙ ap low_value here

-- what a digit is worth, and what another byte
high_of : (c : ℕ)
    → ((is_digit c 16 ≡ true) × (high_value c ≡ 16 * digit_value c) × (digit_value c < 16))
    ⊎ ((is_digit c 16 ≡ false) × (high_value c ≡ 4096))
high_of c = elim (cases_Bool (is_digit c 16)) [
  | inl is ↦ inl (is, cond-true (is_digit c 16) _ _ is, ltb-true _ _ is)
  | inr other ↦ inr (other, cond-false (is_digit c 16) _ _ other)
]

low_of : (c : ℕ)
    → ((is_digit c 16 ≡ true) × (low_value c ≡ digit_value c) × (digit_value c < 16))
    ⊎ ((is_digit c 16 ≡ false) × (low_value c ≡ 4096))
low_of c = elim (cases_Bool (is_digit c 16)) [
  | inl is ↦ inl (is, cond-true (is_digit c 16) _ _ is, ltb-true _ _ is)
  | inr other ↦ inr (other, cond-false (is_digit c 16) _ _ other)
]

-- the digits of a pair that is worth less than no digit
pub pair_of : (high low : ℕ) → pair_value high low < 4096
    → (is_digit high 16 ≡ true) × (is_digit low 16 ≡ true)
    × (pair_value high low ≡ 16 * digit_value high + digit_value low) × (pair_value high low < 256)
pair_of high low small = elim (high_of high) [
  | inr other ↦ absurd (omega (arith, other.1, small))
  | inl first ↦ elim (low_of low) [
    | inr other ↦ absurd (omega (arith, other.1, small))
    | inl second ↦
        (first.0, second.0, omega (arith, first.1, second.1), omega (arith, first.1, first.2, second.1, second.2))
  ]
]

-- ---- the bytes
-- a pair more
pairs_push : (digits : List ℕ) (high low : ℕ) → length digits % 2 ≡ 0
    → bytes_of_pairs (digits ++ high ∷ low ∷ [])
    ≡ bytes_of_pairs digits ++ (16 * digit_value high + digit_value low) ∷ []
pairs_push [] high low even = refl
pairs_push (a ∷ []) high low even = absurd (omega (arith, even))
pairs_push (a ∷ b ∷ digits) high low even =
    ap (λ (bs : List ℕ). (16 * digit_value a + digit_value b) ∷ bs) (pairs_push digits high low (omega (arith, even)))

pub pair_put : (text left old new after : List ℕ) (high low value : ℕ) → ArePut text (high ∷ low ∷ left) old new
    → value ≡ pair_value high low → value < 4096 → after ≡ new ++ value ∷ [] → ArePut text left old after
pair_put text left old new after high low value so_far is small more =
    let pair = pair_of high low (omega (arith, is)) in
    let digits = so_far.digits in
    let byte : value ≡ 16 * digit_value high + digit_value low = is ∙ pair.2 in
    record {
      digits = digits ++ high ∷ low ∷ [];
      cut = so_far.cut ∙ sym (append_assoc digits (high ∷ low ∷ []) left);
      even = (let len = length-append digits (high ∷ low ∷ []) in omega (arith, len, so_far.even));
      are_digits =
          list_all-append (λ c. is_digit c 16) digits (high ∷ low ∷ [])
          ∙ and_from _ _ so_far.are_digits (and_from _ _ pair.0 (and_from _ _ pair.1 refl));
      put = more
          ∙ ap (λ (bs : List ℕ). bs ++ value ∷ []) so_far.put
          ∙ append_assoc old (bytes_of_pairs digits) (value ∷ [])
          ∙ ap (λ (n : ℕ). old ++ (bytes_of_pairs digits ++ n ∷ [])) byte
          ∙ ap (λ (bs : List ℕ). old ++ bs) (sym (pairs_push digits high low so_far.even));
    }

-- the bytes of one part, then those of another
pairs_append : (front back : List ℕ) → length front % 2 ≡ 0
    → bytes_of_pairs (front ++ back) ≡ bytes_of_pairs front ++ bytes_of_pairs back
pairs_append [] back even = refl
pairs_append (a ∷ []) back even = absurd (omega (arith, even))
pairs_append (a ∷ b ∷ front) back even =
    ap (λ (bs : List ℕ). (16 * digit_value a + digit_value b) ∷ bs) (pairs_append front back (omega (arith, even)))

-- pairs are put, and then more
pub put_then : (text middle left old between new : List ℕ) → ArePut text middle old between
    → ArePut middle left between new → ArePut text left old new
put_then text middle left old between new first second =
    record {
      digits = first.digits ++ second.digits;
      cut =
          first.cut ∙ ap (λ (ds : List ℕ). first.digits ++ ds) second.cut
          ∙ sym (append_assoc first.digits second.digits left);
      even = (let len = length-append first.digits second.digits in omega (arith, len, first.even, second.even));
      are_digits =
          list_all-append (λ c. is_digit c 16) first.digits second.digits
          ∙ and_from _ _ first.are_digits second.are_digits;
      put = second.put
          ∙ ap (λ (bs : List ℕ). bs ++ bytes_of_pairs second.digits) first.put
          ∙ append_assoc old (bytes_of_pairs first.digits) (bytes_of_pairs second.digits)
          ∙ ap (λ (bs : List ℕ). old ++ bs) (sym (pairs_append first.digits second.digits first.even));
    }

-- 32 pairs more
pub many_turn : (text left digits rest old new bytes after : List ℕ) → ArePut text left old new
    → (digits ≡ take 64 left) × (rest ≡ drop 64 left) × (length rest + 64 ≡ length left)
    → list_all (λ c. is_digit c 16) digits ≡ true → bytes ≡ bytes_of_pairs digits → after ≡ new ++ bytes
    → ArePut text rest old after
many_turn text left digits rest old new bytes after so_far (front, back, count) all is more =
    put_then text left rest old new after so_far
    record {
      digits = digits;
      cut = cut;
      even =
          (let len = length-append digits rest in
          let whole : length left ≡ length (digits ++ rest) = ap (λ (l : List ℕ). length l) cut in
          omega (arith, len, whole, count));
      are_digits = all;
      put = more ∙ ap (λ (bs : List ℕ). new ++ bs) is;
    }
  where
    cut : left ≡ digits ++ rest
    cut = rw (front, back) (sym (take-append-drop 64 left))

pub pair_fits : (high low : ℕ) → pair_value high low ≤ 8192
pair_fits high low = elim (high_of high) [
  | inr other ↦ elim (low_of low)
      [ inr same ↦ omega (arith, other.1, same.1) | inl second ↦ omega (arith, other.1, second.1, second.2) ]
  | inl first ↦ elim (low_of low) [
    | inr other ↦ omega (arith, first.1, first.2, other.1)
    | inl second ↦ omega
        (arith, first.1, first.2, second.1, second.2)
  ]
]

pub pair_is_byte : (high low value : ℕ) → value ≡ pair_value high low → value < 4096 → value < 256
pair_is_byte high low value is small = let pair = pair_of high low (omega (arith, is)) in omega (arith, is, pair.3)

-- ---- what is pushed
-- the values of four pairs fit together, and each is a byte if they are together less than NO_DIGIT
pub two_fit : (a b : ℕ) → a ≤ 8192 → b ≤ 8192 → Fits w16 (a + b)
two_fit a b first second = omega arith

pub three_fit : (a b c : ℕ) → a ≤ 8192 → b ≤ 8192 → c ≤ 8192 → Fits w16 (a + b + c)
three_fit a b c first second third = omega arith

pub four_fit : (a b c d : ℕ) → a ≤ 8192 → b ≤ 8192 → c ≤ 8192 → d ≤ 8192 → Fits w16 (a + b + c + d)
four_fit a b c d first second third fourth = omega arith

pub first_is_byte : (a b c d : ℕ) → a + b + c + d < 4096 → (a < 4096 → a < 256) → Fits w8 a
first_is_byte a b c d small byte = let is : a < 256 = byte (omega arith) in omega arith

pub second_is_byte : (a b c d : ℕ) → a + b + c + d < 4096 → (b < 4096 → b < 256) → Fits w8 b
second_is_byte a b c d small byte = let is : b < 256 = byte (omega arith) in omega arith

pub third_is_byte : (a b c d : ℕ) → a + b + c + d < 4096 → (c < 4096 → c < 256) → Fits w8 c
third_is_byte a b c d small byte = let is : c < 256 = byte (omega arith) in omega arith

pub fourth_is_byte : (a b c d : ℕ) → a + b + c + d < 4096 → (d < 4096 → d < 256) → Fits w8 d
fourth_is_byte a b c d small byte = let is : d < 256 = byte (omega arith) in omega arith

-- the room for the others once one was pushed
pub room_left : (len room len' room' more : ℕ) → len + suc more ≤ room → len' ≡ len + 1 → room' ≡ room
    → len' + more ≤ room'
room_left len room len' room' more some one same = omega arith

pub some_room : (len room more : ℕ) → len + suc more ≤ room → len < room
some_room len room more some = omega arith

-- eight bytes of a text, and the rest after them, in the code's words
pub eight_and_rest : (left : List ℕ) → 8 ≤ length left
    → left
    ≡ get_or left 0 0 ∷ get_or left 1 0 ∷ get_or left 2 0 ∷ get_or left 3 0 ∷ get_or left 4 0 ∷ get_or left 5 0
    ∷ get_or left 6 0 ∷ get_or left 7 0 ∷ take (length left - 8) (drop 8 left)
eight_and_rest [] some = absurd (omega arith)
eight_and_rest (a ∷ []) some = absurd (omega arith)
eight_and_rest (a ∷ b ∷ []) some = absurd (omega arith)
eight_and_rest (a ∷ b ∷ c ∷ []) some = absurd (omega arith)
eight_and_rest (a ∷ b ∷ c ∷ d ∷ []) some = absurd (omega arith)
eight_and_rest (a ∷ b ∷ c ∷ d ∷ e ∷ []) some = absurd (omega arith)
eight_and_rest (a ∷ b ∷ c ∷ d ∷ e ∷ f ∷ []) some = absurd (omega arith)
eight_and_rest (a ∷ b ∷ c ∷ d ∷ e ∷ f ∷ g ∷ []) some = absurd (omega arith)
eight_and_rest (a ∷ b ∷ c ∷ d ∷ e ∷ f ∷ g ∷ h ∷ left) some =
    ap (λ (bs : List ℕ). a ∷ b ∷ c ∷ d ∷ e ∷ f ∷ g ∷ h ∷ bs) (sym (take_rest (a ∷ b ∷ c ∷ d ∷ e ∷ f ∷ g ∷ h ∷ left) 8))

-- one more pair of digits at the front of a text is put
pub pair_turn : (text left old new after : List ℕ) (value : ℕ) → ArePut text left old new → 2 ≤ length left
    → value ≡ pair_value (get_or left 0 0) (get_or left 1 0) → value < 4096 → after ≡ new ++ value ∷ []
    → ArePut text (take (length left - 2) (drop 2 left)) old after
pair_turn text left old new after value so_far some is small more =
    pair_put text (take (length left - 2) (drop 2 left)) old new after _ _ value
    (subst (λ (l : List ℕ). ArePut text l old new) (two_and_rest left some) so_far) is small more

-- four pairs more
pub four_turn : (text left old new one two three after : List ℕ) (first second third fourth : ℕ)
    → ArePut text left old new → 8 ≤ length left
    → first ≡ pair_value (get_or left 0 0) (get_or left 1 0) → second ≡ pair_value (get_or left 2 0) (get_or left 3 0)
    → third ≡ pair_value (get_or left 4 0) (get_or left 5 0) → fourth ≡ pair_value (get_or left 6 0) (get_or left 7 0)
    → first + second + third + fourth < 4096 → one ≡ new ++ first ∷ [] → two ≡ one ++ second ∷ []
    → three ≡ two ++ third ∷ [] → after ≡ three ++ fourth ∷ []
    → ArePut text (take (length left - 8) (drop 8 left)) old after
four_turn text left old new one two three after first second third fourth so_far some is1 is2 is3 is4 small put1 put2
    put3 put4 =
    let there = subst (λ (l : List ℕ). ArePut text l old new) (eight_and_rest left some) so_far in
    let done1 = pair_put text _ old new one _ _ first there is1 (omega arith) put1 in
    let done2 = pair_put text _ old one two _ _ second done1 is2 (omega arith) put2 in
    let done3 = pair_put text _ old two three _ _ third done2 is3 (omega arith) put3 in
    pair_put text _ old three after _ _ fourth done3 is4 (omega arith) put4

-- eight pairs more
pub eight_turn : (text left old new one two three four five six seven after : List ℕ)
    (first second third fourth fifth sixth seventh eighth : ℕ) → ArePut text left old new → 16 ≤ length left
    → first ≡ pair_value (get_or left 0 0) (get_or left 1 0) → second ≡ pair_value (get_or left 2 0) (get_or left 3 0)
    → third ≡ pair_value (get_or left 4 0) (get_or left 5 0) → fourth ≡ pair_value (get_or left 6 0) (get_or left 7 0)
    → fifth ≡ pair_value (get_or left 8 0) (get_or left 9 0) → sixth ≡ pair_value (get_or left 10 0) (get_or left 11 0)
    → seventh ≡ pair_value (get_or left 12 0) (get_or left 13 0)
    → eighth ≡ pair_value (get_or left 14 0) (get_or left 15 0)
    → first + second + third + fourth < 4096 → fifth + sixth + seventh + eighth < 4096
    → one ≡ new ++ first ∷ [] → two ≡ one ++ second ∷ [] → three ≡ two ++ third ∷ [] → four ≡ three ++ fourth ∷ []
    → five ≡ four ++ fifth ∷ [] → six ≡ five ++ sixth ∷ [] → seven ≡ six ++ seventh ∷ [] → after ≡ seven ++ eighth ∷ []
    → ArePut text (take (length left - 16) (drop 16 left)) old after
eight_turn text left old new one two three four five six seven after first second third fourth fifth sixth seventh
    eighth so_far some is1 is2 is3 is4 is5 is6 is7 is8 small more_small put1 put2 put3 put4 put5 put6 put7 put8 =
    let half =
    four_turn text left old new one two three four first second third fourth so_far (omega arith) is1 is2 is3 is4
    small put1 put2 put3 put4 in
    let there = subst (λ (l : List ℕ). ArePut text l old four) (take_rest left 8) half in
    let len = length-drop 8 left in
    let done =
    four_turn text (drop 8 left) old four five six seven after fifth sixth seventh eighth there (omega (arith, len))
    (is5 ∙ behind 0 1) (is6 ∙ behind 2 3) (is7 ∙ behind 4 5) (is8 ∙ behind 6 7) more_small put5 put6 put7 put8 in
    subst (λ (l : List ℕ). ArePut text l old after)
    (take_rest (drop 8 left) 8 ∙ drop-drop 8 8 left ∙ sym (take_rest left 16)) done
  where
    behind : (i j : ℕ)
        → pair_value (get_or left (8 + i) 0) (get_or left (8 + j) 0)
        ≡ pair_value (get_or (drop 8 left) i 0) (get_or (drop 8 left) j 0)
    behind i j = rw (get_or-drop 8 left i 0, get_or-drop 8 left j 0) refl

-- ---- a payload
pub payload_read : (text : List ℕ) → (length text == 0) ≡ false → length text % 2 ≡ 0
    → list_all (λ c. is_digit c 16) text ≡ true → payload_in text ≡ Ok (bytes_of_pairs text)
unfolding payload_in is_hex
payload_read text some even digits =
    let some_length : length text ≢ 0 = eqb-false (length text) 0 some in
    cond-true (is_hex text) _ _
    (or_right _ _
    (and_from _ _ (and_from _ _ (lt-ltb 0 (length text) (omega arith)) (eq-eqb (length text % 2) 0 even)) digits))

no_payload : (text : List ℕ) → is_hex text ≡ false → payload_in text ≡ Err bad_hex
unfolding payload_in
no_payload text h = cond-false (is_hex text) _ _ h

-- the test of a text that isn't `-`
digits_test : (text : List ℕ) → bytes_eq text (codes "-") ≡ false → is_hex text ≡ true
    → (0 < length text) × (length text % 2 ≡ 0) × (list_all (λ c. is_digit c 16) text ≡ true)
unfolding is_hex
digits_test text dash h =
    elim (or_cases _ _ h) [
      | inl is ↦ absurd (both_ways _ dash is)
      | inr is ↦ let a = and_parts _ _ is in let b = and_parts _ _ a.0 in (ltb-true _ _ b.0, eqb-true _ _ b.1, a.1)
    ]

-- a text that is empty, has a digit too many, or isn't all digits, spells no bytes
pub payload_refused : (text : List ℕ) → bytes_eq text (codes "-") ≡ false
    → ((length text == 0) ≡ true) ⊎ (length text % 2 ≢ 0) ⊎ (list_all (λ c. is_digit c 16) text ≡ false)
    → payload_in text ≡ Err bad_hex
payload_refused text dash (inl none) =
    no_payload text
    (false_from_ne_true _
    (λ yes. let test = digits_test text dash yes in let no = eqb-true (length text) 0 none in omega arith))
payload_refused text dash (inr (inl odd)) =
    no_payload text (false_from_ne_true _ (λ yes. odd (digits_test text dash yes).1))
payload_refused text dash (inr (inr other)) =
    no_payload text (false_from_ne_true _ (λ yes. both_ways _ other (digits_test text dash yes).2))

-- `-` spells no byte
pub dash_payload : (text : List ℕ) → bytes_eq text (codes "-") ≡ true → payload_in text ≡ Ok []
unfolding payload_in is_hex
dash_payload text h =
    let is : text ≡ codes "-" = (bytes_eq-Decides text (codes "-")).0 h in
    ap payload_in is

-- ---- a payload up to the line feed
pub payload_there : (text left rest old new : List ℕ) → ArePut text left old new → left ≡ 10 ∷ rest
    → length old < length new → IsPayloadCut text rest old new
payload_there text left rest old new put feed more =
    let digits = put.digits in
    let len = length-append old (bytes_of_pairs digits) in
    let longer = ap (λ (bs : List ℕ). length bs) put.put in
    record {
      field = digits;
      payload = bytes_of_pairs digits;
      are = put.cut ∙ ap (λ (bs : List ℕ). digits ++ bs) feed;
      spells = payload_read digits (some_digits digits (omega (arith, len, longer, more))) put.even put.are_digits;
      put = put.put;
    }
  where
    some_digits : (digits : List ℕ) → 0 < length (bytes_of_pairs digits) → (length digits == 0) ≡ false
    some_digits [] some = absurd (omega (arith, some))
    some_digits (a ∷ digits) some = ne_eqb (length (a ∷ digits)) 0 (omega arith)

pub dash_there : (text rest old : List ℕ) → text ≡ 45 ∷ 10 ∷ rest → IsPayloadCut text rest old old
dash_there text rest old is =
    record {
      field = codes "-";
      payload = [];
      are = is;
      spells = dash_payload (codes "-") refl;
      put = sym (append-nil old);
    }

-- pairs are put, and then those at the beginning of what is left
pub pairs_then : (r : Result (Bor (List ℕ)) NoMemory) (text left old between new : List ℕ)
    → ArePut text left old between → PutsPairs r left between new → PutsPairs r text old new
pairs_then (Ok rest) text left old between new first (put, ends) =
    (put_then text left rest.now old between new first put, ends)
pairs_then (Err e) text left old between new first (some, put) = (
  bytes_of_pairs first.digits ++ some,
  put ∙ ap (λ (bs : List ℕ). bs ++ some) first.put ∙ append_assoc old (bytes_of_pairs first.digits) some,
)

-- ---- a whole field
-- of an even number of digits, nothing is left that begins with no pair
pub none_left : (field left old new : List ℕ) → ArePut field left old new → BeginsNoPair left → length field % 2 ≡ 0
    → list_all (λ c. is_digit c 16) field ≡ true → left ≡ []
none_left field [] old new put ends even digits = refl
none_left field (a ∷ []) old new put ends even digits =
    let len = length-append put.digits (a ∷ []) in
    let whole = ap (λ (bs : List ℕ). length bs) put.cut in
    let front = put.even in
    absurd (omega (arith, len, whole, front, even))
none_left field (a ∷ b ∷ left) old new put ends even digits =
    let all =
    sym (list_all-append (λ c. is_digit c 16) put.digits (a ∷ b ∷ left))
    ∙ ap (list_all (λ c. is_digit c 16)) (sym put.cut) ∙ digits in
    let rest : list_all (λ c. is_digit c 16) (a ∷ b ∷ left) ≡ true =
    (and_parts (list_all (λ c. is_digit c 16) put.digits) (list_all (λ c. is_digit c 16) (a ∷ b ∷ left)) all).1 in
    let one = and_parts (is_digit a 16) (is_digit b 16 && list_all (λ c. is_digit c 16) left) rest in
    let two = and_parts (is_digit b 16) (list_all (λ c. is_digit c 16) left) one.1 in
    absurd (both_ways (is_digit a 16 && is_digit b 16) ends (and_from (is_digit a 16) (is_digit b 16) one.0 two.0))

pub all_put : (field left old new : List ℕ) → ArePut field left old new → left ≡ [] → new ≡ old ++ bytes_of_pairs field
all_put field left old new put none =
    put.put
    ∙ ap (λ (ds : List ℕ). old ++ bytes_of_pairs ds)
    (sym (put.cut ∙ ap (λ (l : List ℕ). put.digits ++ l) none ∙ append-nil put.digits))
