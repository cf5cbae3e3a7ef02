-- One word's bytes are read as that word, and what is read as a word is that word's bytes.
use Rattle.std.proofs.Common.{◌≡◌, ℕ, zero, suc, ◌+◌, ◌-◌, ◌*◌, ◌/◌, ◌%◌, ◌^◌, ◌<◌, ◌≤◌, cond, ltb, leb, eqb, List, []}
use Rattle.std.proofs.Common.{◌∷◌, ◌++◌, length, take, drop, Option, Some, None, refl, sym, ap, ◌∙◌, subst, arith}
use Rattle.std.proofs.Common.{zero-lt-suc, length-append, length-take-le, take-append-drop, get_or-drop, append_assoc}
use Rattle.std.proofs.Common.{append-nil, ⊎_elim, take_all}
use Rattle.std.proofs.lemmas.Nat.{le_bytes_4, from_le_bytes-to_le_bytes_4, shr_high, mod_low}
use Rattle.std.proofs.lemmas.List.{take_at, drop_at}
use Rattle.std.proofs.lemmas.Bool.{cond_both, cond-true, cond-false, le-ltb, ltb-false, le-leb, leb-true, leb-false}
use Rattle.std.proofs.lemmas.Bool.{eq-eqb, ne_eqb, eqb-true, eqb-false, cases_lt}
use Rattle.trace_model.specs.Words.{le32, first_word, Word, short_data, long_data, padding, time_extend, time_stamp}
use Rattle.trace_model.specs.Words.{bytes_of_word, IsWord, ending_padding, word_time_limit}
use Rattle.trace_model.specs.Reading.{from_le32, part_of, part_with_length, word_behind, word_at_front}
use Rattle.trace_model.specs.FirstFault.{AreBytes}
use Rattle.trace_model.proofs.words.Lengths.{length-le32}

pub AreBytes-drop : (n : ℕ) (bytes : List ℕ) → AreBytes bytes → AreBytes (drop n bytes)
AreBytes-drop n bytes small i = subst (λ (b : ℕ). b < 256) (sym (get_or-drop n bytes i 0)) (small (n + i))

pub AreBytes-take : (n : ℕ) (bytes : List ℕ) → AreBytes bytes → AreBytes (take n bytes)
AreBytes-take zero bytes small i = zero-lt-suc 255
AreBytes-take (suc n) [] small i = zero-lt-suc 255
AreBytes-take (suc n) (b ∷ bytes) small zero = small 0
AreBytes-take (suc n) (b ∷ bytes) small (suc i) = AreBytes-take n bytes (λ k. small (suc k)) i

-- ---- a number in four bytes

pub from_le32-le32 : (n : ℕ) (rest : List ℕ) → n < 2 ^ 32 → from_le32 (le32 n ++ rest) ≡ n
unfolding from_le32 le32
from_le32-le32 n rest fits = from_le_bytes-to_le_bytes_4 n fits

pub from_le32-take : (bytes : List ℕ) → from_le32 (take 4 bytes) ≡ from_le32 bytes
unfolding from_le32
from_le32-take [] = refl
from_le32-take (a ∷ []) = refl
from_le32-take (a ∷ b ∷ []) = refl
from_le32-take (a ∷ b ∷ c ∷ []) = refl
from_le32-take (a ∷ b ∷ c ∷ d ∷ bytes) = refl

pub from_le32_lt : (bytes : List ℕ) → AreBytes bytes → from_le32 bytes < 2 ^ 32
unfolding from_le32
from_le32_lt bytes small = let a = small 0 in let b = small 1 in let c = small 2 in let d = small 3 in omega arith

pub le32-from_le32 : (bytes : List ℕ) → 4 ≤ length bytes → AreBytes bytes → le32 (from_le32 bytes) ≡ take 4 bytes
unfolding from_le32 le32
le32-from_le32 bytes long small =
    le_bytes_4 (take 4 bytes) (from_le32 bytes) (length-take-le 4 bytes long) (AreBytes-take 4 bytes small)
    (sym (from_le32-take bytes))

-- ---- the word at the front

length-front : (t d : ℕ) (bytes : List ℕ) → 4 ≤ length (first_word t d ++ bytes)
length-front t d bytes = omega (arith, length-append (first_word t d) bytes, length-le32 (t + 32 * d))

drop-front : (t d : ℕ) (bytes : List ℕ) → drop 4 (first_word t d ++ bytes) ≡ bytes
drop-front t d bytes = drop_at (first_word t d) bytes 4 (length-le32 (t + 32 * d))

fields_of : (t d : ℕ) → t < 32 → ((t + 32 * d) % 32 ≡ t) × ((t + 32 * d) / 32 ≡ d)
fields_of t d low = (omega arith, omega arith)

-- after a type and a delta, the rest of the word decides
pub front_word : (t d : ℕ) (bytes : List ℕ) → t < 32 → d < 2 ^ 27
    → word_at_front (first_word t d ++ bytes) ≡ word_behind t d bytes
unfolding word_at_front
front_word t d bytes low fits =
    let number : from_le32 (first_word t d ++ bytes) ≡ t + 32 * d = from_le32-le32 (t + 32 * d) bytes (omega arith) in
    let fields = fields_of t d low in
    cond-false _ _ _ (le-ltb (length (first_word t d ++ bytes)) 4 (length-front t d bytes))
    ∙ (λ i. word_behind (number i % 32) (number i / 32) (drop-front t d bytes i))
    ∙ (λ i. word_behind (fields.0 i) (fields.1 i) bytes)

part_front : {X : Type 0} (n : ℕ) (part rest : List ℕ) (make : List ℕ → X) → length part ≡ n
    → part_of n (part ++ rest) make ≡ Some (make part, rest)
part_front n part rest make is =
    cond-false _ _ _ (le-ltb (length (part ++ rest)) n (omega (arith, length-append part rest)))
    ∙ (λ i. Some (make (take_at part rest n is i), drop_at part rest n is i))

part_with_length_front : {X : Type 0} (part rest : List ℕ) (make : List ℕ → X) → length part % 4 ≡ 0
    → length part + 4 < 2 ^ 32
    → part_with_length (le32 (length part + 4) ++ (part ++ rest)) make ≡ Some (make part, rest)
part_with_length_front part rest make whole fits =
    let n : ℕ = length part + 4 in
    let bytes : List ℕ = le32 n ++ (part ++ rest) in
    let number : from_le32 bytes ≡ n = from_le32-le32 n (part ++ rest) fits in
    let tail : drop 4 bytes ≡ part ++ rest = drop_at (le32 n) (part ++ rest) 4 (length-le32 n) in
    cond-false _ _ _ (le-ltb (length bytes) 4 (omega (arith, length-append (le32 n) (part ++ rest), length-le32 n)))
    ∙ cond-false _ _ _ (le-ltb (from_le32 bytes) 4 (omega arith))
    ∙ cond-true _ _ _ (eq-eqb (from_le32 bytes % 4) 0 (omega arith))
    ∙ (λ i. part_of (number i - 4) (tail i) make)
    ∙ part_front (n - 4) part rest make (omega arith)

short_behind : (t d : ℕ) (bytes : List ℕ) → 1 ≤ t → t ≤ 28
    → word_behind t d bytes ≡ part_of (4 * t) bytes (short_data d)
short_behind t d bytes low high =
    cond-false _ _ _ (ne_eqb t 0 (λ e. absurd (omega arith))) ∙ cond-true _ _ _ (le-leb t 28 high)

padding_behind : (d : ℕ) (bytes : List ℕ) → 1 ≤ d → word_behind 29 d bytes ≡ part_with_length bytes (padding d)
padding_behind d bytes some = cond-false _ _ _ (ne_eqb d 0 (λ e. absurd (omega arith)))

time_front : (t time : ℕ) (rest : List ℕ) (make : ℕ → Word) → time < word_time_limit → t < 32
    → ((bytes : List ℕ)
    → word_behind t (time % 2 ^ 27) bytes ≡ part_of 4 bytes (λ high. make (from_le32 high * 2 ^ 27 + time % 2 ^ 27)))
    → word_at_front (first_word t (time % 2 ^ 27) ++ le32 (time / 2 ^ 27) ++ rest) ≡ Some (make time, rest)
time_front t time rest make fits low kind =
    let high : ℕ = time / 2 ^ 27 in
    let number : from_le32 (le32 high) ≡ high =
    ap from_le32 (sym (append-nil (le32 high))) ∙ from_le32-le32 high [] (omega arith) in
    let sum : high * 2 ^ 27 + time % 2 ^ 27 ≡ time = omega arith in
    ap word_at_front (append_assoc (first_word t (time % 2 ^ 27)) (le32 high) rest)
    ∙ front_word t (time % 2 ^ 27) (le32 high ++ rest) low (omega arith)
    ∙ kind (le32 high ++ rest)
    ∙ part_front 4 (le32 high) rest (λ h. make (from_le32 h * 2 ^ 27 + time % 2 ^ 27)) (length-le32 high)
    ∙ (λ i. Some (make (number i * 2 ^ 27 + time % 2 ^ 27), rest))
    ∙ ap (λ (n : ℕ). Some (make n, rest)) sum

-- a word at the front is read back, and what follows it is left
pub word_at_front-word : (w : Word) (rest : List ℕ) → IsWord w
    → word_at_front (bytes_of_word w ++ rest) ≡ Some (w, rest)
word_at_front-word (short_data d payload) rest is =
    let fits = is.0 in let whole = is.1 in let low = is.2 in let high = is.3 in
    let t : ℕ = length payload / 4 in
    ap word_at_front (append_assoc (first_word t d) payload rest)
    ∙ front_word t d (payload ++ rest) (omega arith) fits
    ∙ short_behind t d (payload ++ rest) (omega arith) (omega arith)
    ∙ part_front (4 * t) payload rest (short_data d) (omega arith)
word_at_front-word (long_data d payload) rest is =
    let n : List ℕ = le32 (length payload + 4) in
    ap word_at_front
    (append_assoc (first_word 0 d ++ n) payload rest ∙ append_assoc (first_word 0 d) n (payload ++ rest))
    ∙ front_word 0 d (n ++ (payload ++ rest)) (omega arith) is.0
    ∙ part_with_length_front payload rest (long_data d) is.1 is.2
word_at_front-word (padding d skipped) rest is =
    let n : List ℕ = le32 (length skipped + 4) in
    ap word_at_front
    (append_assoc (first_word 29 d ++ n) skipped rest ∙ append_assoc (first_word 29 d) n (skipped ++ rest))
    ∙ front_word 29 d (n ++ (skipped ++ rest)) (omega arith) is.1
    ∙ padding_behind d (n ++ (skipped ++ rest)) is.0
    ∙ part_with_length_front skipped rest (padding d) is.2 is.3
word_at_front-word (time_extend d) rest is = time_front 30 d rest time_extend is (omega arith) (λ bytes. refl)
word_at_front-word (time_stamp d) rest is = time_front 31 d rest time_stamp is (omega arith) (λ bytes. refl)

-- an ending padding is no word
pub word_at_front-ending : (ignored : List ℕ) → word_at_front (ending_padding ++ ignored) ≡ None
word_at_front-ending ignored = front_word 29 0 ignored (omega arith) (omega arith)

pub word_at_front-nil : word_at_front [] ≡ None
unfolding word_at_front
word_at_front-nil = refl

-- ---- the other way: what is read as a word is that word's bytes

-- what is found at the front of the bytes, if anything, is a word whose bytes are there
abbrev IsFound : List ℕ → Option (Word × List ℕ) → Type 0
IsFound bytes None = Unit {0}
IsFound bytes (Some found) = (bytes ≡ bytes_of_word found.0 ++ found.1) × IsWord found.0

found_part : (bytes behind : List ℕ) (n : ℕ) (make : List ℕ → Word)
    → ((part rest : List ℕ) → length part ≡ n → behind ≡ part ++ rest → part ≡ take n behind
    → IsFound bytes (Some (make part, rest)))
    → IsFound bytes (part_of n behind make)
found_part bytes behind n make found =
    cond_both (ltb (length behind) n) None (Some (make (take n behind), drop n behind)) (IsFound bytes)
    (λ short. tt)
    (λ long.
    found (take n behind) (drop n behind) (length-take-le n behind (ltb-false (length behind) n long))
    (sym (take-append-drop n behind)) refl)

found_part_with_length : (bytes behind : List ℕ) (make : List ℕ → Word) → AreBytes behind
    → ((part rest : List ℕ) → length part % 4 ≡ 0 → length part + 4 < 2 ^ 32
    → behind ≡ le32 (length part + 4) ++ part ++ rest → IsFound bytes (Some (make part, rest)))
    → IsFound bytes (part_with_length behind make)
found_part_with_length bytes behind make small found =
    cond_both (ltb (length behind) 4) None _ (IsFound bytes) (λ short. tt) (λ long.
    cond_both (ltb (from_le32 behind) 4) None _ (IsFound bytes) (λ less. tt) (λ least.
    cond_both (eqb (from_le32 behind % 4) 0) _ None (IsFound bytes)
    (λ whole.
    by_length (ltb-false (length behind) 4 long) (ltb-false (from_le32 behind) 4 least)
    (eqb-true (from_le32 behind % 4) 0 whole)) (λ odd. tt)))
  where
    by_length : 4 ≤ length behind → 4 ≤ from_le32 behind → from_le32 behind % 4 ≡ 0
        → IsFound bytes (part_of (from_le32 behind - 4) (drop 4 behind) make)
    by_length long least whole = found_part bytes (drop 4 behind) (from_le32 behind - 4) make (λ part rest is cut same.
        let fits = from_le32_lt behind small in
        let number : length part + 4 ≡ from_le32 behind = omega arith in
        found part rest (omega arith) (omega arith) (sym (take-append-drop 4 behind)
        ∙ (λ i. sym (le32-from_le32 behind long small) i ++ cut i)
        ∙ ap (λ (n : ℕ). le32 n ++ (part ++ rest)) (sym number)
        ∙ sym (append_assoc (le32 (length part + 4)) part rest)))

nonzero : (n : ℕ) → (n ≡ 0 → ⊥) → 1 ≤ n
nonzero n h = ⊎_elim (λ e. absurd (h (let z : n ≡ 0 = omega arith in z))) (λ more. more) (cases_lt n 1)

-- a word with 32 bits of time above its 27
found_time : (bytes behind : List ℕ) (t d : ℕ) (make : ℕ → Word) → AreBytes behind → d < 2 ^ 27
    → bytes ≡ first_word t d ++ behind
    → ((time : ℕ) → time < word_time_limit → IsWord (make time))
    → ((time : ℕ) → bytes_of_word (make time) ≡ first_word t (time % 2 ^ 27) ++ le32 (time / 2 ^ 27))
    → IsFound bytes (part_of 4 behind (λ high. make (from_le32 high * 2 ^ 27 + d)))
found_time bytes behind t d make small fits front word spelled =
    found_part bytes behind 4 (λ high. make (from_le32 high * 2 ^ 27 + d)) (λ part rest is cut same.
    let bytes_too : AreBytes part = subst AreBytes (sym same) (AreBytes-take 4 behind small) in
    let high : ℕ = from_le32 part in
    let below = from_le32_lt part bytes_too in
    let time : ℕ = high * 2 ^ 27 + d in
    let low : time % 2 ^ 27 ≡ d = mod_low high 27 d fits in
    let above : time / 2 ^ 27 ≡ high = shr_high high 27 d fits in
    let number : le32 high ≡ part = le32-from_le32 part (omega arith) bytes_too ∙ take_all 4 part (omega arith) in
    let reads : bytes_of_word (make time) ≡ first_word t d ++ part =
    spelled time ∙ (λ i. first_word t (low i) ++ le32 (above i))
    ∙ ap (λ (p : List ℕ). first_word t d ++ p) number in (
      front ∙ ap (λ (b : List ℕ). first_word t d ++ b) cut ∙ sym (append_assoc (first_word t d) part rest)
          ∙ ap (λ (b : List ℕ). b ++ rest) (sym reads),
      word time (omega arith),
    ))

found_behind : (bytes behind : List ℕ) (t d : ℕ) → AreBytes behind → t < 32 → d < 2 ^ 27
    → bytes ≡ first_word t d ++ behind → IsFound bytes (word_behind t d behind)
found_behind bytes behind t d small low fits front =
    cond_both (eqb t 0) _ _ (IsFound bytes) (λ e. long (eqb-true t 0 e)) (λ some.
    cond_both (leb t 28) _ _ (IsFound bytes) (λ h. short (eqb-false t 0 some) (leb-true t 28 h)) (λ more.
    cond_both (eqb t 29) _ _ (IsFound bytes) (λ e. skipped (eqb-true t 29 e)) (λ not_padding.
    cond_both (eqb t 30) _ _ (IsFound bytes) (λ e. extend (eqb-true t 30 e)) (λ not_extend.
    stamp
    (let h = leb-false t 28 more in
    let p = eqb-false t 29 not_padding in
    let q = eqb-false t 30 not_extend in
    omega arith)))))
  where
    behind_length : (part rest : List ℕ) → behind ≡ le32 (length part + 4) ++ part ++ rest
        → bytes ≡ first_word t d ++ le32 (length part + 4) ++ part ++ rest
    behind_length part rest cut = front ∙ ap (λ (b : List ℕ). first_word t d ++ b) cut
        ∙ (λ i. sym (append_assoc (first_word t d) (le32 (length part + 4) ++ part) rest) i)
        ∙ ap (λ (b : List ℕ). b ++ rest) (sym (append_assoc (first_word t d) (le32 (length part + 4)) part))

    long : t ≡ 0 → IsFound bytes (part_with_length behind (long_data d))
    long is = found_part_with_length bytes behind (long_data d) small (λ part rest whole below cut. (
      behind_length part rest cut ∙ ap (λ (n : ℕ). first_word n d ++ le32 (length part + 4) ++ part ++ rest) is,
      (fits, whole, below),
    ))

    short : (t ≡ 0 → ⊥) → t ≤ 28 → IsFound bytes (part_of (4 * t) behind (short_data d))
    short some high = found_part bytes behind (4 * t) (short_data d) (λ part rest is cut same.
        let type_is : t ≡ length part / 4 = omega arith in (
          front ∙ ap (λ (b : List ℕ). first_word t d ++ b) cut ∙ sym (append_assoc (first_word t d) part rest)
              ∙ ap (λ (n : ℕ). first_word n d ++ part ++ rest) type_is,
          (fits, omega arith, (let h = nonzero t some in omega arith), omega arith),
        ))

    skipped : t ≡ 29 → IsFound bytes (cond (eqb d 0) None (part_with_length behind (padding d)))
    skipped is =
        cond_both (eqb d 0) None (part_with_length behind (padding d)) (IsFound bytes) (λ ends. tt)
        (λ some. found_part_with_length bytes behind (padding d) small (λ part rest whole below cut. (
          behind_length part rest cut ∙ ap (λ (n : ℕ). first_word n d ++ le32 (length part + 4) ++ part ++ rest) is,
          (nonzero d (eqb-false d 0 some), fits, whole, below),
        )))

    extend : t ≡ 30 → IsFound bytes (part_of 4 behind (λ high. time_extend (from_le32 high * 2 ^ 27 + d)))
    extend is =
        found_time bytes behind 30 d time_extend small fits (front ∙ ap (λ (n : ℕ). first_word n d ++ behind) is)
        (λ time h. h) (λ time. refl)

    stamp : t ≡ 31 → IsFound bytes (part_of 4 behind (λ high. time_stamp (from_le32 high * 2 ^ 27 + d)))
    stamp is =
        found_time bytes behind 31 d time_stamp small fits (front ∙ ap (λ (n : ℕ). first_word n d ++ behind) is)
        (λ time h. h) (λ time. refl)

found_in : (bytes : List ℕ) → AreBytes bytes → IsFound bytes (word_at_front bytes)
unfolding word_at_front
found_in bytes small = cond_both (ltb (length bytes) 4) None _ (IsFound bytes) (λ short. tt) (λ long.
    let number : ℕ = from_le32 bytes in
    let below = from_le32_lt bytes small in
    let low : ℕ = number % 32 in
    let high : ℕ = number / 32 in
    let fields : low + 32 * high ≡ number = omega arith in
    let front : bytes ≡ first_word low high ++ drop 4 bytes =
    sym (take-append-drop 4 bytes)
    ∙ (λ i. sym (le32-from_le32 bytes (ltb-false (length bytes) 4 long) small) i ++ drop 4 bytes)
    ∙ ap (λ (n : ℕ). le32 n ++ drop 4 bytes) (sym fields) in
    found_behind bytes (drop 4 bytes) low high (AreBytes-drop 4 bytes small) (omega arith) (omega arith) front)

pub word_at_front-found : (bytes : List ℕ) (w : Word) (rest : List ℕ) → AreBytes bytes
    → word_at_front bytes ≡ Some (w, rest) → (bytes ≡ bytes_of_word w ++ rest) × IsWord w
word_at_front-found bytes w rest small is = subst (IsFound bytes) is (found_in bytes small)
