-- The reader word by word: one step more, and what its words are of any bytes.
use Rattle.std.proofs.Common.{◌≡◌, ℕ, zero, suc, ◌+◌, ◌-◌, ◌*◌, ◌/◌, ◌%◌, ◌^◌, ◌<◌, ◌≤◌, ltb, leb, eqb, List, [], ◌∷◌}
use Rattle.std.proofs.Common.{◌++◌, length, take, drop, Option, Some, None, refl, sym, ap, ◌∙◌, subst, arith}
use Rattle.std.proofs.Common.{append_assoc, length-drop}
use Rattle.std.specs.Option.{option_map_or}
use Rattle.std.specs.List.{AllByRecursion}
use Rattle.std.proofs.lemmas.List.{nil_from_length, drop_at}
use Rattle.std.proofs.lemmas.Bool.{cond_both, ltb-false}
use Rattle.trace_model.specs.Words.{Word, short_data, long_data, padding, time_extend, time_stamp, bytes_of_word}
use Rattle.trace_model.specs.Words.{IsWord, joined}
use Rattle.trace_model.specs.Reading.{from_le32, part_of, part_with_length, word_behind, word_at_front, words_within}
use Rattle.trace_model.specs.Reading.{words_in}
use Rattle.trace_model.specs.FirstFault.{AreBytes}
use Rattle.trace_model.proofs.words.OneWord.{AreBytes-drop, word_at_front-nil, word_at_front-found}

-- ---- a word takes bytes away

-- what is left is less than n bytes
abbrev LeavesLess : ℕ → Option (Word × List ℕ) → Type 0
LeavesLess n None = Unit {0}
LeavesLess n (Some found) = length found.1 < n

leaves-part : (n size : ℕ) (bytes : List ℕ) (make : List ℕ → Word) → length bytes < n
    → LeavesLess n (part_of size bytes make)
leaves-part n size bytes make fewer =
    cond_both (ltb (length bytes) size) None (Some (make (take size bytes), drop size bytes)) (LeavesLess n)
    (λ short. tt) (λ long. (let e = length-drop size bytes in omega arith))

leaves-part_with_length : (n : ℕ) (bytes : List ℕ) (make : List ℕ → Word) → length bytes < n
    → LeavesLess n (part_with_length bytes make)
leaves-part_with_length n bytes make fewer =
    cond_both (ltb (length bytes) 4) None _ (LeavesLess n) (λ short. tt) (λ long.
    cond_both (ltb (from_le32 bytes) 4) None _ (LeavesLess n) (λ less. tt) (λ least.
    cond_both (eqb (from_le32 bytes % 4) 0) _ None (LeavesLess n)
    (λ whole. leaves-part n (from_le32 bytes - 4) (drop 4 bytes) make (let e = length-drop 4 bytes in omega arith))
    (λ odd. tt)))

leaves-behind : (n t d : ℕ) (bytes : List ℕ) → length bytes < n → LeavesLess n (word_behind t d bytes)
leaves-behind n t d bytes fewer =
    cond_both (eqb t 0) _ _ (LeavesLess n) (λ e. leaves-part_with_length n bytes (long_data d) fewer) (λ some.
    cond_both (leb t 28) _ _ (LeavesLess n) (λ h. leaves-part n (4 * t) bytes (short_data d) fewer) (λ more.
    cond_both (eqb t 29) _ _ (LeavesLess n)
    (λ e.
    cond_both (eqb d 0) None _ (LeavesLess n) (λ ends. tt)
    (λ goes. leaves-part_with_length n bytes (padding d) fewer)) (λ not_padding.
    cond_both (eqb t 30) _ _ (LeavesLess n)
    (λ e. leaves-part n 4 bytes (λ high. time_extend (from_le32 high * 2 ^ 27 + d)) fewer)
    (λ not_extend. leaves-part n 4 bytes (λ high. time_stamp (from_le32 high * 2 ^ 27 + d)) fewer))))

leaves-front : (bytes : List ℕ) → LeavesLess (length bytes) (word_at_front bytes)
unfolding word_at_front
leaves-front bytes = cond_both (ltb (length bytes) 4) None _ (LeavesLess (length bytes)) (λ short. tt)
    (λ long. leaves-behind (length bytes) (from_le32 bytes % 32) (from_le32 bytes / 32) (drop 4 bytes)
    (let e = length-drop 4 bytes in let h = ltb-false (length bytes) 4 long in omega arith))

-- after a word there are fewer bytes
pub word_at_front_lt : (bytes : List ℕ) (w : Word) (rest : List ℕ) → word_at_front bytes ≡ Some (w, rest)
    → length rest < length bytes
word_at_front_lt bytes w rest found = subst (LeavesLess (length bytes)) found (leaves-front bytes)

-- ---- one step more

-- one step of the reader
next : ℕ → Option (Word × List ℕ) → List Word
next n found = option_map_or (λ (f : Word × List ℕ). f.0 ∷ words_within n f.1) found []

words_within-nil : (n : ℕ) → words_within n [] ≡ []
unfolding next
words_within-nil zero = refl
words_within-nil (suc n) = ap (next n) word_at_front-nil

next_same : (n m : ℕ) (bytes : List ℕ)
    → ((w : Word) (rest : List ℕ) → length rest < length bytes → words_within n rest ≡ words_within m rest)
    → (found : Option (Word × List ℕ)) → word_at_front bytes ≡ found → next n found ≡ next m found
unfolding next
next_same n m bytes alike None e = refl
next_same n m bytes alike (Some f) e =
    ap (λ (ws : List Word). f.0 ∷ ws) (alike f.0 f.1 (word_at_front_lt bytes f.0 f.1 e))

-- any number of steps that suffices gives the same
words_within-enough : (n m : ℕ) (bytes : List ℕ) → length bytes ≤ n → length bytes ≤ m
    → words_within n bytes ≡ words_within m bytes
unfolding next
words_within-enough zero m bytes few many =
    let none =
    nil_from_length bytes (let e : length bytes ≡ 0 = omega arith in e) in
    ap (words_within 0) none ∙ sym (words_within-nil m) ∙ ap (words_within m) (sym none)
words_within-enough (suc n) zero bytes few many =
    let none =
    nil_from_length bytes (let e : length bytes ≡ 0 = omega arith in e) in
    ap (words_within (suc n)) none ∙ words_within-nil (suc n) ∙ ap (words_within 0) (sym none)
words_within-enough (suc n) (suc m) bytes few many =
    next_same n m bytes (λ w rest less. words_within-enough n m rest (omega arith) (omega arith)) (word_at_front bytes)
    refl

-- if a word is at the front, it is the first of the words, and then come those after it
pub words_in-found : (bytes : List ℕ) (w : Word) (rest : List ℕ) → word_at_front bytes ≡ Some (w, rest)
    → words_in bytes ≡ w ∷ words_in rest
unfolding words_in next
words_in-found bytes w rest found = first (length bytes) refl
  where
    first : (n : ℕ) → length bytes ≡ n → words_within (length bytes) bytes ≡ w ∷ words_within (length rest) rest
    first zero none = absurd (let less = word_at_front_lt bytes w rest found in omega arith)
    first (suc n) some =
        let less = word_at_front_lt bytes w rest found in
        ap (λ (k : ℕ). words_within k bytes) some ∙ ap (next n) found
        ∙ ap (λ (ws : List Word). w ∷ ws) (words_within-enough n (length rest) rest (omega arith) (omega arith))

-- if none is there, there are no words
pub words_in-none : (bytes : List ℕ) → word_at_front bytes ≡ None → words_in bytes ≡ []
unfolding words_in next
words_in-none bytes none = first (length bytes)
  where
    first : (n : ℕ) → words_within n bytes ≡ []
    first zero = refl
    first (suc n) = ap (next n) none

-- ---- any bytes are words and what is left

-- the bytes are these words and then bytes at the front of which there is no word
pub record IsReadTo (bytes : List ℕ) (words : List Word) (left : List ℕ) : Type 0 where
  pub whole : bytes ≡ joined words ++ left
  pub each : AllByRecursion IsWord words
  pub stops : word_at_front left ≡ None
  pub small : AreBytes left

AreBytes-behind : (front rest : List ℕ) → AreBytes (front ++ rest) → AreBytes rest
AreBytes-behind front rest small =
    subst AreBytes (drop_at front rest (length front) refl) (AreBytes-drop (length front) (front ++ rest) small)

read_to : (n : ℕ) (bytes : List ℕ) → length bytes ≤ n → AreBytes bytes → (found : Option (Word × List ℕ))
    → word_at_front bytes ≡ found → (left : List ℕ) × IsReadTo bytes (words_in bytes) left
read_to n bytes few small None e = (
  bytes,
  record {
    whole = ap (λ (ws : List Word). joined ws ++ bytes) (sym (words_in-none bytes e));
    each = subst (AllByRecursion IsWord) (sym (words_in-none bytes e)) tt;
    stops = e;
    small = small;
  },
)
read_to zero bytes few small (Some f) e = absurd (let less = word_at_front_lt bytes f.0 f.1 e in omega arith)
read_to (suc n) bytes few small (Some f) e =
    let less = word_at_front_lt bytes f.0 f.1 e in
    let word = word_at_front-found bytes f.0 f.1 small e in
    let rest =
    read_to n f.1 (omega arith) (AreBytes-behind (bytes_of_word f.0) f.1 (subst AreBytes word.0 small))
    (word_at_front f.1) refl in
    let words = words_in-found bytes f.0 f.1 e in (
      rest.0,
      record {
        whole =
            word.0 ∙ ap (λ (b : List ℕ). bytes_of_word f.0 ++ b) rest.1.whole
            ∙ sym (append_assoc (bytes_of_word f.0) (joined (words_in f.1)) rest.0)
            ∙ ap (λ (ws : List Word). joined ws ++ rest.0) (sym words);
        each = subst (AllByRecursion IsWord) (sym words) (word.1, rest.1.each);
        stops = rest.1.stops;
        small = rest.1.small;
      },
    )

-- what the reader finds in any bytes is there, one word after the other, up to where there is no word
pub words_in-IsReadTo : (bytes : List ℕ) → AreBytes bytes → (left : List ℕ) × IsReadTo bytes (words_in bytes) left
words_in-IsReadTo bytes small = read_to (length bytes) bytes (omega arith) small (word_at_front bytes) refl
