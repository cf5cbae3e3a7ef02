-- What is at the front of the bytes: a whole word, an ending padding, or one fault.
use Rattle.std.proofs.Common.{◌≡◌, ◌≢◌, ℕ, ◌+◌, ◌-◌, ◌*◌, ◌%◌, ◌^◌, ◌<◌, ◌≤◌, ◌⊎◌, inl, inr, ⊎_elim, Bool, true, false}
use Rattle.std.proofs.Common.{cond, ltb, eqb, List, [], ◌∷◌, length, take, drop, Option, Some, None, is_some, refl, sym}
use Rattle.std.proofs.Common.{ap, ◌∙◌, arith, length-append, length-drop}
use Rattle.std.proofs.lemmas.Bool.{cond-true, cond-false, lt-ltb, le-ltb, le-leb, lt-leb, eq-eqb, ne_eqb, cases_lt}
use Rattle.std.proofs.lemmas.Bool.{cases_eq, false≢true}
use Rattle.trace_model.specs.Words.{Word, le32, short_data, long_data, padding, time_extend, time_stamp, ending_padding}
use Rattle.trace_model.specs.Reading.{from_le32, part_of, part_with_length, word_behind, word_at_front}
use Rattle.trace_model.specs.Faults.{Cause, cut, bad_length, time_overflow, type_at_front, delta_at_front}
use Rattle.trace_model.specs.Faults.{number_behind, CountsWords, StatesLength, HasHighBits, HasGoodLength, IsCutInHead}
use Rattle.trace_model.specs.Faults.{HasBadLength, IsCutInBody, IsWordFault, HasWord, HasEnding, HasFault}
use Rattle.trace_model.proofs.words.Lengths.{length-le32}
use Rattle.trace_model.proofs.words.OneWord.{from_le32-le32, word_at_front-ending}

-- ---- a part of the bytes

part_of-whole : {X : Type 0} (n : ℕ) (bytes : List ℕ) (make : List ℕ → X) → n ≤ length bytes
    → part_of n bytes make ≡ Some (make (take n bytes), drop n bytes)
part_of-whole n bytes make fits = cond-false _ _ _ (le-ltb (length bytes) n fits)

part_of-cut : {X : Type 0} (n : ℕ) (bytes : List ℕ) (make : List ℕ → X) → length bytes < n → part_of n bytes make ≡ None
part_of-cut n bytes make past = cond-true _ _ _ (lt-ltb (length bytes) n past)

or_none : {X : Type 0} (test : Bool) (found : Option X) → found ≡ None → cond test None found ≡ None
or_none true found none = refl
or_none false found none = none

none_or : {X : Type 0} (test : Bool) (found : Option X) → found ≡ None → cond test found None ≡ None
none_or true found none = none
none_or false found none = refl

part_with_length-whole : {X : Type 0} (bytes : List ℕ) (make : List ℕ → X) → 4 ≤ length bytes → 4 ≤ from_le32 bytes
    → from_le32 bytes % 4 ≡ 0 → from_le32 bytes ≤ length bytes
    → part_with_length bytes make
    ≡ Some (make (take (from_le32 bytes - 4) (drop 4 bytes)), drop (from_le32 bytes - 4) (drop 4 bytes))
part_with_length-whole bytes make long least whole fits =
    cond-false _ _ _ (le-ltb (length bytes) 4 long)
    ∙ cond-false _ _ _ (le-ltb (from_le32 bytes) 4 least)
    ∙ cond-true _ _ _ (eq-eqb (from_le32 bytes % 4) 0 whole)
    ∙ part_of-whole (from_le32 bytes - 4) (drop 4 bytes) make (omega (arith, length-drop 4 bytes))

part_with_length-short : {X : Type 0} (bytes : List ℕ) (make : List ℕ → X) → length bytes < 4
    → part_with_length bytes make ≡ None
part_with_length-short bytes make short = cond-true _ _ _ (lt-ltb (length bytes) 4 short)

part_with_length-bad : {X : Type 0} (bytes : List ℕ) (make : List ℕ → X)
    → (from_le32 bytes < 4) ⊎ (from_le32 bytes % 4 ≢ 0) → part_with_length bytes make ≡ None
part_with_length-bad bytes make (inl less) = or_none _ _ (cond-true _ _ _ (lt-ltb (from_le32 bytes) 4 less))
part_with_length-bad bytes make (inr odd) =
    or_none _ _ (or_none _ _ (cond-false _ _ _ (ne_eqb (from_le32 bytes % 4) 0 odd)))

part_with_length-past : {X : Type 0} (bytes : List ℕ) (make : List ℕ → X) → 4 ≤ length bytes
    → length bytes < from_le32 bytes → part_with_length bytes make ≡ None
part_with_length-past bytes make long past =
    or_none (ltb (length bytes) 4) _
    (or_none (ltb (from_le32 bytes) 4) _
    (none_or (eqb (from_le32 bytes % 4) 0) _
    (part_of-cut (from_le32 bytes - 4) (drop 4 bytes) make (omega (arith, length-drop 4 bytes)))))

-- ---- by the type of the first word

front_is : (bytes : List ℕ) → 4 ≤ length bytes
    → word_at_front bytes ≡ word_behind (type_at_front bytes) (delta_at_front bytes) (drop 4 bytes)
unfolding word_at_front
front_is bytes long = cond-false _ _ _ (le-ltb (length bytes) 4 long)

front_short : (bytes : List ℕ) → length bytes < 4 → word_at_front bytes ≡ None
unfolding word_at_front
front_short bytes short = cond-true _ _ _ (lt-ltb (length bytes) 4 short)

long_behind : (t d : ℕ) (bytes : List ℕ) → t ≡ 0 → word_behind t d bytes ≡ part_with_length bytes (long_data d)
long_behind t d bytes is = cond-true _ _ _ (eq-eqb t 0 is)

short_behind : (t d : ℕ) (bytes : List ℕ) → 1 ≤ t → t ≤ 28
    → word_behind t d bytes ≡ part_of (4 * t) bytes (short_data d)
short_behind t d bytes low high =
    cond-false _ _ _ (ne_eqb t 0 (λ e. absurd (omega arith))) ∙ cond-true _ _ _ (le-leb t 28 high)

above_short : (t d : ℕ) (bytes : List ℕ) → 29 ≤ t
    → word_behind t d bytes
    ≡ cond (eqb t 29) (cond (eqb d 0) None (part_with_length bytes (padding d)))
    (cond (eqb t 30) (part_of 4 bytes (λ high. time_extend (from_le32 high * 2 ^ 27 + d)))
    (part_of 4 bytes (λ high. time_stamp (from_le32 high * 2 ^ 27 + d))))
above_short t d bytes high =
    cond-false _ _ _ (ne_eqb t 0 (λ e. absurd (omega arith))) ∙ cond-false _ _ _ (lt-leb t 28 high)

padding_behind : (t d : ℕ) (bytes : List ℕ) → t ≡ 29 → 1 ≤ d
    → word_behind t d bytes ≡ part_with_length bytes (padding d)
padding_behind t d bytes is some =
    above_short t d bytes (omega arith) ∙ cond-true _ _ _ (eq-eqb t 29 is)
    ∙ cond-false _ _ _ (ne_eqb d 0 (λ e. absurd (omega arith)))

extend_behind : (t d : ℕ) (bytes : List ℕ) → t ≡ 30
    → word_behind t d bytes ≡ part_of 4 bytes (λ high. time_extend (from_le32 high * 2 ^ 27 + d))
extend_behind t d bytes is =
    above_short t d bytes (omega arith) ∙ cond-false _ _ _ (ne_eqb t 29 (λ e. absurd (omega arith)))
    ∙ cond-true _ _ _ (eq-eqb t 30 is)

stamp_behind : (t d : ℕ) (bytes : List ℕ) → 31 ≤ t
    → word_behind t d bytes ≡ part_of 4 bytes (λ high. time_stamp (from_le32 high * 2 ^ 27 + d))
stamp_behind t d bytes high =
    above_short t d bytes (omega arith) ∙ cond-false _ _ _ (ne_eqb t 29 (λ e. absurd (omega arith)))
    ∙ cond-false _ _ _ (ne_eqb t 30 (λ e. absurd (omega arith)))

-- ---- each whole word

-- data in the short form
pub front-short : (bytes : List ℕ) → 4 ≤ length bytes → CountsWords bytes → 4 + 4 * type_at_front bytes ≤ length bytes
    → word_at_front bytes
    ≡ Some (
      short_data (delta_at_front bytes) (take (4 * type_at_front bytes) (drop 4 bytes)),
      drop (4 * type_at_front bytes) (drop 4 bytes),
    )
front-short bytes long counts fits =
    front_is bytes long
    ∙ short_behind (type_at_front bytes) (delta_at_front bytes) (drop 4 bytes) counts.0 counts.1
    ∙ part_of-whole (4 * type_at_front bytes) (drop 4 bytes) (short_data (delta_at_front bytes))
    (omega (arith, length-drop 4 bytes))

part_behind : {X : Type 0} (bytes : List ℕ) (make : List ℕ → X) → HasGoodLength bytes
    → part_with_length (drop 4 bytes) make
    ≡ Some (
      make (take (number_behind bytes - 4) (drop 4 (drop 4 bytes))),
      drop (number_behind bytes - 4) (drop 4 (drop 4 bytes)),
    )
part_behind bytes make has =
    part_with_length-whole (drop 4 bytes) make (omega (arith, length-drop 4 bytes)) has.least has.whole
    (omega (arith, length-drop 4 bytes))

-- data in the long form
pub front-long : (bytes : List ℕ) → type_at_front bytes ≡ 0 → HasGoodLength bytes
    → word_at_front bytes
    ≡ Some (
      long_data (delta_at_front bytes) (take (number_behind bytes - 4) (drop 4 (drop 4 bytes))),
      drop (number_behind bytes - 4) (drop 4 (drop 4 bytes)),
    )
front-long bytes is has =
    front_is bytes (omega arith) ∙ long_behind _ (delta_at_front bytes) (drop 4 bytes) is
    ∙ part_behind bytes (long_data (delta_at_front bytes)) has

pub front-padding : (bytes : List ℕ) → type_at_front bytes ≡ 29 → 1 ≤ delta_at_front bytes → HasGoodLength bytes
    → word_at_front bytes
    ≡ Some (
      padding (delta_at_front bytes) (take (number_behind bytes - 4) (drop 4 (drop 4 bytes))),
      drop (number_behind bytes - 4) (drop 4 (drop 4 bytes)),
    )
front-padding bytes is some has =
    front_is bytes (omega arith) ∙ padding_behind _ (delta_at_front bytes) (drop 4 bytes) is some
    ∙ part_behind bytes (padding (delta_at_front bytes)) has

-- an extend, and a stamp
pub front-extend : (bytes : List ℕ) → type_at_front bytes ≡ 30 → 8 ≤ length bytes
    → word_at_front bytes
    ≡ Some (time_extend (from_le32 (take 4 (drop 4 bytes)) * 2 ^ 27 + delta_at_front bytes), drop 4 (drop 4 bytes))
front-extend bytes is head =
    front_is bytes (omega arith) ∙ extend_behind _ (delta_at_front bytes) (drop 4 bytes) is
    ∙ part_of-whole 4 (drop 4 bytes) (λ high. time_extend (from_le32 high * 2 ^ 27 + delta_at_front bytes))
    (omega (arith, length-drop 4 bytes))

pub front-stamp : (bytes : List ℕ) → 31 ≤ type_at_front bytes → 8 ≤ length bytes
    → word_at_front bytes
    ≡ Some (time_stamp (from_le32 (take 4 (drop 4 bytes)) * 2 ^ 27 + delta_at_front bytes), drop 4 (drop 4 bytes))
front-stamp bytes is head =
    front_is bytes (omega arith) ∙ stamp_behind _ (delta_at_front bytes) (drop 4 bytes) is
    ∙ part_of-whole 4 (drop 4 bytes) (λ high. time_stamp (from_le32 high * 2 ^ 27 + delta_at_front bytes))
    (omega (arith, length-drop 4 bytes))

-- ---- each fault: there is no word

time_cut : (bytes : List ℕ) → 4 ≤ length bytes → length bytes < 8 → HasHighBits bytes → word_at_front bytes ≡ None
time_cut bytes long short high =
    let d : ℕ = delta_at_front bytes in
    let past : length (drop 4 bytes) < 4 = omega (arith, length-drop 4 bytes) in
    front_is bytes long ∙ ⊎_elim
    (λ (less : type_at_front bytes < 31). let is : type_at_front bytes ≡ 30 = omega arith in
    extend_behind (type_at_front bytes) d (drop 4 bytes) is
    ∙ part_of-cut 4 (drop 4 bytes) (λ high. time_extend (from_le32 high * 2 ^ 27 + d)) past)
    (λ more.
    stamp_behind (type_at_front bytes) d (drop 4 bytes) more
    ∙ part_of-cut 4 (drop 4 bytes) (λ high. time_stamp (from_le32 high * 2 ^ 27 + d)) past)
    (cases_lt (type_at_front bytes) 31)

-- if a length is stated, there is no word if no part with that length is there
stated : (bytes : List ℕ) → 4 ≤ length bytes → StatesLength bytes
    → ((make : List ℕ → Word) → part_with_length (drop 4 bytes) make ≡ None) → word_at_front bytes ≡ None
stated bytes long (inl is) none =
    front_is bytes long ∙ long_behind _ (delta_at_front bytes) (drop 4 bytes) is
    ∙ none (long_data (delta_at_front bytes))
stated bytes long (inr is) none =
    front_is bytes long ∙ padding_behind _ (delta_at_front bytes) (drop 4 bytes) is.0 is.1
    ∙ none (padding (delta_at_front bytes))

head_cut : (bytes : List ℕ) → IsCutInHead bytes → word_at_front bytes ≡ None
head_cut bytes (inl few) = front_short bytes few.1
head_cut bytes (inr few) = ⊎_elim
    (λ states.
    stated bytes few.0 states
    (λ make. part_with_length-short (drop 4 bytes) make (omega (arith, length-drop 4 bytes))))
    (λ high. time_cut bytes few.0 few.1 high)
    few.2

length_bad : (bytes : List ℕ) → HasBadLength bytes → word_at_front bytes ≡ None
length_bad bytes bad = stated bytes (omega arith) bad.1 (λ make. part_with_length-bad (drop 4 bytes) make bad.2)

body_cut : (bytes : List ℕ) → IsCutInBody bytes → word_at_front bytes ≡ None
body_cut bytes (inl past) =
    front_is bytes past.0
    ∙ short_behind (type_at_front bytes) (delta_at_front bytes) (drop 4 bytes) past.1.0 past.1.1
    ∙ part_of-cut (4 * type_at_front bytes) (drop 4 bytes) (short_data (delta_at_front bytes))
    (omega (arith, length-drop 4 bytes))
body_cut bytes (inr past) =
    stated bytes (omega arith) past.1
    (λ make.
    part_with_length-past (drop 4 bytes) make (omega (arith, length-drop 4 bytes))
    (omega (arith, length-drop 4 bytes)))

-- where there is a fault, there is no word
pub front-fault : (bytes : List ℕ) (cause : Cause) → IsWordFault bytes cause → word_at_front bytes ≡ None
front-fault bytes cut (inl head) = head_cut bytes head
front-fault bytes cut (inr body) = body_cut bytes body.1
front-fault bytes bad_length bad = length_bad bytes bad.1
front-fault bytes time_overflow never = absurd never

-- ---- one of the three, and no two

-- an ending padding at the front, by its first four bytes
pub HasEnding-from_head : (bytes : List ℕ) → 4 ≤ length bytes → type_at_front bytes ≡ 29 → delta_at_front bytes ≡ 0
    → HasEnding bytes
unfolding from_le32 le32
HasEnding-from_head [] long is none = absurd (omega arith)
HasEnding-from_head (a ∷ []) long is none = absurd (omega arith)
HasEnding-from_head (a ∷ b ∷ []) long is none = absurd (omega arith)
HasEnding-from_head (a ∷ b ∷ c ∷ []) long is none = absurd (omega arith)
HasEnding-from_head (a ∷ b ∷ c ∷ d ∷ bytes) long is none =
    let first : a ≡ 29 = omega arith in
    let second : b ≡ 0 = omega arith in
    let third : c ≡ 0 = omega arith in
    let fourth : d ≡ 0 = omega arith in
    (bytes, λ i. first i ∷ second i ∷ third i ∷ fourth i ∷ bytes)

-- what the first four bytes of an ending padding say
HasEnding-head : (bytes : List ℕ) → HasEnding bytes
    → (type_at_front bytes ≡ 29) × (delta_at_front bytes ≡ 0) × (4 ≤ length bytes)
HasEnding-head bytes ends =
    let number : from_le32 bytes ≡ 29 = ap from_le32 ends.1 ∙ from_le32-le32 29 ends.0 (omega arith) in
    let long : length bytes ≡ 4 + length ends.0 =
    ap length ends.1 ∙ length-append ending_padding ends.0 ∙ ap (λ (n : ℕ). n + length ends.0) (length-le32 29) in
    (omega arith, omega arith, omega arith)

pub front-ending : (bytes : List ℕ) → HasEnding bytes → word_at_front bytes ≡ None
front-ending bytes ends = ap word_at_front ends.1 ∙ word_at_front-ending ends.0

pub HasWord-some : (bytes : List ℕ) (w : Word) (rest : List ℕ) → word_at_front bytes ≡ Some (w, rest) → HasWord bytes
HasWord-some bytes w rest is = ap is_some is

pub HasWord-none : (bytes : List ℕ) → word_at_front bytes ≡ None → HasWord bytes → ⊥
HasWord-none bytes none word = false≢true (sym (ap is_some none) ∙ word)

pub HasWord-HasFault : (bytes : List ℕ) (cause : Cause) → HasWord bytes → IsWordFault bytes cause → ⊥
HasWord-HasFault bytes cause word fault = HasWord-none bytes (front-fault bytes cause fault) word

pub HasWord-HasEnding : (bytes : List ℕ) → HasWord bytes → HasEnding bytes → ⊥
HasWord-HasEnding bytes word ends = HasWord-none bytes (front-ending bytes ends) word

ending_states : (bytes : List ℕ) → HasEnding bytes → StatesLength bytes → ⊥
ending_states bytes ends (inl is) = let head = HasEnding-head bytes ends in omega arith
ending_states bytes ends (inr is) = let head = HasEnding-head bytes ends in omega arith

ending_head : (bytes : List ℕ) → HasEnding bytes → IsCutInHead bytes → ⊥
ending_head bytes ends (inl few) = let head = HasEnding-head bytes ends in omega arith
ending_head bytes ends (inr few) =
    ⊎_elim (ending_states bytes ends)
    (λ (high : HasHighBits bytes). let head = HasEnding-head bytes ends in omega arith) few.2

ending_body : (bytes : List ℕ) → HasEnding bytes → IsCutInBody bytes → ⊥
ending_body bytes ends (inl past) = let head = HasEnding-head bytes ends in omega arith
ending_body bytes ends (inr past) = ending_states bytes ends past.1

pub HasEnding-HasFault : (bytes : List ℕ) (cause : Cause) → HasEnding bytes → IsWordFault bytes cause → ⊥
HasEnding-HasFault bytes cut ends (inl head) = ending_head bytes ends head
HasEnding-HasFault bytes cut ends (inr body) = ending_body bytes ends body.1
HasEnding-HasFault bytes bad_length ends bad = ending_states bytes ends bad.1.1
HasEnding-HasFault bytes time_overflow ends never = never

pub IsWordFault-same : (bytes : List ℕ) (c d : Cause) → IsWordFault bytes c → IsWordFault bytes d → c ≡ d
IsWordFault-same bytes cut cut f g = refl
IsWordFault-same bytes cut bad_length (inl head) g = absurd (g.0 head)
IsWordFault-same bytes cut bad_length (inr body) g = absurd (body.0 g.1)
IsWordFault-same bytes cut time_overflow f g = absurd g
IsWordFault-same bytes bad_length cut f (inl head) = absurd (f.0 head)
IsWordFault-same bytes bad_length cut f (inr body) = absurd (body.0 f.1)
IsWordFault-same bytes bad_length bad_length f g = refl
IsWordFault-same bytes bad_length time_overflow f g = absurd g
IsWordFault-same bytes time_overflow d f g = absurd f

-- where eight bytes are left, the head isn't cut
pub head_whole : (bytes : List ℕ) → 8 ≤ length bytes → IsCutInHead bytes → ⊥
head_whole bytes long (inl few) = omega arith
head_whole bytes long (inr few) = omega arith

-- a good length isn't a bad one
pub length_good : (bytes : List ℕ) → 4 ≤ number_behind bytes → number_behind bytes % 4 ≡ 0 → HasBadLength bytes → ⊥
length_good bytes least whole bad = ⊎_elim (λ (less : number_behind bytes < 4). omega arith) (λ odd. odd whole) bad.2

pub short_good : (bytes : List ℕ) → CountsWords bytes → HasBadLength bytes → ⊥
short_good bytes counts bad =
    ⊎_elim (λ (is : type_at_front bytes ≡ 0). omega arith)
    (λ (is : (type_at_front bytes ≡ 29) × (1 ≤ delta_at_front bytes)). omega arith) bad.1

-- what a stated length can be
pub data Stated (bytes : List ℕ) : Type 0 where
  good : HasGoodLength bytes → Stated bytes
  faulty : (cause : Cause) → IsWordFault bytes cause → Stated bytes

pub stated_cases : (bytes : List ℕ) → 4 ≤ length bytes → StatesLength bytes → Stated bytes
stated_cases bytes long states =
    ⊎_elim (λ short. faulty cut (inl (inr (long, short, inl states)))) (λ head.
    ⊎_elim (λ less. faulty bad_length (head_whole bytes head, (head, states, inl less))) (λ least.
    ⊎_elim (λ whole.
    ⊎_elim (λ past. faulty cut (inr (length_good bytes least whole, inr (head, states, past)))) (λ fits.
    good (record { head = head; least = least; whole = whole; fits = fits }))
    (cases_lt (length bytes) (4 + number_behind bytes)))
    (λ odd. faulty bad_length (head_whole bytes head, (head, states, inr odd)))
    (cases_eq (number_behind bytes % 4) 0))
    (cases_lt (number_behind bytes) 4))
    (cases_lt (length bytes) 8)

Front : List ℕ → Type 0
Front bytes = HasWord bytes ⊎ (HasEnding bytes ⊎ HasFault bytes)

from_stated : (bytes : List ℕ) → (HasGoodLength bytes → HasWord bytes) → Stated bytes → Front bytes
unfolding Front
from_stated bytes word (good has) = inl (word has)
from_stated bytes word (faulty cause fault) = inr (inr (cause, fault))

from_short : (bytes : List ℕ) → 4 ≤ length bytes → CountsWords bytes → Front bytes
unfolding Front
from_short bytes long counts = ⊎_elim
    (λ past. inr (inr (cut, inr (short_good bytes counts, inl (long, counts, past)))))
    (λ fits. inl (HasWord-some bytes _ _ (front-short bytes long counts fits)))
    (cases_lt (length bytes) (4 + 4 * type_at_front bytes))

from_time : (bytes : List ℕ) → 4 ≤ length bytes → HasHighBits bytes → Front bytes
unfolding Front
from_time bytes long high = ⊎_elim
    (λ short. inr (inr (cut, inl (inr (long, short, inr high)))))
    (λ head. inl (⊎_elim
    (λ (less : type_at_front bytes < 31).
    HasWord-some bytes _ _ (front-extend bytes (let is : type_at_front bytes ≡ 30 = omega arith in is) head))
    (λ more. HasWord-some bytes _ _ (front-stamp bytes more head))
    (cases_lt (type_at_front bytes) 31)))
    (cases_lt (length bytes) 8)

from_padding : (bytes : List ℕ) → 4 ≤ length bytes → type_at_front bytes ≡ 29 → Front bytes
unfolding Front
from_padding bytes long is = ⊎_elim
    (λ (less : delta_at_front bytes < 1). let none : delta_at_front bytes ≡ 0 = omega arith in
    inr (inl (HasEnding-from_head bytes long is none)))
    (λ some.
    from_stated bytes (λ has. HasWord-some bytes _ _ (front-padding bytes is some has))
    (stated_cases bytes long (inr (is, some))))
    (cases_lt (delta_at_front bytes) 1)

from_head : (bytes : List ℕ) → 4 ≤ length bytes → Front bytes
from_head bytes long =
    ⊎_elim (λ (less : type_at_front bytes < 1). let is : type_at_front bytes ≡ 0 = omega arith in
    from_stated bytes (λ has. HasWord-some bytes _ _ (front-long bytes is has)) (stated_cases bytes long (inl is)))
    (λ some.
    ⊎_elim
    (λ (less : type_at_front bytes < 29). let high : type_at_front bytes ≤ 28 = omega arith in
    from_short bytes long (some, high)) (λ more.
    ⊎_elim
    (λ (less : type_at_front bytes < 30). let is : type_at_front bytes ≡ 29 = omega arith in
    from_padding bytes long is) (λ high. from_time bytes long high)
    (cases_lt (type_at_front bytes) 30))
    (cases_lt (type_at_front bytes) 29))
    (cases_lt (type_at_front bytes) 1)

-- if some byte is left, one of the three is at the front
pub front_cases : (bytes : List ℕ) → 1 ≤ length bytes → HasWord bytes ⊎ (HasEnding bytes ⊎ HasFault bytes)
unfolding Front
front_cases bytes some = ⊎_elim
    (λ short. inr (inr (cut, inl (inl (some, short)))))
    (λ long. from_head bytes long)
    (cases_lt (length bytes) 4)
