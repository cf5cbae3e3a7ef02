-- Data has at most one reading, and it is what the reader word by word gives.
use Rattle.std.proofs.Common.{◌≡◌, ℕ, zero, suc, ◌≤◌, List, [], ◌∷◌, ◌++◌, length, Option, None, refl, sym, ap, ◌∙◌}
use Rattle.std.proofs.Common.{⊎_elim, arith, length-append, append_assoc}
use Rattle.std.specs.Option.{option_map_or}
use Rattle.std.specs.List.{AllByRecursion}
use Rattle.std.proofs.lemmas.List.{append_cancel_left}
use Rattle.trace_model.specs.Record.{Record}
use Rattle.trace_model.specs.Words.{Word, bytes_of_word, IsWord, IsEnding, joined, records_of, IsJoined, Decodes}
use Rattle.trace_model.specs.Reading.{word_at_front, words_within, words_in, records_in}
use Rattle.trace_model.proofs.words.Lengths.{bytes_of_word_ge, length-joined_cons}
use Rattle.trace_model.proofs.words.OneWord.{word_at_front-word, word_at_front-ending, word_at_front-nil}

-- no word is at the front of an ending
pub word_at_front-IsEnding : (rest : List ℕ) → IsEnding rest → word_at_front rest ≡ None
word_at_front-IsEnding rest ending = ⊎_elim
    (λ none. ap word_at_front none ∙ word_at_front-nil)
    (λ pad. ap word_at_front pad.1 ∙ word_at_front-ending pad.0)
    ending

-- there are at most as many words as bytes of them
pub length-words : (words : List Word) → length words ≤ length (joined words)
length-words [] = omega arith
length-words (w ∷ words) =
    let fewer = length-words words in
    let some = bytes_of_word_ge w in
    omega (arith, length-joined_cons w words)

-- one step of the reader
next : ℕ → Option (Word × List ℕ) → List Word
next n found = option_map_or (λ (f : Word × List ℕ). f.0 ∷ words_within n f.1) found []

pub words_within-joined : (n : ℕ) (words : List Word) (rest : List ℕ) → length words ≤ n → AllByRecursion IsWord words
    → IsEnding rest → words_within n (joined words ++ rest) ≡ words
unfolding next
words_within-joined zero [] rest few each ending = refl
words_within-joined zero (w ∷ words) rest few each ending = absurd (omega arith)
words_within-joined (suc n) [] rest few each ending = ap (next n) (word_at_front-IsEnding rest ending)
words_within-joined (suc n) (w ∷ words) rest few each ending =
    ap (next n)
    (ap word_at_front (append_assoc (bytes_of_word w) (joined words) rest)
    ∙ word_at_front-word w (joined words ++ rest) each.0)
    ∙ ap (λ (ws : List Word). w ∷ ws) (words_within-joined n words rest (omega arith) each.1 ending)

-- the words of data are those that the reader finds
pub words_in-IsJoined : (bytes : List ℕ) (words : List Word) (rest : List ℕ) → IsJoined bytes words rest
    → words_in bytes ≡ words
unfolding words_in
words_in-IsJoined bytes words rest cut =
    let fewer = length-words words in
    let room : length words ≤ length bytes = omega (arith, ap length cut.whole, length-append (joined words) rest) in
    ap (words_within (length bytes)) cut.whole ∙ words_within-joined (length bytes) words rest room cut.each cut.ending

pub IsJoined-words_unique : (bytes : List ℕ) (words others : List Word) (rest left : List ℕ) → IsJoined bytes words rest
    → IsJoined bytes others left → words ≡ others
IsJoined-words_unique bytes words others rest left cut other =
    sym (words_in-IsJoined bytes words rest cut) ∙ words_in-IsJoined bytes others left other

pub IsJoined-rest_unique : (bytes : List ℕ) (words others : List Word) (rest left : List ℕ) → IsJoined bytes words rest
    → IsJoined bytes others left → rest ≡ left
IsJoined-rest_unique bytes words others rest left cut other =
    let same = IsJoined-words_unique bytes words others rest left cut other in
    append_cancel_left (joined words) rest left
    (sym cut.whole ∙ other.whole ∙ ap (λ (ws : List Word). joined ws ++ left) (sym same))

-- a reading is what the plain reader gives
pub records_in-Decodes : (bytes : List ℕ) (time : ℕ) (records : List Record) → Decodes bytes time records
    → records_in time bytes ≡ records
records_in-Decodes bytes time records reads =
    ap (records_of time) (words_in-IsJoined bytes reads.words reads.rest reads.cut) ∙ sym reads.read

-- data has at most one reading
pub Decodes-unique : (bytes : List ℕ) (time : ℕ) (records others : List Record) → Decodes bytes time records
    → Decodes bytes time others → records ≡ others
Decodes-unique bytes time records others reads other =
    sym (records_in-Decodes bytes time records reads) ∙ records_in-Decodes bytes time others other
