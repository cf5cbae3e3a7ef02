-- Data with a time has one reading or one first fault, and never both.
use Rattle.std.proofs.Common.{◌≡◌, ◌≢◌, ◌⊎◌, inl, inr, ⊎_elim, ℕ, ◌^◌, ◌<◌, ◌≤◌, List, [], ◌∷◌, ◌++◌, length, None}
use Rattle.std.proofs.Common.{refl, sym, ap, ◌∙◌, subst, arith, append_assoc, append-nil, length-append}
use Rattle.std.specs.List.{AllByRecursion}
use Rattle.std.proofs.lemmas.List.{append_cancel_left}
use Rattle.std.proofs.lemmas.List.Concat.{flat_map-append}
use Rattle.std.proofs.lemmas.Bool.{cases_lt}
use Rattle.trace_model.specs.Record.{Record}
use Rattle.trace_model.specs.Words.{Word, short_data, long_data, padding, time_extend, time_stamp, bytes_of_word}
use Rattle.trace_model.specs.Words.{IsWord, IsEnding, joined, moment_after, MovesTime, FitsTime, Decodes, records_of}
use Rattle.trace_model.specs.Reading.{word_at_front, words_in}
use Rattle.trace_model.specs.Faults.{Cause, cut, bad_length, time_overflow, IsWordFault}
use Rattle.trace_model.specs.FirstFault.{AreBytes, Overflows, IsFaultBehind, FirstFault}
use Rattle.trace_model.proofs.words.Lengths.{bytes_of_word_ge}
use Rattle.trace_model.proofs.words.OneWord.{word_at_front-word}
use Rattle.trace_model.proofs.words.Unique.{words_in-IsJoined}
use Rattle.trace_model.proofs.words.Stepped.{words_in-found, words_in-none, words_in-IsReadTo}
use Rattle.trace_model.proofs.words.Walked.{words_in-behind}
use Rattle.trace_model.proofs.words.Appended.{FitsTime-nil, FitsTime-push}
use Rattle.trace_model.proofs.words.Places.{at_one, in_front, behind_it, splits_twice}
use Rattle.trace_model.proofs.words.WordFaults.{front-fault, front_cases, HasWord-none, HasEnding-HasFault}
use Rattle.trace_model.proofs.words.WordFaults.{IsWordFault-same}

-- ---- what the reader finds before a fault

-- before a word that is faulty or cut, the words are those that the reader finds
words_to_fault : (bytes : List ℕ) (words : List Word) (rest : List ℕ) (cause : Cause) → bytes ≡ joined words ++ rest
    → AllByRecursion IsWord words → IsWordFault rest cause → words_in bytes ≡ words
words_to_fault bytes words rest cause whole each fault =
    ap words_in whole ∙ words_in-behind words rest each
    ∙ ap (λ (ws : List Word). words ++ ws) (words_in-none rest (front-fault rest cause fault)) ∙ append-nil words

-- a word whose time overflows is one of them, after those before it
words_to_overflow : (bytes : List ℕ) (time : ℕ) (words : List Word) (rest : List ℕ) → bytes ≡ joined words ++ rest
    → AllByRecursion IsWord words → (o : Overflows time words rest)
    → words_in bytes ≡ words ++ o.word ∷ words_in o.behind
words_to_overflow bytes time words rest whole each o =
    ap words_in whole ∙ words_in-behind words rest each
    ∙ ap (λ (ws : List Word). words ++ ws)
    (words_in-found rest o.word o.behind (ap word_at_front o.stands ∙ word_at_front-word o.word o.behind o.is_word))

-- words whose times fit have none that overflows
never_past : (time : ℕ) (words : List Word) (front : List Word) (w : Word) (more : List Word) → FitsTime time words
    → words ≡ front ++ w ∷ more → MovesTime w → 2 ^ 64 ≤ moment_after time (front ++ w ∷ []) → ⊥
never_past time words front w more fits parts moves past = let below = fits front w more parts moves in omega arith

-- ---- a reading and a fault exclude each other

ending_or_fault : (rest : List ℕ) (cause : Cause) → rest ≢ [] → IsEnding rest → IsWordFault rest cause → ⊥
ending_or_fault rest cause some ending fault =
    ⊎_elim (λ none. some none) (λ ends. HasEnding-HasFault rest cause ends fault) ending

no_word_fault : (bytes : List ℕ) (time : ℕ) (records : List Record) (cause : Cause) (words : List Word) (rest : List ℕ)
    → Decodes bytes time records → bytes ≡ joined words ++ rest → AllByRecursion IsWord words → rest ≢ []
    → IsWordFault rest cause → ⊥
no_word_fault bytes time records cause words rest reads whole each some fault =
    let same : reads.words ≡ words =
    sym (words_in-IsJoined bytes reads.words reads.rest reads.cut)
    ∙ words_to_fault bytes words rest cause whole each fault in
    let left : reads.rest ≡ rest =
    append_cancel_left (joined words) reads.rest rest
    (ap (λ (ws : List Word). joined ws ++ reads.rest) (sym same) ∙ sym reads.cut.whole ∙ whole) in
    ending_or_fault rest cause some (subst IsEnding left reads.cut.ending) fault

no_overflow : (bytes : List ℕ) (time : ℕ) (records : List Record) (words : List Word) (rest : List ℕ)
    → Decodes bytes time records → bytes ≡ joined words ++ rest → AllByRecursion IsWord words
    → Overflows time words rest → ⊥
no_overflow bytes time records words rest reads whole each o =
    let same : reads.words ≡ words ++ o.word ∷ words_in o.behind =
    sym (words_in-IsJoined bytes reads.words reads.rest reads.cut)
    ∙ words_to_overflow bytes time words rest whole each o in
    never_past time reads.words words o.word (words_in o.behind) reads.in_time same o.moves o.past

pub Decodes-FirstFault : (bytes : List ℕ) (time : ℕ) (records : List Record) (cause : Cause) (at : ℕ)
    → Decodes bytes time records → FirstFault bytes time cause at → ⊥
Decodes-FirstFault bytes time records cut at reads f =
    no_word_fault bytes time records cut f.words f.rest reads f.whole f.each f.some_left f.fault
Decodes-FirstFault bytes time records bad_length at reads f =
    no_word_fault bytes time records bad_length f.words f.rest reads f.whole f.each f.some_left f.fault
Decodes-FirstFault bytes time records time_overflow at reads f =
    no_overflow bytes time records f.words f.rest reads f.whole f.each f.fault

-- ---- one first fault

abbrev SameFault : Cause → ℕ → Cause → ℕ → Type 0
SameFault cause at other there = (cause ≡ other) × (at ≡ there)

same_word_fault : (bytes : List ℕ) (words others : List Word) (rest left : List ℕ) (cause other : Cause)
    → bytes ≡ joined words ++ rest → bytes ≡ joined others ++ left → AllByRecursion IsWord words
    → AllByRecursion IsWord others
    → IsWordFault rest cause → IsWordFault left other
    → SameFault cause (length (joined words)) other (length (joined others))
same_word_fault bytes words others rest left cause other whole whole_too each each_too fault fault_too =
    let same : words ≡ others =
    sym (words_to_fault bytes words rest cause whole each fault)
    ∙ words_to_fault bytes others left other whole_too each_too fault_too in
    let behind : rest ≡ left =
    append_cancel_left (joined words) rest left
    (sym whole ∙ whole_too ∙ ap (λ (ws : List Word). joined ws ++ left) (sym same)) in (
      IsWordFault-same left cause other (subst (λ (b : List ℕ). IsWordFault b cause) behind fault) fault_too,
      ap (λ (ws : List Word). length (joined ws)) same,
    )

fault_or_overflow : (bytes : List ℕ) (time : ℕ) (words others : List Word) (rest left : List ℕ) (cause : Cause)
    → bytes ≡ joined words ++ rest → bytes ≡ joined others ++ left → AllByRecursion IsWord words
    → AllByRecursion IsWord others
    → FitsTime time words → IsWordFault rest cause → Overflows time others left → ⊥
fault_or_overflow bytes time words others rest left cause whole whole_too each each_too fits fault o =
    let same : words ≡ others ++ o.word ∷ words_in o.behind =
    sym (words_to_fault bytes words rest cause whole each fault)
    ∙ words_to_overflow bytes time others left whole_too each_too o in
    never_past time words others o.word (words_in o.behind) fits same o.moves o.past

same_overflow : (bytes : List ℕ) (time : ℕ) (words others : List Word) (rest left : List ℕ)
    → bytes ≡ joined words ++ rest → bytes ≡ joined others ++ left → AllByRecursion IsWord words
    → AllByRecursion IsWord others
    → FitsTime time words → FitsTime time others → Overflows time words rest → Overflows time others left
    → length (joined words) ≡ length (joined others)
same_overflow bytes time words others rest left whole whole_too each each_too fits fits_too o p =
    elim
    (splits_twice words o.word (words_in o.behind) others p.word (words_in p.behind)
    (sym (words_to_overflow bytes time words rest whole each o)
    ∙ words_to_overflow bytes time others left whole_too each_too p)) [
      | at_one fronts here behinds ↦ ap (λ (ws : List Word). length (joined ws)) fronts
      | in_front more parts tail ↦ absurd (never_past time others words o.word more fits_too parts o.moves o.past)
      | behind_it more parts tail ↦ absurd (never_past time words others p.word more fits parts p.moves p.past)
    ]

-- both faults, by their causes
same_fault : (bytes : List ℕ) (time : ℕ) (words others : List Word) (rest left : List ℕ) (cause other : Cause)
    → bytes ≡ joined words ++ rest → bytes ≡ joined others ++ left → AllByRecursion IsWord words
    → AllByRecursion IsWord others
    → FitsTime time words → FitsTime time others → IsFaultBehind time words rest cause
    → IsFaultBehind time others left other → SameFault cause (length (joined words)) other (length (joined others))
same_fault bytes time words others rest left cut cut whole whole_too each each_too fits fits_too f g =
    same_word_fault bytes words others rest left cut cut whole whole_too each each_too f g
same_fault bytes time words others rest left cut bad_length whole whole_too each each_too fits fits_too f g =
    same_word_fault bytes words others rest left cut bad_length whole whole_too each each_too f g
same_fault bytes time words others rest left cut time_overflow whole whole_too each each_too fits fits_too f g =
    absurd (fault_or_overflow bytes time words others rest left cut whole whole_too each each_too fits f g)
same_fault bytes time words others rest left bad_length cut whole whole_too each each_too fits fits_too f g =
    same_word_fault bytes words others rest left bad_length cut whole whole_too each each_too f g
same_fault bytes time words others rest left bad_length bad_length whole whole_too each each_too fits fits_too f g =
    same_word_fault bytes words others rest left bad_length bad_length whole whole_too each each_too f g
same_fault bytes time words others rest left bad_length time_overflow whole whole_too each each_too fits fits_too f g =
    absurd (fault_or_overflow bytes time words others rest left bad_length whole whole_too each each_too fits f g)
same_fault bytes time words others rest left time_overflow cut whole whole_too each each_too fits fits_too f g =
    absurd (fault_or_overflow bytes time others words left rest cut whole_too whole each_too each fits_too g f)
same_fault bytes time words others rest left time_overflow bad_length whole whole_too each each_too fits fits_too f g =
    absurd (fault_or_overflow bytes time others words left rest bad_length whole_too whole each_too each fits_too g f)
same_fault bytes time words others rest left time_overflow time_overflow whole whole_too each each_too fits fits_too f
    g =
    (refl, same_overflow bytes time words others rest left whole whole_too each each_too fits fits_too f g)

pub FirstFault-unique : (bytes : List ℕ) (time : ℕ) (cause other : Cause) (at there : ℕ)
    → FirstFault bytes time cause at → FirstFault bytes time other there → (cause ≡ other) × (at ≡ there)
FirstFault-unique bytes time cause other at there f g =
    let same =
    same_fault bytes time f.words g.words f.rest g.rest cause other f.whole g.whole f.each g.each f.in_time
    g.in_time f.fault g.fault in
    (same.0, f.at_is ∙ same.1 ∙ sym g.at_is)

-- ---- one of the two

moves_or : (w : Word) → MovesTime w ⊎ (MovesTime w → ⊥)
moves_or (short_data delta payload) = inl tt
moves_or (long_data delta payload) = inl tt
moves_or (padding delta skipped) = inr (λ moves. moves)
moves_or (time_extend delta) = inl tt
moves_or (time_stamp time) = inr (λ moves. moves)

-- of words after a front whose times fit, the first at which the time overflows
record OverflowsIn (time : ℕ) (front words : List Word) : Type 0 where
  before : List Word
  word : Word
  behind : List Word
  cut : words ≡ before ++ word ∷ behind
  in_time : FitsTime time (front ++ before)
  moves : MovesTime word
  past : 2 ^ 64 ≤ moment_after time ((front ++ before) ++ word ∷ [])

further : (time : ℕ) (front : List Word) (w : Word) (words : List Word) → OverflowsIn time (front ++ w ∷ []) words
    → OverflowsIn time front (w ∷ words)
further time front w words o = record {
  before = w ∷ o.before;
  word = o.word;
  behind = o.behind;
  cut = ap (λ (ws : List Word). w ∷ ws) o.cut;
  in_time = subst (FitsTime time) (append_assoc front (w ∷ []) o.before) o.in_time;
  moves = o.moves;
  past =
      subst (λ (ws : List Word). 2 ^ 64 ≤ moment_after time (ws ++ o.word ∷ [])) (append_assoc front (w ∷ []) o.before)
      o.past;
}

-- one word more, of which nothing is known yet
step : (time : ℕ) (front : List Word) (w : Word) (words : List Word) → FitsTime time front
    → (FitsTime time (front ++ w ∷ [])
    → FitsTime time ((front ++ w ∷ []) ++ words) ⊎ OverflowsIn time (front ++ w ∷ []) words)
    → FitsTime time (front ++ w ∷ words) ⊎ OverflowsIn time front (w ∷ words)
step time front w words fits rest =
    ⊎_elim (λ (moves : MovesTime w).
    ⊎_elim (λ below. go (λ m. below)) (λ past. inr (record {
      before = [];
      word = w;
      behind = words;
      cut = refl;
      in_time = subst (FitsTime time) (sym (append-nil front)) fits;
      moves = moves;
      past = subst (λ (ws : List Word). 2 ^ 64 ≤ moment_after time (ws ++ w ∷ [])) (sym (append-nil front)) past;
    })) (cases_lt (moment_after time (front ++ w ∷ [])) (2 ^ 64)))
    (λ (stays : MovesTime w → ⊥). go (λ m. absurd (stays m)))
    (moves_or w)
  where
    go : (MovesTime w → moment_after time (front ++ w ∷ []) < 2 ^ 64)
        → FitsTime time (front ++ w ∷ words) ⊎ OverflowsIn time front (w ∷ words)
    go here = ⊎_elim
        (λ all. inl (subst (FitsTime time) (append_assoc front (w ∷ []) words) all))
        (λ o. inr (further time front w words o))
        (rest (FitsTime-push time front w fits here))

fits_or_overflows : (time : ℕ) (front words : List Word) → FitsTime time front
    → FitsTime time (front ++ words) ⊎ OverflowsIn time front words
fits_or_overflows time front [] fits = inl (subst (FitsTime time) (sym (append-nil front)) fits)
fits_or_overflows time front (w ∷ words) fits =
    step time front w words fits (λ more. fits_or_overflows time (front ++ w ∷ []) words more)

-- a reading, or a first fault
abbrev pub IsReadOrFaulty : List ℕ → ℕ → Type 0
IsReadOrFaulty bytes time =
    ((records : List Record) × Decodes bytes time records)
    ⊎ ((cause : Cause) × (at : ℕ) × FirstFault bytes time cause at)

-- words whose times fit, and after them an ending
from_ending : (bytes : List ℕ) (time : ℕ) (words : List Word) (left : List ℕ) → bytes ≡ joined words ++ left
    → AllByRecursion IsWord words → FitsTime time words → IsEnding left → IsReadOrFaulty bytes time
from_ending bytes time words left whole each fits ending =
    inl (
      records_of time words,
      record {
        words = words;
        rest = left;
        cut = record { whole = whole; each = each; ending = ending };
        in_time = fits;
        read = refl;
      },
    )

pub FirstFault-from_word : (bytes : List ℕ) (time : ℕ) (words : List Word) (left : List ℕ) (cause : Cause)
    → bytes ≡ joined words ++ left → AllByRecursion IsWord words → FitsTime time words → left ≢ []
    → IsWordFault left cause → FirstFault bytes time cause (length (joined words))
FirstFault-from_word bytes time words left cut whole each fits some fault =
    record {
      words = words;
      rest = left;
      whole = whole;
      each = each;
      in_time = fits;
      at_is = refl;
      some_left = some;
      fault = fault;
    }
FirstFault-from_word bytes time words left bad_length whole each fits some fault =
    record {
      words = words;
      rest = left;
      whole = whole;
      each = each;
      in_time = fits;
      at_is = refl;
      some_left = some;
      fault = fault;
    }
FirstFault-from_word bytes time words left time_overflow whole each fits some fault = absurd fault

-- words whose times fit, and no word after them
from_left : (bytes : List ℕ) (time : ℕ) (words : List Word) (left : List ℕ) → bytes ≡ joined words ++ left
    → AllByRecursion IsWord words → FitsTime time words → word_at_front left ≡ None → IsReadOrFaulty bytes time
from_left bytes time words [] whole each fits none = from_ending bytes time words [] whole each fits (inl refl)
from_left bytes time words (b ∷ left) whole each fits none = ⊎_elim
    (λ word. absurd (HasWord-none (b ∷ left) none word))
    (λ other. ⊎_elim
    (λ ends. from_ending bytes time words (b ∷ left) whole each fits (inr ends))
    (λ fault.
    inr (
      fault.0,
      length (joined words),
      FirstFault-from_word bytes time words (b ∷ left) fault.0 whole each fits (λ e. cc) fault.1,
    ))
    other)
    (front_cases (b ∷ left) (omega arith))

each_front : (front more : List Word) → AllByRecursion IsWord (front ++ more) → AllByRecursion IsWord front
each_front [] more all = tt
each_front (w ∷ front) more all = (all.0, each_front front more all.1)

each_behind : (front more : List Word) → AllByRecursion IsWord (front ++ more) → AllByRecursion IsWord more
each_behind [] more all = all
each_behind (w ∷ front) more all = each_behind front more all.1

not_nil : (w : Word) (behind : List ℕ) → bytes_of_word w ++ behind ≢ []
not_nil w behind e =
    (let some = bytes_of_word_ge w in let none = ap length e in omega (arith, length-append (bytes_of_word w) behind))

-- words, one of which overflows
from_overflow : (bytes : List ℕ) (time : ℕ) (words : List Word) (left : List ℕ) → bytes ≡ joined words ++ left
    → AllByRecursion IsWord words → OverflowsIn time [] words → IsReadOrFaulty bytes time
from_overflow bytes time words left whole each o =
    let all : AllByRecursion IsWord (o.before ++ o.word ∷ o.behind) = subst (AllByRecursion IsWord) o.cut each in
    let behind : List ℕ = joined o.behind ++ left in
    let parts : joined words ++ left ≡ joined o.before ++ (bytes_of_word o.word ++ behind) =
    ap (λ (ws : List Word). joined ws ++ left) o.cut
    ∙ ap (λ (b : List ℕ). b ++ left) (flat_map-append bytes_of_word o.before (o.word ∷ o.behind))
    ∙ append_assoc (joined o.before) (bytes_of_word o.word ++ joined o.behind) left
    ∙ ap (λ (b : List ℕ). joined o.before ++ b) (append_assoc (bytes_of_word o.word) (joined o.behind) left) in
    inr (
      time_overflow,
      length (joined o.before),
      record {
        words = o.before;
        rest = bytes_of_word o.word ++ behind;
        whole = whole ∙ parts;
        each = each_front o.before (o.word ∷ o.behind) all;
        in_time = o.in_time;
        at_is = refl;
        some_left = not_nil o.word behind;
        fault =
            record {
              word = o.word;
              behind = behind;
              stands = refl;
              is_word = (each_behind o.before (o.word ∷ o.behind) all).0;
              moves = o.moves;
              past = o.past;
            };
      },
    )

pub read_or_faulty : (bytes : List ℕ) (time : ℕ) → AreBytes bytes → IsReadOrFaulty bytes time
read_or_faulty bytes time small =
    let read = words_in-IsReadTo bytes small in
    ⊎_elim
    (λ fits. from_left bytes time (words_in bytes) read.0 read.1.whole read.1.each fits read.1.stops)
    (λ o. from_overflow bytes time (words_in bytes) read.0 read.1.whole read.1.each o)
    (fits_or_overflows time [] (words_in bytes) (FitsTime-nil time))
