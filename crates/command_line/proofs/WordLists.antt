-- The words behind a command, one after another.
use Rattle.std.proofs.Common.{◌≡◌, ℕ, ◌+◌, ◌<◌, ◌&&◌, ◌||◌, Bool, true, false, List, ◌∷◌, length}
use Rattle.std.proofs.Common.{drop, drop-cons, map, slice_index_or, bytes_eq, codes, refl, sym, ap, ◌∙◌}
use Rattle.std.proofs.lemmas.Slice.Eq.{bytes_eq-Decides}
use native.Mathlib.Numerals.{unary_clauses}
use Rattle.command_line.specs.Causes.{begins_with, has_value, has_word, is_joined}

-- a word is itself
pub same_word : (word : List ℕ) → bytes_eq word word ≡ true
same_word word = (bytes_eq-Decides word word).1 refl

or_true : (a : Bool) → (a || true) ≡ true
or_true true = refl
or_true false = refl

-- the words left begin with the one that is read
pub next_word : {T : Type 0} (text : T → List ℕ) (words : List T) (i : ℕ) (item : T) → i < length words
    → item ≡ slice_index_or words i item → map text (drop i words) ≡ text item ∷ map text (drop (i + 1) words)
next_word text words i item inside is =
    let cut : map text (drop i words) ≡ text (slice_index_or words i item) ∷ map text (drop (i + 1) words) =
    simp unary_clauses (ap (map text) (drop-cons words i item inside)) in
    cut ∙ ap (λ w. text w ∷ map text (drop (i + 1) words)) (sym is)

-- what the words behind one have, all have, if it isn't `--`
pub value_behind : (option value word : List ℕ) (words : List (List ℕ)) → bytes_eq word (codes "--") ≡ false
    → has_value option value words ≡ true → has_value option value (word ∷ words) ≡ true
value_behind option value word words other has =
    rw (other, has) (search_or (is_joined option value word) (bytes_eq word option && begins_with value words))
  where
    search_or : (a b : Bool) → (a || (b || true)) ≡ true
    search_or true b = refl
    search_or false b = or_true b

-- it may be the option, with its value behind it
pub value_after : (option value word : List ℕ) (words : List (List ℕ)) → bytes_eq word (codes "--") ≡ false
    → bytes_eq word option ≡ true → begins_with value words ≡ true → has_value option value (word ∷ words) ≡ true
value_after option value word words other is next = rw (other, is, next) (or_true (is_joined option value word))

pub word_here : (word : List ℕ) (words : List (List ℕ)) → has_word word (word ∷ words) ≡ true
word_here word words = rw (same_word word) refl
