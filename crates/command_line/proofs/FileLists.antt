-- What is read of a list of FILEs, word after word.
use Rattle.std.proofs.Common.{◌≡◌, ℕ, ◌+◌, ◌<◌, ◌&&◌, Bool, true, false, nat_lt, nat_le, if◌then◌else◌, length, drop}
use Rattle.std.proofs.Common.{drop-cons, map, slice_index_or, Bor, List, [], ◌∷◌, ◌++◌, Option, None, Some, option_map}
use Rattle.std.proofs.Common.{refl, sym, ap, ◌∙◌, append_assoc}
use Rattle.std.proofs.lemmas.List.{map-append}
use native.Mathlib.Numerals.{unary_clauses}
use Rattle.std.specs.Prelude.{option_and_then}
use Rattle.command_line.specs.FileWords.{file_list, file_word, file_words, with_one_input}
use Rattle.command_line.specs.Calls.{file_seen}
use Rattle.command_line.specs.declared.call.CpuFile.{CpuFile}
use Rattle.trace_model.specs.declared.limits.TheConstants.{MAX_CPUS}

Read : Type 0
Read = ℕ × List ℕ

-- what comes before a file and the files after it
put_before : (before : List Read) (file : Read) (rest : Option (List Read))
    → option_map (λ r. before ++ r) (option_map (λ r. file ∷ r) rest)
    ≡ option_map (λ r. (before ++ file ∷ []) ++ r) rest
unfolding Read
put_before before file None = refl
put_before before file (Some r) = ap Some (sym (append_assoc before (file ∷ []) r))

none_either : {T : Type 0} (b : Bool) (o : Option T) → o ≡ None → (if b then o else None) ≡ None
none_either true o is = is
none_either false o is = refl

-- one word more is read
pub read_more : (all : Option (List (ℕ × List ℕ))) (before : List (ℕ × List ℕ)) (n : ℕ) (word : List ℕ)
    (words : List (List ℕ)) (file : ℕ × List ℕ)
    → all ≡ option_map (λ r. before ++ r) (file_words n (word ∷ words)) → file_word n word ≡ Some file
    → all ≡ option_map (λ r. (before ++ file ∷ []) ++ r) (file_words (n + 1) words)
unfolding put_before Read
read_more all before n word words file so_far is =
    so_far
    ∙ ap
    (λ o.
    option_map (λ r. before ++ r)
    (option_and_then (λ f. option_map (λ fs. f ∷ fs) (file_words (n + 1) words)) o)) is
    ∙ put_before before file (file_words (n + 1) words)

-- one that can't be read leaves none
pub read_none : (all : Option (List (ℕ × List ℕ))) (before : List (ℕ × List ℕ)) (n : ℕ) (word : List ℕ)
    (words : List (List ℕ))
    → all ≡ option_map (λ r. before ++ r) (file_words n (word ∷ words)) → file_word n word ≡ None → all ≡ None
read_none all before n word words so_far is =
    so_far
    ∙ ap
    (λ o.
    option_map (λ r. before ++ r)
    (option_and_then (λ f. option_map (λ fs. f ∷ fs) (file_words (n + 1) words)) o)) is

next_word : (words : List (Bor (List ℕ))) (i : ℕ) (d : Bor (List ℕ)) → i < length words
    → map (λ w. w.now) (drop i words) ≡ (slice_index_or words i d).now ∷ map (λ w. w.now) (drop (i + 1) words)
next_word words i d l = let now : Bor (List ℕ) → List ℕ = λ w. w.now in
    simp unary_clauses (ap (map now) (drop-cons words i d l))

-- the files so far, one word, and the words left
module _ (words : List (Bor (List ℕ))) (i n : ℕ) (d : Bor (List ℕ)) (files : List CpuFile) (inside : i < length words)
    (so_far : file_words 0 (map (λ w. w.now) words)
    ≡ option_map (λ rest. map file_seen files ++ rest) (file_words n (map (λ w. w.now) (drop i words)))) where
  abbrev rest : List (List ℕ)
  rest = map (λ w. w.now) (drop (i + 1) words)

  here : file_words 0 (map (λ w. w.now) words)
      ≡ option_map (λ rest. map file_seen files ++ rest) (file_words n ((slice_index_or words i d).now ∷ rest))
  here =
      so_far
      ∙ ap (λ ws. option_map (λ rest. map file_seen files ++ rest) (file_words n ws)) (next_word words i d inside)

  pub one_more : (file : CpuFile) → Some (file_seen file) ≡ file_word n (slice_index_or words i d).now
      → file_words 0 (map (λ w. w.now) words)
      ≡ option_map (λ rest. map file_seen (files ++ file ∷ []) ++ rest)
      (file_words (n + 1) (map (λ w. w.now) (drop (i + 1) words)))
  one_more file is =
      read_more _ (map file_seen files) n (slice_index_or words i d).now rest (file_seen file) here (sym is)
      ∙ ap (λ before. option_map (λ rest. before ++ rest) (file_words (n + 1) (map (λ w. w.now) (drop (i + 1) words))))
      (sym (map-append file_seen files (file ∷ [])))

  pub no_more : None ≡ file_word n (slice_index_or words i d).now → file_list (map (λ w. w.now) words) ≡ None
  no_more is =
      none_either (nat_lt 0 (length (map (λ w. w.now) words)) && nat_le (length (map (λ w. w.now) words)) MAX_CPUS) _
      (ap (option_and_then with_one_input)
      (read_none _ (map file_seen files) n (slice_index_or words i d).now rest here (sym is)))
