-- Rows of ends that a pattern matches.
use native.Mathlib.Omega.{arith}
use Rattle.std.proofs.lemmas.Grind.{common_steps}
use Rattle.std.proofs.Common.{◌≡◌, ◌≢◌, ℕ, suc, zero, ◌+◌, ◌<◌, ◌≤◌, ◌||◌, Bool, true, false, List, [], ◌∷◌, ◌++◌}
use Rattle.std.proofs.Common.{drop, length, refl, slice_index_or, slice_index}
use native.Mathlib.Decide.{ℕ_discrete}
use Rattle.std.proofs.Common.{replicate, slice_set, sym, subst, ap, ◌∙◌}
use mathlib.Core.Logic.{dite}
use Rattle.std.proofs.lemmas.List.{get_or-set_same, get_or-set_other, get_or_read}
use Rattle.collect_command.specs.Patterns.{some_end, begins_with, is_no_text, matches, matches_behind, IsRow}

-- of an end that isn't the last
pub end_at : (f : List ℕ → Bool) (at : ℕ) (text : List ℕ) → at < length text
    → some_end f (drop at text) ≡ f (drop at text) || some_end f (drop (suc at) text)
end_at f at [] below = grind (arith, common_steps)
end_at f zero (b ∷ bs) below = refl
end_at f (suc at) (b ∷ bs) below = end_at f at bs (omega arith)

pub matches_at : (at : ℕ) (pattern text : List ℕ) → at < length pattern
    → matches (drop at pattern) text ≡ matches_behind (slice_index pattern at) (matches (drop (suc at) pattern)) text
matches_at at [] text below = grind (arith, common_steps)
matches_at zero (p ∷ ps) text below = refl
matches_at (suc at) (p ∷ ps) text below = matches_at at ps text (omega arith)

pub no_text_at : (at : ℕ) (text : List ℕ) → at ≤ length text
    → slice_index_or (replicate (length text) false ++ true ∷ []) at false ≡ is_no_text (drop at text)
no_text_at zero [] below = refl
no_text_at (suc at) [] below = grind (arith, common_steps)
no_text_at zero (b ∷ bs) below = refl
no_text_at (suc at) (b ∷ bs) below = no_text_at at bs (omega arith)

pub behind_star : (wanted : ℕ) → wanted ≡ 42 → (f : List ℕ → Bool) (text : List ℕ)
    → matches_behind wanted f text ≡ some_end f text
behind_star wanted is f text = grind (arith, common_steps)

pub behind_byte : (wanted : ℕ) → wanted ≢ 42 → (f : List ℕ → Bool) (text : List ℕ)
    → matches_behind wanted f text ≡ begins_with wanted f text
behind_byte wanted is f text = grind (arith, common_steps)

-- one end more in front of ends that are matched behind `*`
pub star_step : (f : List ℕ → Bool) (text : List ℕ) (row : List Bool) (at : ℕ) (one next : Bool)
    → at < length text → length row ≡ suc (length text)
    → one ≡ slice_index_or row at one → next ≡ slice_index_or row (at + 1) next
    → slice_index_or row at false ≡ f (drop at text)
    → ((k : ℕ) → suc at ≤ k → k ≤ length text → slice_index_or row k false ≡ some_end f (drop k text))
    → (k : ℕ) → at ≤ k → k ≤ length text
    → slice_index_or (slice_set row at (one || next)) k false ≡ some_end f (drop k text)
star_step f text row at one next below count one_is next_is here behind k from to = dite (ℕ_discrete k at)
    (λ same. subst (λ (j : ℕ). slice_index_or (slice_set row at (one || next)) j false ≡ some_end f (drop j text))
    (sym same)
    (get_or-set_same row at (one || next) false (omega arith)
    ∙ ap (λ (a : Bool). a || next) (get_or_read row at one (omega arith) one_is false ∙ here)
    ∙ ap (λ (b : Bool). f (drop at text) || b)
    (get_or_read row (suc at) next (omega arith) next_is_so false ∙ behind (suc at) (omega arith) (omega arith))
    ∙ sym (end_at f at text below)))
    (λ other. get_or-set_other row at k (one || next) false other ∙ behind k (omega arith) to) where
      one_more : at + 1 ≡ suc at
      one_more = omega arith

      next_is_so : next ≡ slice_index_or row (suc at) next
      next_is_so = subst (λ (j : ℕ). next ≡ slice_index_or row j next) one_more next_is

-- the row of a pattern's end, from that of the end behind its first byte
pub row_before : (pattern text : List ℕ) (old row : List Bool) (at next : ℕ) → at < length pattern → next ≡ suc at
    → ((f : List ℕ → Bool) → IsRow f text old → IsRow (matches_behind (slice_index pattern at) f) text row)
    → IsRow (matches (drop next pattern)) text old
    → IsRow (matches (drop at pattern)) text row
row_before pattern text old row at next below next_is put known = record {
  count = is.count;
  each = λ k within. is.each k within ∙ sym (matches_at at pattern (drop k text) below);
} where
  is : IsRow (matches_behind (slice_index pattern at) (matches (drop (suc at) pattern))) text row
  is = put _ (subst (λ (k : ℕ). IsRow (matches (drop k pattern)) text old) next_is known)

pub first_row : (text : List ℕ) (row : List Bool) → row ≡ replicate (length text) false ++ true ∷ []
    → IsRow is_no_text text row
first_row text row is = record {
  count = grind (arith, common_steps);
  each = λ at within. ap (λ (r : List Bool). slice_index_or r at false) is ∙ no_text_at at text within;
}
